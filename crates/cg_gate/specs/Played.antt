-- What comes of a stimulus that is played on the original and on the written netlist.
use Rattle.std.specs.Prelude.{◌≡◌, ℕ, Bool, List, sum, Option, None, Some}
use Rattle.cg_netlist.specs.Circuit.{Circuit}
use Rattle.cg_netlist.specs.History.{Moment, edges}
use Rattle.cg_plan_text.specs.declared.summary.Edges.{Edges}
use Rattle.cg_plan_text.specs.declared.summary.Played.{Played}
use Rattle.cg_report.specs.Place.{played_moments}
use Rattle.cg_report.specs.Shown.{Shown}
use Rattle.cg_register_text.specs.declared.rises.BothRises.{BothRises}
use Rattle.cg_stimulus.specs.Inputs.{Rows}
use Rattle.cg_stimulus.specs.Played.{IsPlayed}

-- the edges of the history of a netlist on which rows are played
pub record HasEdges (c : Circuit) (rows : List (List Bool)) (count : ℕ) : Type 0 where
  pub history : List Moment
  pub played : IsPlayed c rows history
  pub counted : count ≡ edges c history

-- the edges of both netlists
pub record AreEdges (rows : List (List Bool)) (read written : Circuit) (both : Edges) : Type 0 where
  pub before : HasEdges read rows both.original
  pub after : HasEdges written rows both.written

abbrev pub EdgesAre : Option Rows → Circuit → Circuit → Option Edges → Type 0
EdgesAre None read written told = told ≡ None
EdgesAre (Some stimulus) read written None = ⊥
EdgesAre (Some stimulus) read written (Some both) = AreEdges stimulus.rows read written both

-- the rises of the registers of both netlists, where a stimulus is played, sum up to their edges
abbrev pub SumUp : Option BothRises → Option Edges → Type 0
SumUp None None = Unit {0}
SumUp (Some rises) (Some both) = (sum rises.original ≡ both.original) × (sum rises.written ≡ both.written)
SumUp None (Some both) = ⊥
SumUp (Some rises) None = ⊥

-- what a watcher says of a netlist and of moments of it
abbrev pub Saying : Type 0
Saying = Circuit → List Shown → List ℕ

-- what is said of the moments of the history on which rows are played, each once and in order
pub record IsSaid (says : Saying) (c : Circuit) (rows : List (List Bool)) (line : List ℕ) : Type 0 where
  pub history : List Moment
  pub played : IsPlayed c rows history
  pub said : line ≡ says c (played_moments c rows history)

-- the line of the watcher, where there is one and a stimulus
abbrev pub LineIs : Option Saying → Option Rows → Circuit → Option (List ℕ) → Type 0
LineIs None stimulus written told = told ≡ None
LineIs (Some says) None written told = told ≡ None
LineIs (Some says) (Some stimulus) written None = ⊥
LineIs (Some says) (Some stimulus) written (Some line) = IsSaid says written stimulus.rows line

pub record IsWhatPlayed (says : Option Saying) (stimulus : Option Rows) (read written : Circuit) (played : Played) : Type 0 where
  pub edges : EdgesAre stimulus read written played.edges
  pub line : LineIs says stimulus written played.watched

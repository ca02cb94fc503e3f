-- How often registers rise over a history.
use Rattle.std.specs.Prelude.{◌≡◌, ◌≤◌, ℕ, ◌+◌, Bool, if◌then◌else◌, List, [], ◌∷◌, length, map, Option, None, Some}
use Rattle.cg_limit.specs.declared.TheConstants.{MOST_REGISTERS}
use Rattle.cg_netlist.specs.Circuit.{Circuit, RegisterCell}
use Rattle.cg_netlist.specs.History.{Moment, rises}
use Rattle.cg_stimulus.specs.Inputs.{Rows}
use Rattle.cg_stimulus.specs.Played.{IsPlayed}
use Rattle.cg_register_text.specs.declared.rises.BothRises.{BothRises}

-- at how many of these moments a register rises, where this one, if there is one, stands before them
abbrev pub rises_from : Option Moment → List Moment → RegisterCell ℕ ℕ → ℕ
rises_from before [] r = 0
rises_from None (now ∷ history) r = rises_from (Some now) history r
rises_from (Some before) (now ∷ history) r = (if rises before.nets now.nets r then 1 else 0) + rises_from (Some now) history r

-- at how many moments of a history each register rises, in register order
abbrev pub rises_of : Circuit → List Moment → List ℕ
rises_of c history = map (rises_from None history) c.registers

-- the rises over the history of a netlist on which rows are played
pub record HasRises (c : Circuit) (rows : List (List Bool)) (rises : List ℕ) : Type 0 where
  pub history : List Moment
  pub played : IsPlayed c rows history
  pub counted : rises ≡ rises_of c history

-- those of both netlists
pub record AreRises (rows : List (List Bool)) (read written : Circuit) (both : BothRises) : Type 0 where
  pub before : HasRises read rows both.original
  pub after : HasRises written rows both.written

-- and where there is a stimulus
abbrev pub RisesWhere : Option Rows → Circuit → Circuit → Option BothRises → Type 0
RisesWhere None read written told = told ≡ None
RisesWhere (Some stimulus) read written None = ⊥
RisesWhere (Some stimulus) read written (Some both) = AreRises stimulus.rows read written both

-- there are no more numbers than registers that a netlist may have
abbrev pub FewRises : Option BothRises → Type 0
FewRises None = Unit {0}
FewRises (Some rises) = (length rises.original ≤ MOST_REGISTERS) × (length rises.written ≤ MOST_REGISTERS)

-- A player: a netlist on which the rows of a stimulus are played, at a place of its played history.
use Rattle.std.specs.Prelude.{◌≡◌, ℕ, Bool, true, false, List, [], ◌∷◌, ◌++◌, Option, None, Some}
use Rattle.cg_netlist.specs.Circuit.{Circuit}
use Rattle.cg_netlist.specs.History.{Moment, Tick, edges}
use Rattle.cg_edge.specs.Shows.{Shows}
use Rattle.cg_edge.specs.Simulated.{Simulated, rises_at}
use Rattle.cg_stimulus.specs.Played.{played_start, played_wave}
use Rattle.cg_report.specs.Shown.{Shown}

-- the moments of a history over a waveform, as watchers are shown them
abbrev pub shown_from : Circuit → Option Moment → List Tick → List Moment → List Shown
shown_from c before [] history = []
shown_from c before (tick ∷ wave) [] = []
shown_from c before (tick ∷ wave) (now ∷ history) =
    record { clock = tick.clock; nets = now.nets; rose = rises_at c before now } ∷ shown_from c (Some now) wave history

-- a player: the simulator, the rows that are played, the moments that are left, the edges of those that were played
pub record Place : Type 0 where
  pub simulated : Simulated
  pub rows : List (List Bool)
  pub left : List Tick
  pub edges : ℕ

-- the player is behind these moments of the history on which the rows are played
pub record IsAt (place : Place) (wave : List Tick) (played : List Moment) : Type 0 where
  pub shows : Shows place.simulated wave played
  pub whole : wave ++ place.left ≡ played_wave place.simulated.circuit place.rows
  pub start : place.simulated.start ≡ played_start place.simulated.circuit
  pub counted : place.edges ≡ edges place.simulated.circuit played

-- one moment further, of the same netlist and the same rows
pub record Plays (old new : Place) : Type 0 where
  pub circuit : new.simulated.circuit ≡ old.simulated.circuit
  pub rows : new.rows ≡ old.rows
  pub tick : Tick
  pub left : old.left ≡ tick ∷ new.left
  pub now : Moment
  pub present : new.simulated.present ≡ Some now
  pub further : (wave : List Tick) (played : List Moment) → IsAt old wave played → IsAt new (wave ++ tick ∷ []) (played ++ now ∷ [])

-- a step: one moment further, or nothing where no moment is left
abbrev pub Steps : Bool → Place → Place → Type 0
Steps true old new = Plays old new
Steps false old new = (old.left ≡ []) × (new ≡ old)

-- the moments of the history on which rows are played, as watchers are shown them
abbrev pub played_moments : Circuit → List (List Bool) → List Moment → List Shown
played_moments c rows history = shown_from c None (played_wave c rows) history

-- A step that a watcher is shown: whatever it stood for, it stands for the moment more; and where it stood for the moments
-- of the played history so far, it stands for those with this one more.
pub record Gives (old_stands new_stands : Circuit → List Shown → Type 0) (old new : Place) : Type 0 where
  pub tick : Tick
  pub now : Moment
  pub left : old.left ≡ tick ∷ new.left
  pub present : new.simulated.present ≡ Some now
  pub given : (before : List Shown) → old_stands old.simulated.circuit before
      → new_stands old.simulated.circuit (before ++ record { clock = tick.clock; nets = now.nets; rose = new.simulated.rose } ∷ [])
  pub further : (wave : List Tick) (played : List Moment) → IsAt old wave played →
      old_stands old.simulated.circuit (shown_from old.simulated.circuit None wave played)
      → new_stands old.simulated.circuit (shown_from old.simulated.circuit None (wave ++ tick ∷ []) (played ++ now ∷ []))

-- a step is shown; where no moment is left, nothing is
abbrev pub GivesStep : Bool → (Circuit → List Shown → Type 0) → (Circuit → List Shown → Type 0) → Place → Place → Type 0
GivesStep true old_stands new_stands old new = Gives old_stands new_stands old new
GivesStep false old_stands new_stands old new = (moments : List Shown) → old_stands old.simulated.circuit moments →
    new_stands old.simulated.circuit moments

-- a watcher may be shown a step where it stands for moments of the player's netlist
abbrev pub MayWatch : (Circuit → List Shown → Type 0) → Place → Type 0
MayWatch stands place = (moments : List Shown) × stands place.simulated.circuit moments

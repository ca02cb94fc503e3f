-- How a watcher is shown rows while they are played.
use Rattle.std.specs.Prelude.{ℕ, Bool, List, [], ◌∷◌, ◌++◌, None}
use Rattle.cg_netlist.specs.Circuit.{Circuit}
use Rattle.cg_netlist.specs.History.{Moment, Tick}
use Rattle.cg_report.specs.Place.{IsAt, Place, shown_from}
use Rattle.cg_report.specs.Shown.{Shown}
use Rattle.cg_report.specs.inner.RowByRow.{IsBehind, PlaysPair}
use Rattle.cg_report.specs.inner.Saying.{SaysRow, SayRows}

-- where a watcher stood for the moments of the played history so far, it stands for those with these more
abbrev pub GoesOn : (Circuit → List Shown → Type 0) → (Circuit → List Shown → Type 0) → Place → List Tick → List Moment → Type 0
GoesOn old_stands new_stands old ticks moments = (wave : List Tick) (played : List Moment) → IsAt old wave played
    → old_stands old.simulated.circuit (shown_from old.simulated.circuit None wave played)
    → new_stands old.simulated.circuit (shown_from old.simulated.circuit None (wave ++ ticks) (played ++ moments))

-- both moments of a row were played and shown
pub record ShowsRow (old_stands new_stands : Circuit → List Shown → Type 0) (old new : Place) : Type 0 where
  pub now : Moment
  pub later : Moment
  pub pair : PlaysPair old new now later
  pub shown : GoesOn old_stands new_stands old (pair.low ∷ pair.high ∷ []) (now ∷ later ∷ [])

-- the same, and the row's line was put behind the text
pub record WatchesRow (old_stands new_stands : Circuit → List Shown → Type 0) (number : ℕ) (old new : Place)
    (text more : List ℕ) : Type 0 where
  pub says : SaysRow number old new text more
  pub shown : GoesOn old_stands new_stands old (says.pair.low ∷ says.pair.high ∷ []) (says.now ∷ says.later ∷ [])

-- the watcher stands for the moments of the rows that were played
abbrev pub StandsBehind : (Circuit → List Shown → Type 0) → (c : Circuit) → List Tick → List Moment → Type 0
StandsBehind stands c wave played = stands c (shown_from c None wave played)

-- this many rows were played and shown
pub record ShowRows (stands : Circuit → List Shown → Type 0) (c : Circuit) (rows : List (List Bool)) (row : ℕ)
    (place : Place) : Type 0 where
  pub played : List Moment
  pub behind : IsBehind c rows row place played
  pub stands_for : StandsBehind stands c behind.wave played

-- the same, and their lines were put behind the text
pub record WatchRows (stands : Circuit → List Shown → Type 0) (c : Circuit) (rows : List (List Bool)) (row : ℕ) (place : Place)
    (text more : List ℕ) : Type 0 where
  pub said : SayRows c rows row place text more
  pub stands_for : StandsBehind stands c said.behind.wave said.played

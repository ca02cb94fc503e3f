-- How rises are counted while rows are played.
use Rattle.std.specs.Prelude.{◌≡◌, ℕ, ◌+◌, Bool, if◌then◌else◌, List, [], ◌∷◌, ◌++◌}
use Rattle.cg_netlist.specs.Circuit.{Circuit}
use Rattle.cg_netlist.specs.History.{Moment, Tick}
use Rattle.cg_netlist.specs.Moment.{zip_with}
use Rattle.cg_report.specs.Place.{IsAt, Place, Plays}
use Rattle.cg_report.specs.inner.RowByRow.{IsBehind, PlaysPair}
use Rattle.cg_register_text.specs.Rises.{rises_of}

-- one more where it rose
abbrev pub counted : Bool → ℕ → ℕ
counted rose n = if rose then n + 1 else n

-- a moment was played, and the registers that rise at it count one more
pub record CountsMoment (old new : Place) (rises more : List ℕ) : Type 0 where
  pub plays : Plays old new
  pub counts : more ≡ zip_with counted new.simulated.rose rises

-- a row was played: where the numbers were the rises of the moments before, they are those of its moments too
pub record CountsRow (old new : Place) (rises more : List ℕ) : Type 0 where
  pub now : Moment
  pub later : Moment
  pub pair : PlaysPair old new now later
  pub counts : (wave : List Tick) (played : List Moment) → IsAt old wave played → rises ≡ rises_of old.simulated.circuit played →
      more ≡ rises_of old.simulated.circuit (played ++ now ∷ later ∷ [])

-- so many rows were played, and the rises of their moments counted
pub record CountRises (c : Circuit) (rows : List (List Bool)) (row : ℕ) (place : Place) (rises : List ℕ) : Type 0 where
  pub played : List Moment
  pub behind : IsBehind c rows row place played
  pub are : rises ≡ rises_of c played

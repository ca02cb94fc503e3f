-- How zeros of rows are counted while the rows are played.
use Rattle.std.specs.Prelude.{◌≡◌, ℕ, ◌+◌, ◌<◌, Bool, List, length, slice_get, Some, if◌then◌else◌}
use Rattle.cg_netlist.specs.Circuit.{Circuit}
use Rattle.cg_netlist.specs.History.{Moment}
use Rattle.cg_netlist.specs.Moment.{bit}
use Rattle.cg_report.specs.Zeros.{low_moments, zeros_of}
use Rattle.cg_report.specs.Place.{Place}
use Rattle.cg_report.specs.inner.RowByRow.{IsBehind, PlaysPair}

-- each net that is 0 counts one more, for those below i, and for all
pub record AreCounted (i : ℕ) (nets : List Bool) (old new : List ℕ) : Type 0 where
  pub long : length new ≡ length old
  pub done : (net n : ℕ) → net < i → slice_get old net ≡ Some n → slice_get new net ≡ Some (if bit nets net then n else n + 1)
  pub left : (net : ℕ) → (net < i → ⊥) → slice_get new net ≡ slice_get old net

-- a row was played, and the nets that are 0 at its low moment count one more
pub record PlaysRow (old new : Place) (zeros more : List ℕ) : Type 0 where
  pub now : Moment
  pub later : Moment
  pub pair : PlaysPair old new now later
  pub counted : AreCounted (length zeros) now.nets zeros more

-- this many rows were played, and their low moments counted
pub record CountRows (c : Circuit) (rows : List (List Bool)) (row : ℕ) (place : Place) (zeros : List ℕ) : Type 0 where
  pub played : List Moment
  pub behind : IsBehind c rows row place played
  pub long : length zeros ≡ length c.names
  pub each : (net : ℕ) → net < length c.names → slice_get zeros net ≡ Some (zeros_of net (low_moments played))

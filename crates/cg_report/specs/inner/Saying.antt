-- How lines of rows are put behind a text while the rows are played.
use Rattle.std.specs.Prelude.{◌≡◌, ℕ, Bool, List, ◌++◌}
use Rattle.cg_netlist.specs.Circuit.{Circuit}
use Rattle.cg_netlist.specs.History.{Moment}
use Rattle.cg_report.specs.Place.{Place}
use Rattle.cg_report.specs.RowLines.{row_line, row_lines}
use Rattle.cg_report.specs.inner.RowByRow.{IsBehind, PlaysPair}

-- a row was played, and its line put behind the text
pub record SaysRow (number : ℕ) (old new : Place) (text more : List ℕ) : Type 0 where
  pub now : Moment
  pub later : Moment
  pub pair : PlaysPair old new now later
  pub line : more ≡ text ++ row_line old.simulated.circuit number now later

-- this many rows were played, and their lines put behind the text
pub record SayRows (c : Circuit) (rows : List (List Bool)) (row : ℕ) (place : Place) (text more : List ℕ) : Type 0 where
  pub played : List Moment
  pub behind : IsBehind c rows row place played
  pub lines : more ≡ text ++ row_lines c 1 played

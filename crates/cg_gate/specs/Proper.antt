-- What a request holds by the types of its parts.
use Rattle.std.specs.Prelude.{◌≡◌, ℕ, IsTrue, List, Some}
use Rattle.std.specs.List.{AllByRecursion}
use Rattle.cg_cell.specs.Cell.{IsCell}
use Rattle.cg_cell.specs.Library.{IsFound}
use Rattle.cg_cell.specs.Name.{is_name}
use Rattle.cg_stimulus.specs.Inputs.{IsStimulus, Rows}
use Rattle.cg_gate.specs.Request.{RequestData}

-- the library has cells, each under its name; the test input has a name, and the stimulus is one
pub record IsProper (request : RequestData) : Type 0 where
  pub cells : AllByRecursion IsCell request.library
  pub found : AllByRecursion (IsFound request.library) request.library
  pub named : (name : List ℕ) → request.test ≡ Some name → IsTrue (is_name name)
  pub rows : (stimulus : Rows) → request.stimulus ≡ Some stimulus → IsStimulus stimulus

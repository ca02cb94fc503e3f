-- What a shelf is seen as.
use Rattle.std.specs.Prelude.{ℕ, Bool, List, Option}
use Rattle.cg_shelf.specs.Asked.{Calls}
use Rattle.cg_shelf.specs.declared.faults.Fault.{Fault}

-- A shelf at one moment: whether it tells what it holds, the bytes under each name (None where there is no
-- such file), the bytes said and complained so far, the calls that were made, in order, each with what it answered, and
-- the calls that failed, in order. Both lists are exact on every shelf, whether it tells or not.
pub record World : Type 0 where
  pub tells : Bool
  pub held : List ℕ → Option (List ℕ)
  pub said : List ℕ
  pub complained : List ℕ
  pub calls : Calls
  pub faults : List Fault

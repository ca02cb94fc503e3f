-- A claim that no bits violate.
use Rattle.std.specs.Prelude.{◌≡◌, false}
use Rattle.cg_machine.specs.Machine.{MachineData}
use Rattle.cg_claim.specs.Question.{Question}
use Rattle.cg_claim.specs.Violates.{Free, IsFree, violates}

-- no free bits violate a claim
abbrev pub IsNeverViolated : MachineData → Question → Type 0
IsNeverViolated m q = (w : Free) → IsFree m w → violates m q w ≡ false

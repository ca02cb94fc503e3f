-- What stops the building of a list refuses the claim.
use Rattle.std.proofs.Common.{ℕ, ◌≤◌}
use Rattle.cg_aig.specs.declared.fault.AigFault.{AigFault}
use Rattle.cg_aig.specs.declared.fault.AigFault.TheVariants.{Limit, NoMemory}
use Rattle.cg_machine.specs.Machine.{MachineData}
use Rattle.cg_claim.specs.Build.{claim_run}
use Rattle.cg_claim.specs.Leaves.{width_of}
use Rattle.cg_claim.specs.Question.{Question}
use Rattle.cg_unroll.specs.Claims.{IsRefused}
use Rattle.cg_unroll.specs.Building.{MayFail}
use Rattle.cg_unroll.specs.inner.Faults.{fault_of}

pub fails_refused : (m : MachineData) (q : Question) (width : ℕ) (fault : AigFault) → width_of m q ≤ width → MayFail (claim_run m q).domain fault → IsRefused m q width (fault_of fault)
fails_refused m q width (Limit which) narrow h = (h.0, narrow, h.1)
fails_refused m q width NoMemory narrow h = tt

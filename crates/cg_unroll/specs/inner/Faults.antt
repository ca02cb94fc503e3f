-- The faults of a list as those of a claim.
use Rattle.cg_aig.specs.declared.fault.AigFault.{AigFault}
use Rattle.cg_aig.specs.declared.fault.AigFault.TheVariants.{Limit as ListLimit, NoMemory as NoListMemory}
use Rattle.cg_unroll.specs.declared.claim.ClaimFault.{ClaimFault}
use Rattle.cg_unroll.specs.declared.claim.ClaimFault.TheVariants.{Limit, NoMemory}

abbrev pub fault_of : AigFault → ClaimFault
fault_of (ListLimit which) = Limit which
fault_of NoListMemory = NoMemory

use Rattle.cg_netlist_parts.proofs.part_laws.one_first_fault.Goals as goal
use Rattle.cg_netlist_parts.proofs.FaultOrNone.{fault_or_none}
use Rattle.cg_netlist_parts.proofs.OneFault.{no_fault, one_fault}

pub returns-clause-some : goal.returns-clause-some
returns-clause-some c = fault_or_none

pub returns-clause-one : goal.returns-clause-one
returns-clause-one c = one_fault

pub returns-clause-none : goal.returns-clause-none
returns-clause-none c = λ parts fault fine is. no_fault parts fault is fine

use Rattle.std.proofs.Common.{◌≡◌, IfOk, subst}
use Rattle.cg_extract.specs.Lifted.{lifted}
use Rattle.cg_extract.specs.declared.extract.Extracted.{Extracted}
use Rattle.cg_gate.proofs.Unrefused.{untested}
use Rattle.cg_gate.proofs.planning.lift.Goals as goal
use Rattle.cg_gate.specs.Request.{RequestData}

pub extract-requires-clause-untested : goal.extract-requires-clause-untested
extract-requires-clause-untested c = let request = c.args.request.now in untested request.library request.test c.args.netlist c.requires.lifts

pub returns-clause-machine : goal.returns-clause-machine
returns-clause-machine c = subst (λ (r : RequestData). IfOk c.extract.result (λ (made : Extracted). made.machine ≡ lifted c.args.netlist r.prefix)) c.request.view_is c.extract.ensures.machine

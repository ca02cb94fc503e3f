use Rattle.std.proofs.Common.{refl}
use Rattle.cg_stage_laws.proofs.Appended.{keeps_self}
use Rattle.cg_stage_laws.specs.Appends.{Keeps}
use Rattle.cg_hints.proofs.Judging.{on_err}
use Rattle.cg_hints.proofs.judge.Judge.try_claims.Goals as goal

pub returns-in_err-end-clause-kept : goal.returns-in_err-end-clause-kept
returns-in_err-end-clause-kept c =
    let m = c.args.machine.now in
    on_err (Keeps m m) c.from_residual.result (keeps_self m m c.netlist-netlist.ensures.machine refl)

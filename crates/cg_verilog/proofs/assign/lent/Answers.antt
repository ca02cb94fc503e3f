use Rattle.cg_verilog.proofs.CoverRows.{lent_more}
use Rattle.cg_verilog.proofs.assign.lent.Goals as goal

pub names-preserved : goal.names-preserved
names-preserved c = lent_more (λ b. b.now) c.names.lent.items c.push.new.self.items c.name.result c.args.names.now c.names.number c.names.invariant c.in_ok-push.ensures.items c.name.ensures

use Rattle.cg_netlist_cone.proofs.ConeEdge.{ok_then}
use Rattle.cg_claim_reach.proofs.Noting.{still_known}
use Rattle.cg_claim_reach.proofs.tables.Tables.note_enable.Goals as goal

pub returns : goal.returns
returns c = ok_then c.learn_net.result c.learn_net.ensures (λ noted m n knows grows. still_known m n c.args.self.now c.learn_net.new.readers c.args.regs.now c.args.net knows grows noted)

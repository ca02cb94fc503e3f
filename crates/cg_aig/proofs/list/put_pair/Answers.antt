use Rattle.std.proofs.Common.{arith}
use Rattle.cg_cell.specs.Domain.{Seen}
use Rattle.cg_aig.proofs.Found.{absent_new, no_memory, put_node}
use Rattle.cg_aig.proofs.list.put_pair.Goals as goal

pub returns-in_err-k-clause-refused : goal.returns-in_err-k-clause-refused
returns-in_err-k-clause-refused c =
    let old : Seen = record { number = c.args.leaves; pairs = c.args.pairs.now.keys } in
    no_memory old c.args.pair c.from_residual.result (absent_new old c.args.pair c.in_err-k.ensures.absent) (omega (arith, c.if-leaves-len.true, c.len.ensures.len)) c.from_residual.ensures.1

pub returns-then-leaves-len-clause-made : goal.returns-then-leaves-len-clause-made
returns-then-leaves-len-clause-made c =
    let old : Seen = record { number = c.args.leaves; pairs = c.args.pairs.now.keys } in
    put_node old c.args.pair c.insert_full.new.self.keys c.in_ok-k.k c.of.result c.in_ok-k.ensures.keys c.in_ok-k.ensures.index c.of.ensures

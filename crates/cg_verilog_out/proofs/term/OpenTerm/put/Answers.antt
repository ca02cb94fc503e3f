use Rattle.cg_verilog_out.specs.inner.OpenTerms.{Built}
use Rattle.cg_verilog_out.proofs.OpenTermLemmas.{on_ok, put_then_one, put_then_zero}
use Rattle.cg_verilog_out.proofs.term.OpenTerm.put.Goals as goal

pub returns-then-plain : goal.returns-then-plain
returns-then-plain c =
    let before : Built = record { literals = c.self.inside.literals.items; ones = c.self.inside.ones; zeros = c.self.inside.zeros; ended = c.self.inside.ended } in
    on_ok _ _ c.insert.result
    (λ put. put_then_one c.args.netlist.now.names before c.args.self.now c.args.net c.args.plain _ _ _ c.self.view_is c.if-plain.true c.name-name.ensures c.in_ok-push.ensures.items put)
    c.insert.ensures.put

pub returns-else-plain : goal.returns-else-plain
returns-else-plain c =
    let before : Built = record { literals = c.self.inside.literals.items; ones = c.self.inside.ones; zeros = c.self.inside.zeros; ended = c.self.inside.ended } in
    on_ok _ _ c.insert-else-plain.result
    (λ put. put_then_zero c.args.netlist.now.names before c.args.self.now c.args.net c.args.plain _ _ _ c.self.view_is c.if-plain.false c.name-name.ensures c.in_ok-push.ensures.items put)
    c.insert-else-plain.ensures.put

use Rattle.std.proofs.Common.{ap, sym, ◌∙◌, arith}
use Rattle.cg_machine.specs.Added.{own_nets}
use Rattle.cg_machine.proofs.Keeping.{kept_own_nets, place_behind, place_before}
use Rattle.cg_machine.proofs.machine.Machine.added.Goals as goal

pub returns-then-number-own : goal.returns-then-number-own
returns-then-number-own c =
    sym (place_before c.args.self.now c.args.net c.number.result c.nets-own.result c.number.ensures.number
    (c.nets-own.ensures.count ∙ (sym (kept_own_nets c.self.inside.netlist c.self.inside.prefix c.self.inside.enables.items c.self.inside.gates c.self.inside.delays) ∙ ap own_nets c.self.view_is)) c.if-number-own.true)

pub returns-else-number-own : goal.returns-else-number-own
returns-else-number-own c =
    sym (place_behind c.args.self.now c.args.net c.number-else-number-own.result c.nets-own.result c.number-else-number-own.ensures.number
    (c.nets-own.ensures.count ∙ (sym (kept_own_nets c.self.inside.netlist c.self.inside.prefix c.self.inside.enables.items c.self.inside.gates c.self.inside.delays) ∙ ap own_nets c.self.view_is)) (let n = c.number.ensures.number in let k = c.number-else-number-own.ensures.number in omega (arith, n, k, c.if-number-own.false)))

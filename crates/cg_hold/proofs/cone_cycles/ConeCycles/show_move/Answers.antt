use Rattle.std.proofs.Common.{List, ℕ, not, subst, arith}
use Rattle.cg_hold.proofs.ConeShown.{move_in_cone}
use Rattle.cg_word.specs.Words.{IsWord, lane}
use Rattle.cg_machine.specs.Claims.{literal_bit}
use Rattle.cg_netlist.specs.Moment.{bit}
use Rattle.cg_hold.proofs.cone_cycles.ConeCycles.show_move.Goals as goal

pub returns : goal.returns
returns c = λ shows.
    let look = c.args.look.now in
    let good = c.netlist-netlist.ensures.machine in
    let own = good.own_registers in
    move_in_cone look.search.now.machine.now good look.reg c.args.self.now.nets.items c.args.self.now.moves c.requires.cycles c.args.literal c.requires.literal (omega (arith, own, c.requires.look.own)) c.zeros.result
    (subst (λ (words : List ℕ). IsWord c.zeros.result (λ i. not (literal_bit (bit (lane i words)) c.args.literal))) c.deref.ensures.value c.zeros.ensures) (c.has_one.ensures.0 shows)

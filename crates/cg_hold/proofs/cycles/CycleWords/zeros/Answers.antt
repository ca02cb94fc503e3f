use Rattle.std.proofs.Common.{List, length, not, ℕ, ap, subst, arith}
use Rattle.cg_hold.proofs.Cycled.{nets_long}
use Rattle.cg_word.specs.Words.{IsWord, lane}
use Rattle.cg_machine.specs.Claims.{literal_bit}
use Rattle.cg_netlist.specs.Moment.{bit}
use Rattle.cg_hold.proofs.cycles.CycleWords.zeros.Goals as goal

pub zeros-requires : goal.zeros-requires
zeros-requires c =
    let long = nets_long c.args.machine.now c.netlist-netlist.ensures.machine c.args.self.now c.requires.cycles in
    omega (arith, long, ap (λ (words : List ℕ). length words) c.as_slice.ensures.parts, c.requires.net)

pub returns : goal.returns
returns c = subst (λ (words : List ℕ). IsWord c.zeros.result (λ i. not (literal_bit (bit (lane i words)) c.args.literal))) c.as_slice.ensures.parts c.zeros.ensures

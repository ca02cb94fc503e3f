use Rattle.std.proofs.Common.{◌≡◌, IfOk, List, length, map, nat_eq, ap, sym, ◌∙◌, subst, arith}
use Rattle.std.proofs.lemmas.List.Filters.{dedup_is}
use Rattle.cg_stage_list_laws.specs.Supports.{all_nets}
use Rattle.cg_machine.specs.Claims.{Literal}
use Rattle.cg_net.specs.NetSets.{is_in}
use Rattle.cg_hold.specs.inner.Packed.{unpacked}
use Rattle.cg_hold.proofs.Ranked.{ranked_is}
use Rattle.cg_hold.proofs.choice.ranked.Goals as goal
use Rattle.cg_netlist.proofs.Filtered.{in_filter}
use Rattle.cg_netlist.proofs.Driven.{in_range}

pub packed_all-requires-clause-nets : goal.packed_all-requires-clause-nets
packed_all-requires-clause-nets c = λ y among.
    let m = c.args.machine.now in
    let b = in_range (length m.circuit.names) 0 y (in_filter (is_in c.args.nets.now) (all_nets m) y (ap (λ l. is_in l y) (sym c.requires.order) ∙ among)).0 in
    omega (arith, b.1, c.requires.counts.count)

pub returns : goal.returns
returns c =
    let m = c.args.machine.now in
    let nets = c.args.nets.now in
    let sorted = c.sort_unstable.new.self.items in
    let thinned = c.dedup.new.self.items in
    let whole = ap (map unpacked) c.deref.ensures.value ∙ ranked_is m c.args.counts.now c.netlist-netlist.ensures.machine c.requires.counts nets c.requires.order c.in_ok-numbers.numbers.items sorted thinned c.in_ok-numbers.ensures
    c.sort_unstable.ensures.permutation c.sort_unstable.ensures.sorted (dedup_is nat_eq sorted thinned c.dedup.ensures.filtered) in
    subst (λ (l : List Literal). IfOk c.unpacked_all.result (λ literals. literals.items ≡ l)) whole c.unpacked_all.ensures

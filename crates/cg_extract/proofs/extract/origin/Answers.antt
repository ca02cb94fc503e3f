use Rattle.std.proofs.Common.{Some, slice_index_or, sym, ap, ◌∙◌, inl, inr, arith}
use Rattle.cg_netlist.specs.Circuit.{gater_outputs}
use Rattle.cg_extract.proofs.NetPlaces.{origin_high, origin_low, origin_none}
use Rattle.cg_extract.proofs.extract.origin.Goals as goal
use Rattle.cg_machine.proofs.Lists.{below_or}

pub returns-then-net-nets : goal.returns-then-net-nets
returns-then-net-nets c = elim (below_or (slice_index_or (gater_outputs c.args.netlist.now) 0 0) c.args.number) [
  | inl low ↦ ap Some (c.new.ensures ∙ c.moved_back-net.ensures.low low) ∙ sym (origin_low c.args.netlist.now c.moved_back-net.ensures.netlist c.args.number low).0
  | inr high ↦ ap Some (c.new.ensures ∙ c.moved_back-net.ensures.high high) ∙ sym (origin_high c.args.netlist.now c.moved_back-net.ensures.netlist c.args.number high (omega (arith, c.if-net-nets.true, c.moved_back-net.ensures.high high, c.nets.ensures.count)))
]

pub returns-else-net-nets : goal.returns-else-net-nets
returns-else-net-nets c = elim (below_or (slice_index_or (gater_outputs c.args.netlist.now) 0 0) c.args.number) [
  | inl low ↦ absurd (let there = (origin_low c.args.netlist.now c.moved_back-net.ensures.netlist c.args.number low).1 in omega (arith, there, c.if-net-nets.false, c.moved_back-net.ensures.low low, c.nets.ensures.count))
  | inr high ↦ sym (origin_none c.args.netlist.now c.moved_back-net.ensures.netlist c.args.number (omega (arith, c.if-net-nets.false, c.moved_back-net.ensures.high high, c.nets.ensures.count)))
]

use Rattle.std.proofs.Common.{◌≡◌, ℕ, Bool, List, Some, slice_get, slice_index_or, false, ap, ◌∙◌, arith}
use Rattle.std.proofs.lemmas.Option.{slice_get-get_or}
use Rattle.cg_netlist.specs.Circuit.{RegisterCell, register_nets, shown_nets}
use Rattle.cg_netlist.proofs.Used.{in_flat}
use Rattle.cg_netlist.proofs.Values.{element_at}
use Rattle.cg_edge.proofs.Facts.{distinct_registers}
use Rattle.cg_edge.proofs.Puts.{registers_more, same_wider}
use Rattle.cg_edge.proofs.put.put_registers.Goals as goal

pub loop-k-preserved : goal.loop-k-preserved
loop-k-preserved c =
    let n = c.args.netlist.now in
    let rs : List (RegisterCell ℕ ℕ) = n.registers in
    let k : ℕ = c.loop-k.k in
    let r : (r : RegisterCell ℕ ℕ) × (slice_get rs k ≡ Some r) = element_at rs k (omega (arith, c.registers-k-end.ensures.count, c.loop-k-test.true)) in
    let there : slice_get rs c.new.result ≡ Some r.0 = ap (slice_get rs) c.new.ensures ∙ r.1 in
    let b : Bool = slice_index_or c.args.state.now k false in
    let stored : slice_get c.args.state.now k ≡ Some b = slice_get-get_or c.args.state.now k false (omega (arith, c.registers-k-end.ensures.count, c.requires.state, c.loop-k-test.true)) in (
      registers_more rs c.args.state.now c.loop-k.nets c.put_register.new.nets k r.0 b (distinct_registers n c.requires.netlist.well_formed) r.1 stored (c.put_register.ensures.same r.0 there) (c.put_register.ensures.shown r.0 there) c.loop-k.invariant.0,
      same_wider (shown_nets r.0) (register_nets n) c.args.nets.now c.loop-k.nets c.put_register.new.nets (λ x among. in_flat shown_nets rs k r.0 x r.1 among) c.loop-k.invariant.1 (c.put_register.ensures.same r.0 there),
      c.put_register.ensures.marked,
      c.put_register.ensures.long ∙ c.loop-k.invariant.3,
    )

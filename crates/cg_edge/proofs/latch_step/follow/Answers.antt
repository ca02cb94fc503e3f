use Rattle.std.proofs.Common.{◌<◌, ℕ, List, length, slice_get, slice_index_or, false, sym, ap, ◌∙◌, arith}
use Rattle.std.specs.Option.{option_map}
use Rattle.cg_netlist.specs.Circuit.{GatingCell}
use Rattle.cg_netlist.specs.History.{next_latch}
use Rattle.cg_netlist.specs.Moment.{zip_with}
use Rattle.cg_netlist.proofs.Values.{length-zip_with}
use Rattle.cg_edge.proofs.Latched.{latched}
use Rattle.cg_edge.proofs.Written.{written_all, written_more, written_none}
use Rattle.cg_edge.proofs.latch_step.follow.Goals as goal

pub loop-k-init : goal.loop-k-init
loop-k-init c =
    let f = next_latch c.args.nets.now in
    let gs = c.args.netlist.now.gaters in
    written_none c.args.latches.now (zip_with f gs c.args.latches.now) (c.requires.latches ∙ sym (length-zip_with f gs c.args.latches.now (sym c.requires.latches)))

pub loop-k-preserved : goal.loop-k-preserved
loop-k-preserved c =
    let f = next_latch c.args.nets.now in
    let gs : List (GatingCell ℕ) = c.args.netlist.now.gaters in
    let k : ℕ = c.loop-k.k in
    let below : k < length gs = omega (arith, c.gaters-k-end.ensures.count) in
    written_more k c.args.latches.now (zip_with f gs c.args.latches.now) c.loop-k.latches c.next.result c.loop-k.invariant
    (latched c.args.nets.now gs c.args.latches.now c.loop-k.latches k c.next.result c.requires.latches below c.loop-k.invariant
    (ap (λ n. option_map (λ gater. next_latch c.args.nets.now gater (slice_index_or c.loop-k.latches k false)) (slice_get gs n)) (sym c.new.ensures) ∙ c.next.ensures))

pub returns : goal.returns
returns c =
    let f = next_latch c.args.nets.now in
    let gs = c.args.netlist.now.gaters in
    written_all c.loop-k.k c.args.latches.now (zip_with f gs c.args.latches.now) c.loop-k.latches c.loop-k.invariant (let long = length-zip_with f gs c.args.latches.now (sym c.requires.latches) in omega (arith, long, c.gaters-k-end.ensures.count))

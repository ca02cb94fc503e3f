use Rattle.std.proofs.Common.{◌≡◌, ◌+◌, ◌&&◌, ℕ, Bool, List, false, slice_get, slice_index_or, slice_set, Some, sym, subst, ap, ◌∙◌}
use Rattle.std.proofs.lemmas.Option.{slice_get-get_or}
use Rattle.cg_netlist.specs.Circuit.{GatingCell, gater_outputs}
use Rattle.cg_netlist.specs.Moment.{bit}
use Rattle.cg_netlist.proofs.Values.{element_at}
use Rattle.cg_edge.specs.inner.Keeping.{AreDriven, SameBut}
use Rattle.cg_edge.proofs.Chained.{driven_more, same_set}
use Rattle.cg_edge.proofs.Facts.{gater_among}
use Rattle.cg_edge.proofs.clock_nets.drive_gaters.Goals as goal

pub loop-id-preserved : goal.loop-id-preserved
loop-id-preserved c =
    let n = c.args.netlist.now in
    let chain : List ℕ = c.args.chain.now in
    let latches : List Bool = c.args.latches.now in
    let cur : List Bool = c.loop-id.nets in
    let i : ℕ = c.loop-id.id-index in
    let k : ℕ = c.id-item.result in
    let here : slice_get chain i ≡ Some k = slice_get-get_or chain i k c.loop-id-test.true ∙ ap (λ x. Some x) (sym c.id-item.is) in
    let a : (a : GatingCell ℕ) × (slice_get n.gaters k ≡ Some a) = element_at n.gaters k (c.requires.chain.within i k here) in
    let is : c.drive_gater.new.nets ≡ slice_set cur a.0.output (slice_index_or latches k false && bit cur a.0.clock) = c.drive_gater.ensures a.0 a.1 in (
      subst (λ nets. AreDriven n chain latches nets (i + 1)) (sym is) (driven_more n c.requires.netlist.well_formed chain c.requires.chain latches cur i k a.0 (c.loop-id.auto.nets ∙ c.requires.nets) c.loop-id.invariant.0 here a.1),
      subst (SameBut (gater_outputs n) c.args.nets.now) (sym is) (same_set (gater_outputs n) c.args.nets.now cur a.0.output (slice_index_or latches k false && bit cur a.0.clock) c.loop-id.invariant.1 (gater_among n c.requires.netlist.well_formed k a.0 a.1)),
    )

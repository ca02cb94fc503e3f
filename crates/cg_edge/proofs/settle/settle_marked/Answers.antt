use Rattle.std.proofs.Common.{◌≡◌, ℕ, List, Bool, length, Some, false, true, sym, subst, ap, ◌∙◌, slice_get, slice_set, arith}
use Rattle.std.proofs.lemmas.List.{length-set}
use Rattle.std.proofs.lemmas.Option.{slice_get_within}
use Rattle.cg_netlist.specs.Circuit.{LogicCell, cell_nets}
use Rattle.cg_netlist.specs.Moment.{function_value, values_at}
use Rattle.cg_net.proofs.Members.{member_at}
use Rattle.cg_netlist.proofs.Values.{at_map, element_at}
use Rattle.cg_edge.specs.inner.Keeping.{IsPut, SameBut, walk_of}
use Rattle.cg_edge.proofs.Chained.{same_set}
use Rattle.cg_edge.proofs.Marked.{settled_all, settled_more, settled_past}
use Rattle.cg_edge.proofs.Walk.{walk_long, walked}
use Rattle.cg_edge.proofs.settle.settle_marked.Goals as goal

pub look-requires-clause-place : goal.look-requires-clause-place
look-requires-clause-place c =
    let marks : List Bool = c.marked.marks in
    let long : length marks ≡ length c.args.schedule.now.order.now = c.marked.invariant.3 ∙ c.requires.marks in
    let low = slice_get_within marks c.in-Some.place true c.in-Some.ensures.marked in
    omega (arith, low, long)

pub look-requires-clause-marks : goal.look-requires-clause-marks
look-requires-clause-marks c = ap length c.remove.ensures ∙ (length-set c.marked.marks c.in-Some.place false ∙ (c.marked.invariant.3 ∙ c.requires.marks))

pub marked-smaller : goal.marked-smaller
marked-smaller c =
    let n = c.args.schedule.now.netlist.now in
    let good = c.requires.schedule.netlist.well_formed in
    let marks : List Bool = c.marked.marks in
    let i : ℕ = c.in-Some.place in
    let long : length marks ≡ length c.args.schedule.now.order.now = c.marked.invariant.3 ∙ c.requires.marks in
    let low = slice_get_within marks i true c.in-Some.ensures.marked in
    let cell : (cell : LogicCell ℕ) × (slice_get (walk_of n) i ≡ Some cell) = element_at (walk_of n) i (omega (arith, low, long, ap length c.requires.schedule.ordered, walk_long n good)) in
    let kept : length c.look.new.marks ≡ length marks = (c.look.ensures.put cell.0 cell.1).more.long ∙ (ap length c.remove.ensures ∙ length-set marks i false) in
    let past = c.in-Some.ensures.past in
    omega (arith, low, long, kept, past)

pub marked-preserved : goal.marked-preserved
marked-preserved c =
    let n = c.args.schedule.now.netlist.now in
    let good = c.requires.schedule.netlist.well_formed in
    let order = c.args.schedule.now.order.now in
    let readers = c.args.schedule.now.readers in
    let i : ℕ = c.in-Some.place in
    let old : List Bool = c.marked.nets in
    let marks : List Bool = c.marked.marks in
    let long : length marks ≡ length order = c.marked.invariant.3 ∙ c.requires.marks in
    let low = slice_get_within marks i true c.in-Some.ensures.marked in
    let cell : (cell : LogicCell ℕ) × (slice_get (walk_of n) i ≡ Some cell) = element_at (walk_of n) i (omega (arith, low, long, ap length c.requires.schedule.ordered, walk_long n good)) in
    let k : (k : ℕ) × (slice_get n.cells k ≡ Some cell.0) = (walked n good).of_cells i cell.0 cell.1 in
    let v : Bool = function_value cell.0.function (values_at old cell.0.inputs) in
    let is : c.look.new.nets ≡ slice_set old cell.0.output v = c.look.ensures.nets cell.0 cell.1 in
    let put : IsPut readers cell.0.output v old c.look.new.nets (slice_set marks i false) c.look.new.marks = subst (λ ms. IsPut readers cell.0.output v old c.look.new.nets ms c.look.new.marks) c.remove.ensures (c.look.ensures.put cell.0 cell.1) in (
      settled_more n good readers (length order) i cell.0 old c.look.new.nets marks c.look.new.marks c.requires.schedule.reading (ap length c.requires.schedule.ordered ∙ sym (walk_long n good)) (c.marked.auto.nets ∙ c.requires.nets)
          cell.1 put is (settled_past n good readers c.marked.from i marks old c.in-Some.ensures.first c.marked.invariant.0),
      subst (SameBut (cell_nets n) c.args.nets.now) (sym is) (same_set (cell_nets n) c.args.nets.now old cell.0.output v c.marked.invariant.1 (member_at (cell_nets n) k.0 cell.0.output (at_map (λ (x : LogicCell ℕ). x.output) n.cells k.0 cell.0 k.1))),
      c.look.ensures.room ∙ c.marked.invariant.2,
      put.more.long ∙ (length-set marks i false ∙ c.marked.invariant.3),
    )

pub returns-clause-holds : goal.returns-clause-holds
returns-clause-holds c = settled_all c.args.schedule.now.netlist.now c.requires.schedule.netlist.well_formed c.args.schedule.now.readers c.marked.from c.marked.marks c.marked.nets c.in_default.ensures c.marked.invariant.0

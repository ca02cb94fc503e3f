use Rattle.std.proofs.Common.{◌≡◌, ℕ, List, Bool, length, Some, sym, subst, ap, ◌∙◌, slice_get, slice_set, arith}
use Rattle.cg_netlist.specs.Circuit.{LogicCell, cell_nets}
use Rattle.cg_netlist.specs.Moment.{function_value, values_at}
use Rattle.cg_net.proofs.Members.{member_at}
use Rattle.cg_netlist.proofs.Values.{at_map, element_at}
use Rattle.cg_edge.specs.inner.Keeping.{SameBut, walk_of}
use Rattle.cg_edge.proofs.Chained.{same_set}
use Rattle.cg_edge.proofs.Marked.{swept_more, swept_all}
use Rattle.cg_edge.proofs.Walk.{walk_long, walked}
use Rattle.cg_edge.proofs.settle.sweep.Goals as goal

pub loop-place-preserved : goal.loop-place-preserved
loop-place-preserved c =
    let n = c.args.schedule.now.netlist.now in
    let good = c.requires.schedule.netlist.well_formed in
    let i : ℕ = c.loop-place.place in
    let old : List Bool = c.loop-place.nets in
    let cell : (cell : LogicCell ℕ) × (slice_get (walk_of n) i ≡ Some cell) = element_at (walk_of n) i (omega (arith, ap length c.requires.schedule.ordered, walk_long n good)) in
    let k : (k : ℕ) × (slice_get n.cells k ≡ Some cell.0) = (walked n good).of_cells i cell.0 cell.1 in
    let v : Bool = function_value cell.0.function (values_at old cell.0.inputs) in
    let is : c.refresh-other.new.nets ≡ slice_set old cell.0.output v = c.refresh-other.ensures.nets cell.0 cell.1 in
    record {
      swept = swept_more n good i cell.0 old c.refresh-other.new.nets (c.loop-place.auto.nets ∙ c.requires.nets) cell.1 is c.loop-place.invariant.swept;
      same = subst (SameBut (cell_nets n) c.args.nets.now) (sym is) (same_set (cell_nets n) c.args.nets.now old cell.0.output v c.loop-place.invariant.same (member_at (cell_nets n) k.0 cell.0.output (at_map (λ (x : LogicCell ℕ). x.output) n.cells k.0 cell.0 k.1)));
      room = c.refresh-other.ensures.room ∙ c.loop-place.invariant.room;
    }

pub returns-clause-holds : goal.returns-clause-holds
returns-clause-holds c =
    let n = c.args.schedule.now.netlist.now in
    let good = c.requires.schedule.netlist.well_formed in
    swept_all n good c.loop-place.place c.loop-place.nets (omega (arith, ap length c.requires.schedule.ordered, walk_long n good)) c.loop-place.invariant.swept

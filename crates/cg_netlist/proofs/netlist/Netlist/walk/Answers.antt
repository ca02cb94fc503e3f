use Rattle.std.proofs.Common.{◌≡◌, ℕ, true, List, ◌∷◌, ◌+◌, Some, drop, length, slice_get, refl, sym, subst, arith}
use Rattle.std.proofs.lemmas.List.{drop_all, length-take}
use Rattle.std.proofs.lemmas.Option.{slice_get_read}
use Rattle.cg_netlist.specs.Circuit.{LogicCell}
use Rattle.cg_net.specs.NetSets.{is_in}
use Rattle.cg_netlist.specs.Moment.{values_at}
use Rattle.cg_netlist.specs.Nets.{walk_order}
use Rattle.cg_netlist.specs.View.{cell_seen}
use Rattle.cg_netlist.specs.Walk.{CalledAtCell, TakesEach}
use Rattle.cg_netlist.proofs.CellFits.{cell_fits, walk_within}
use Rattle.cg_net.proofs.Members.{member_at}
use Rattle.cg_netlist.proofs.Walks.{GoesOn, called_at_cell, drop_at, goes_on, within_more}
use Rattle.cg_netlist.proofs.netlist.Netlist.walk.Goals as goal

pub cell-cell-requires : goal.cell-cell-requires
cell-cell-requires g c =
    let order : List ℕ = c.order-order.result.now in
    let at : slice_get order c.loop-id.id-index ≡ Some c.id-item.result = slice_get_read order _ c.loop-id.id-index c.id-item.result refl c.loop-id-test.true c.id-item.is in
    walk_within c.args.self.now.cells c.id-item.result (subst (λ ks. is_in ks c.id-item.result ≡ true) c.order-order.ensures.order (member_at order c.loop-id.id-index c.id-item.result at))

pub loop-id-init : goal.loop-id-init
loop-id-init g c = record {
  may = subst (λ ks. TakesEach g.F.FnMut c.args.self.now.cells ks c.args.step c.args.values.now) (sym c.order-order.ensures.order) c.requires.callable.takes;
  whole = subst (λ ks. GoesOn g.F.FnMut c.args.self.now.cells ks c.args.step c.args.values.now c.order-order.result.now c.args.step c.args.values.now) c.order-order.ensures.order (λ last left walks. walks);
}

pub gather-requires : goal.gather-requires
gather-requires g c =
    let fits = cell_fits c.args.self.now c.order-order.ensures.netlist c.id-item.result (cell_seen c.cell-cell.result) c.cell-cell.ensures in
    record {
      nets = within_more (length c.args.self.now.names) (length c.loop-id.values) c.cell-cell.result.inputs.now (omega (arith, c.loop-id.auto.values, c.requires.values)) fits.inputs;
      scratch = omega (arith, fits.wide, c.requires.scratch, c.loop-id.auto.scratch);
    }

pub slice_bounds-step-end : goal.slice_bounds-step-end
slice_bounds-step-end g c =
    let fits = cell_fits c.args.self.now c.order-order.ensures.netlist c.id-item.result (cell_seen c.cell-cell.result) c.cell-cell.ensures in
    omega (arith, fits.wide, c.requires.scratch, c.loop-id.auto.scratch, c.gather.auto.scratch)

pub slice_bounds-step-end-in-loop-id : goal.slice_bounds-step-end-in-loop-id
slice_bounds-step-end-in-loop-id g c =
    let fits = cell_fits c.args.self.now c.order-order.ensures.netlist c.id-item.result (cell_seen c.cell-cell.result) c.cell-cell.ensures in
    omega (arith, fits.wide, c.requires.scratch, c.loop-id.auto.scratch, c.gather.auto.scratch, length-take (length c.cell-cell.result.inputs.now) c.gather.new.scratch)

pub step-answer-requires : goal.step-answer-requires
step-answer-requires g c =
    let order : List ℕ = c.order-order.result.now in
    let at : slice_get order c.loop-id.id-index ≡ Some c.id-item.result = slice_get_read order _ c.loop-id.id-index c.id-item.result refl c.loop-id-test.true c.id-item.is in
    let may = subst (λ ks. TakesEach g.F.FnMut c.args.self.now.cells ks c.loop-id.step c.loop-id.values) (drop_at order c.loop-id.id-index c.id-item.result at) c.loop-id.invariant.may in
    (may (cell_seen c.cell-cell.result) c.cell-cell.ensures).0 _ c.gather.ensures

pub put-requires : goal.put-requires
put-requires g c =
    let fits = cell_fits c.args.self.now c.order-order.ensures.netlist c.id-item.result (cell_seen c.cell-cell.result) c.cell-cell.ensures in
    omega (arith, fits.output, c.requires.values, c.loop-id.auto.values)

pub loop-id-preserved : goal.loop-id-preserved
loop-id-preserved g c =
    let cells : List (LogicCell ℕ) = c.args.self.now.cells in
    let order : List ℕ = c.order-order.result.now in
    let i : ℕ = c.loop-id.id-index in
    let id : ℕ = c.id-item.result in
    let at : slice_get order i ≡ Some id = slice_get_read order _ i id refl c.loop-id-test.true c.id-item.is in
    let front : drop i order ≡ id ∷ drop (i + 1) order = drop_at order i id at in
    let cell : LogicCell ℕ = cell_seen c.cell-cell.result in
    let called : CalledAtCell g.F.FnMut c.loop-id.step id (values_at c.loop-id.values cell.inputs) c.step-answer.result c.step-answer.new.self = called_at_cell g.F.FnMut c.loop-id.step id (values_at c.loop-id.values cell.inputs) c.step-answer.result c.step-answer.new.self c.step-answer.ensures c.gather.ensures in
    record {
      may = subst (λ vs. TakesEach g.F.FnMut cells (drop (i + 1) order) c.step-answer.new.self vs) (sym c.put.ensures)
          ((subst (λ ks. TakesEach g.F.FnMut cells ks c.loop-id.step c.loop-id.values) front c.loop-id.invariant.may cell c.cell-cell.ensures).1 c.step-answer.result c.step-answer.new.self called);
      whole = subst (λ vs. GoesOn g.F.FnMut cells (walk_order cells) c.args.step c.args.values.now (drop (i + 1) order) c.step-answer.new.self vs) (sym c.put.ensures)
          (goes_on g.F.FnMut cells (walk_order cells) c.args.step c.args.values.now id (drop (i + 1) order) c.loop-id.step c.loop-id.values cell c.step-answer.result c.step-answer.new.self
          (subst (λ ks. GoesOn g.F.FnMut cells (walk_order cells) c.args.step c.args.values.now ks c.loop-id.step c.loop-id.values) front c.loop-id.invariant.whole) c.cell-cell.ensures called);
    }

pub returns : goal.returns
returns g c =
    let cells : List (LogicCell ℕ) = c.args.self.now.cells in
    let whole = subst (λ ks. GoesOn g.F.FnMut cells (walk_order cells) c.args.step c.args.values.now ks c.loop-id.step c.loop-id.values) (drop_all c.loop-id.id-index c.order-order.result.now (omega (arith, c.loop-id-test.false))) c.loop-id.invariant.whole in
    (c.loop-id.step, record { called = whole c.loop-id.step c.loop-id.values (refl, refl) })

use Rattle.std.proofs.Common.{◌≡◌, ◌<◌, ℕ, List, ◌∷◌, ◌+◌, Ok, Err, Some, drop, length, slice_get, slice_set, refl, sym, ◌∙◌}
use Rattle.std.proofs.Common.{ap, subst, arith}
use Rattle.std.specs.List.{All}
use Rattle.std.proofs.lemmas.List.{drop_all, length-take}
use Rattle.std.proofs.lemmas.Option.{slice_get_read}
use Rattle.cg_netlist.specs.Moment.{values_at}
use Rattle.cg_netlist.proofs.Walks.{drop_at}
use Rattle.std.proofs.lemmas.Result.{err_from_is_err_and}
use Rattle.cg_machine.specs.Machine.{MachineData}
use Rattle.cg_machine.specs.Tries.{AnswersAtCell, TakesEach, TriesEach}
use Rattle.cg_machine.proofs.TryLemmas.{GoesOn, answers_at_cell, cell_of, ends_there, fits_at, goes_on}
use Rattle.cg_machine.proofs.machine.Machine.try_walk.Goals as goal

pub gather-requires-clause-nets : goal.gather-requires-clause-nets
gather-requires-clause-nets g c =
    let m : MachineData = c.args.self.now in
    let cell = cell_of m c.args.cone.now.cells c.as_slice-cells.result.now c.as_slice-cells.ensures.parts c.requires.cells c.loop-id.id-index c.id-item.result c.loop-id-test.true c.id-item.is in
    subst (All (λ net. net < length c.loop-id.values)) (sym (c.inputs_of-inputs.ensures cell.0 cell.1)) ((fits_at m c.netlist-netlist.ensures.machine c.id-item.result cell.0 cell.1).inputs (length c.loop-id.values) (sym (c.loop-id.auto.values ∙ c.requires.values)))

pub gather-requires-clause-scratch : goal.gather-requires-clause-scratch
gather-requires-clause-scratch g c =
    let m : MachineData = c.args.self.now in
    let cell = cell_of m c.args.cone.now.cells c.as_slice-cells.result.now c.as_slice-cells.ensures.parts c.requires.cells c.loop-id.id-index c.id-item.result c.loop-id-test.true c.id-item.is in
    omega (arith, (fits_at m c.netlist-netlist.ensures.machine c.id-item.result cell.0 cell.1).wide, ap length (c.inputs_of-inputs.ensures cell.0 cell.1), c.requires.scratch, c.loop-id.auto.scratch)

pub slice_bounds-step-end : goal.slice_bounds-step-end
slice_bounds-step-end g c =
    let m : MachineData = c.args.self.now in
    let cell = cell_of m c.args.cone.now.cells c.as_slice-cells.result.now c.as_slice-cells.ensures.parts c.requires.cells c.loop-id.id-index c.id-item.result c.loop-id-test.true c.id-item.is in
    omega (arith, (fits_at m c.netlist-netlist.ensures.machine c.id-item.result cell.0 cell.1).wide, ap length (c.inputs_of-inputs.ensures cell.0 cell.1), c.requires.scratch, c.loop-id.auto.scratch, c.gather.auto.scratch)

pub slice_bounds-step-end-in-loop-id : goal.slice_bounds-step-end-in-loop-id
slice_bounds-step-end-in-loop-id g c =
    let m : MachineData = c.args.self.now in
    let cell = cell_of m c.args.cone.now.cells c.as_slice-cells.result.now c.as_slice-cells.ensures.parts c.requires.cells c.loop-id.id-index c.id-item.result c.loop-id-test.true c.id-item.is in
    omega (arith, (fits_at m c.netlist-netlist.ensures.machine c.id-item.result cell.0 cell.1).wide, ap length (c.inputs_of-inputs.ensures cell.0 cell.1), c.requires.scratch, c.loop-id.auto.scratch, c.gather.auto.scratch, length-take (length c.inputs_of-inputs.result.now) c.gather.new.scratch)

pub step-requires : goal.step-requires
step-requires g c =
    let m : MachineData = c.args.self.now in
    let order : List ℕ = c.as_slice-cells.result.now in
    let cell = cell_of m c.args.cone.now.cells order c.as_slice-cells.ensures.parts c.requires.cells c.loop-id.id-index c.id-item.result c.loop-id-test.true c.id-item.is in
    let at : slice_get order c.loop-id.id-index ≡ Some c.id-item.result = slice_get_read order _ c.loop-id.id-index c.id-item.result refl c.loop-id-test.true c.id-item.is in
    let may = subst (λ ks. TakesEach g.F.Fn c.args.step.now m.circuit.cells ks c.loop-id.state c.loop-id.values) (drop_at order c.loop-id.id-index c.id-item.result at) c.loop-id.invariant.may in
    (may cell.0 cell.1).0 _ _ refl (c.gather.ensures ∙ ap (values_at c.loop-id.values) (c.inputs_of-inputs.ensures cell.0 cell.1))

pub put-requires : goal.put-requires
put-requires g c =
    let m : MachineData = c.args.self.now in
    let cell = cell_of m c.args.cone.now.cells c.as_slice-cells.result.now c.as_slice-cells.ensures.parts c.requires.cells c.loop-id.id-index c.id-item.result c.loop-id-test.true c.id-item.is in
    omega (arith, (fits_at m c.netlist-netlist.ensures.machine c.id-item.result cell.0 cell.1).output, c.output_of.ensures cell.0 cell.1, c.requires.values, c.loop-id.auto.values)

pub returns-in_err-answer : goal.returns-in_err-answer
returns-in_err-answer g c =
    let m : MachineData = c.args.self.now in
    let order : List ℕ = c.as_slice-cells.result.now in
    let cell = cell_of m c.args.cone.now.cells order c.as_slice-cells.ensures.parts c.requires.cells c.loop-id.id-index c.id-item.result c.loop-id-test.true c.id-item.is in
    let at : slice_get order c.loop-id.id-index ≡ Some c.id-item.result = slice_get_read order _ c.loop-id.id-index c.id-item.result refl c.loop-id-test.true c.id-item.is in
    let so_far = subst (λ ks. GoesOn g.F.Fn c.args.step.now m.circuit.cells order c.args.state.now c.args.values.now ks c.loop-id.state c.loop-id.values) (drop_at order c.loop-id.id-index c.id-item.result at) c.loop-id.invariant.whole in
    let told : AnswersAtCell g.F.Fn c.args.step.now c.loop-id.state c.id-item.result (values_at c.loop-id.values cell.0.inputs) (Err c.in_err-answer.field-0.0) c.step.new.arg2 =
    answers_at_cell g.F.Fn c.args.step.now c.loop-id.state c.id-item.result (values_at c.loop-id.values cell.0.inputs) (Err c.in_err-answer.field-0.0) c.step.new.arg2 c.in_err-answer.ensures refl (c.gather.ensures ∙ ap (values_at c.loop-id.values) (c.inputs_of-inputs.ensures cell.0 cell.1)) refl in
    let passed = err_from_is_err_and c.from_residual.result c.from_residual.ensures.1 in
    rw (passed.1, passed.2) (record {
      tried = subst (λ ks. TriesEach g.F.Fn c.args.step.now m.circuit.cells ks c.args.state.now c.args.values.now (Err c.in_err-answer.field-0.0) c.step.new.arg2 c.loop-id.values) c.as_slice-cells.ensures.parts
          (ends_there g.F.Fn c.args.step.now m.circuit.cells order c.args.state.now c.args.values.now c.id-item.result (drop (c.loop-id.id-index + 1) order) c.loop-id.state c.loop-id.values cell.0 c.in_err-answer.field-0.0 c.step.new.arg2 so_far cell.1 told);
    })

pub loop-id-preserved : goal.loop-id-preserved
loop-id-preserved g c =
    let m : MachineData = c.args.self.now in
    let order : List ℕ = c.as_slice-cells.result.now in
    let i : ℕ = c.loop-id.id-index in
    let id : ℕ = c.id-item.result in
    let cell = cell_of m c.args.cone.now.cells order c.as_slice-cells.ensures.parts c.requires.cells i id c.loop-id-test.true c.id-item.is in
    let at : slice_get order i ≡ Some id = slice_get_read order _ i id refl c.loop-id-test.true c.id-item.is in
    let front : drop i order ≡ id ∷ drop (i + 1) order = drop_at order i id at in
    let told : AnswersAtCell g.F.Fn c.args.step.now c.loop-id.state id (values_at c.loop-id.values cell.0.inputs) (Ok c.in_ok-answer.answer) c.step.new.arg2 =
    answers_at_cell g.F.Fn c.args.step.now c.loop-id.state id (values_at c.loop-id.values cell.0.inputs) (Ok c.in_ok-answer.answer) c.step.new.arg2 c.in_ok-answer.ensures refl (c.gather.ensures ∙ ap (values_at c.loop-id.values) (c.inputs_of-inputs.ensures cell.0 cell.1)) refl in
    let put : c.put.new.values ≡ slice_set c.loop-id.values cell.0.output c.in_ok-answer.answer = c.put.ensures ∙ ap (λ n. slice_set c.loop-id.values n c.in_ok-answer.answer) (c.output_of.ensures cell.0 cell.1) in
    record {
      may = subst (λ vs. TakesEach g.F.Fn c.args.step.now m.circuit.cells (drop (i + 1) order) c.step.new.arg2 vs) (sym put)
          ((subst (λ ks. TakesEach g.F.Fn c.args.step.now m.circuit.cells ks c.loop-id.state c.loop-id.values) front c.loop-id.invariant.may cell.0 cell.1).1 c.in_ok-answer.answer c.step.new.arg2 told);
      whole = subst (λ vs. GoesOn g.F.Fn c.args.step.now m.circuit.cells order c.args.state.now c.args.values.now (drop (i + 1) order) c.step.new.arg2 vs) (sym put)
          (goes_on g.F.Fn c.args.step.now m.circuit.cells order c.args.state.now c.args.values.now id (drop (i + 1) order) c.loop-id.state c.loop-id.values cell.0 c.in_ok-answer.answer c.step.new.arg2
          (subst (λ ks. GoesOn g.F.Fn c.args.step.now m.circuit.cells order c.args.state.now c.args.values.now ks c.loop-id.state c.loop-id.values) front c.loop-id.invariant.whole) cell.1 told);
    }

pub returns : goal.returns
returns g c =
    let m : MachineData = c.args.self.now in
    let order : List ℕ = c.as_slice-cells.result.now in
    let whole = subst (λ ks. GoesOn g.F.Fn c.args.step.now m.circuit.cells order c.args.state.now c.args.values.now ks c.loop-id.state c.loop-id.values) (drop_all c.loop-id.id-index order (omega (arith, c.loop-id-test.false))) c.loop-id.invariant.whole in
    record { tried = subst (λ ks. TriesEach g.F.Fn c.args.step.now m.circuit.cells ks c.args.state.now c.args.values.now (Ok tt) c.loop-id.state c.loop-id.values) c.as_slice-cells.ensures.parts (whole (Ok tt) c.loop-id.state c.loop-id.values (refl, refl, refl)) }

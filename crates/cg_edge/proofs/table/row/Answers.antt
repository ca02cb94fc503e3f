use Rattle.std.proofs.Common.{◌≡◌, ◌+◌, ◌-◌, ◌*◌, ◌<◌, ℕ, Bool, List, length, drop, slice_get, slice_index_or, Some, false, sym, ap}
use Rattle.std.proofs.Common.{◌∙◌, arith}
use Rattle.std.proofs.lemmas.Option.{slice_get-get_or}
use Rattle.cg_cell.specs.Bits.{one_if}
use Rattle.cg_netlist.specs.Moment.{values_at}
use Rattle.cg_edge.specs.inner.Flat.{row_of}
use Rattle.cg_edge.proofs.Rows.{below_at, one_if_byte, one_if_small, row_few_from, row_from}
use Rattle.cg_edge.proofs.table.row.Goals as goal

pub overflow_mul-row : goal.overflow_mul-row
overflow_mul-row c = let small = row_few_from c.args.nets.now c.args.inputs.now c.loop-place.place c.requires.few in omega (arith, small, c.loop-place.invariant)

pub overflow_add-row : goal.overflow_add-row
overflow_add-row c =
    let small = row_few_from c.args.nets.now c.args.inputs.now c.loop-place.place c.requires.few in
    let b : Bool = slice_index_or c.args.nets.now c.number.result false in
    let one = one_if_byte b in
    let most = one_if_small b in
    omega (arith, small, c.loop-place.invariant, one, most)

pub loop-place-preserved : goal.loop-place-preserved
loop-place-preserved c =
    let nets : List Bool = c.args.nets.now in
    let inputs : List ℕ = c.args.inputs.now in
    let x : ℕ = c.index-inputs-place.result in
    let here : slice_get inputs (c.loop-place.place - 1) ≡ Some x = slice_get-get_or inputs (c.loop-place.place - 1) x (omega (arith, c.loop-place-test.true, c.loop-place.auto.place)) ∙ ap (λ y. Some y) (sym c.index-inputs-place.is) in
    let b : Bool = slice_index_or nets c.number.result false in
    let below : x < length nets = below_at nets inputs (c.loop-place.place - 1) x c.requires.nets here in
    let is : slice_get nets x ≡ Some b = ap (slice_get nets) (sym c.number.ensures.number) ∙ slice_get-get_or nets c.number.result false (omega (arith, below, c.number.ensures.number)) in
    let next : c.loop-place.place - 1 + 1 ≡ c.loop-place.place = omega (arith, c.loop-place-test.true) in
    let row : row_of (values_at nets (drop (c.loop-place.place - 1) inputs)) ≡ one_if b + 2 * row_of (values_at nets (drop (c.loop-place.place - 1 + 1) inputs)) = row_from nets inputs (c.loop-place.place - 1) x b here is in
    let same = ap (λ i. row_of (values_at nets (drop i inputs))) next in
    let one = one_if_byte b in
    omega (arith, row, same, c.loop-place.invariant, one)

pub returns-clause-small : goal.returns-clause-small
returns-clause-small c = let small = row_few_from c.args.nets.now c.args.inputs.now c.loop-place.place c.requires.few in omega (arith, small, c.loop-place.invariant)

use Rattle.std.proofs.Common.{◌≡◌, ◌+◌, ◌-◌, ◌<◌, ℕ, List, length, drop, slice_get, Some, sym, ap, ◌∙◌, subst, arith}
use Rattle.std.proofs.lemmas.Option.{slice_get-get_or}
use Rattle.cg_net.proofs.TableLemmas.{All-at}
use Rattle.cg_netlist.specs.Circuit.{LogicCell}
use Rattle.cg_netlist.specs.Moment.{values_at}
use Rattle.cg_netlist_cone.specs.Cone.{cone_of}
use Rattle.cg_hold_widths.specs.inner.Masks.{AreMasks}
use Rattle.cg_hold_widths.proofs.Backward.{cells_from, element, led_more}
use Rattle.cg_hold_widths.proofs.back.lead_back.Goals as goal

pub loop-place-preserved : goal.loop-place-preserved
loop-place-preserved c = λ nets are.
    let cells : List (LogicCell ℕ) = c.args.machine.now.circuit.cells in
    let ids : List ℕ = c.args.cells.now in
    let place : ℕ = c.loop-place.place - 1 in
    let id : ℕ = c.index-cells-place.result in
    let at : slice_get ids place ≡ Some id = slice_get-get_or ids place id (omega (arith, c.loop-place-test.true, c.loop-place.auto.place)) ∙ ap (λ y. Some y) (sym c.index-cells-place.is) in
    let within : id < length cells = All-at ids (length cells) place id at c.requires in
    let cell = element cells id within in
    let next : place + 1 ≡ c.loop-place.place = omega (arith, c.loop-place-test.true) in
    let before : AreMasks (λ i. cone_of (values_at cells (drop (place + 1) ids)) (nets i)) c.loop-place.masks =
    subst (λ p. AreMasks (λ i. cone_of (values_at cells (drop p ids)) (nets i)) c.loop-place.masks) (sym next) (c.loop-place.invariant nets are) in
    let more = led_more nets cell.0 (values_at cells (drop (place + 1) ids)) c.loop-place.masks c.lead_through.new.masks before (c.in_ok-lead_through.ensures cell.0 cell.1) in
    subst (λ l. AreMasks (λ i. cone_of l (nets i)) c.lead_through.new.masks) (sym (cells_from cells ids place id cell.0 at cell.1)) more

pub returns : goal.returns
returns c = λ nets are.
    let cells : List (LogicCell ℕ) = c.args.machine.now.circuit.cells in
    let first : c.loop-place.place ≡ 0 = omega (arith, c.loop-place-test.false) in
    subst (λ p. AreMasks (λ i. cone_of (values_at cells (drop p c.args.cells.now)) (nets i)) c.loop-place.masks) first (c.loop-place.invariant nets are)

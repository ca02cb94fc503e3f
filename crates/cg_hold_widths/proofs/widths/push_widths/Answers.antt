use Rattle.std.proofs.Common.{◌≡◌, ◌<◌, ◌++◌, ◌∷◌, [], ℕ, List, length, map, take, slice_get, Some, refl, sym, ap, ◌∙◌, subst, arith}
use Rattle.std.specs.List.{All, count_by}
use Rattle.std.proofs.lemmas.List.{append_assoc, map-append, take_all}
use Rattle.std.proofs.lemmas.Option.{same_Some, slice_get_read}
use Rattle.cg_machine.specs.Machine.{MachineData}
use Rattle.cg_net.proofs.TableLemmas.{All-at, take_next}
use Rattle.cg_netlist.specs.Moment.{values_at}
use Rattle.cg_netlist_cone.specs.Cone.{cone_of}
use Rattle.cg_netlist_cone.specs.declared.cone.Cone.{Cone}
use Rattle.cg_stage_list_laws.specs.HoldList.{hold_width}
use Rattle.cg_hold_widths.specs.inner.Marked.{next_nets_at}
use Rattle.cg_hold_widths.specs.inner.Masks.{AreMasks, has_bit}
use Rattle.cg_hold_widths.proofs.Backward.{element}
use Rattle.cg_hold_widths.proofs.Grouped.{cells_within, registers_within, roots_there, width_counted}
use Rattle.cg_hold_widths.proofs.widths.push_widths.Goals as goal

pub find-requires : goal.find-requires
find-requires c = roots_there c.args.machine.now c.netlist-netlist.ensures.machine c.args.regs.now c.deref.result.now (c.deref.ensures.value ∙ c.in_ok-roots.ensures.roots)

pub lead_back-requires : goal.lead_back-requires
lead_back-requires c =
    subst (All (λ k. k < length c.args.machine.now.circuit.cells)) (sym c.as_slice.ensures.parts)
    (cells_within c.args.machine.now c.netlist-netlist.ensures.machine c.args.regs.now c.deref.result.now (c.deref.ensures.value ∙ c.in_ok-roots.ensures.roots) c.in_ok-cone.cone c.in_ok-cone.ensures)

pub leaves-requires-clause-edge : goal.leaves-requires-clause-edge
leaves-requires-clause-edge c =
    registers_within c.args.machine.now c.netlist-netlist.ensures.machine c.args.regs.now c.deref.result.now (c.deref.ensures.value ∙ c.in_ok-roots.ensures.roots) c.in_ok-cone.cone c.in_ok-cone.ensures

pub loop-place-preserved : goal.loop-place-preserved
loop-place-preserved c =
    let m : MachineData = c.args.machine.now in
    let regs : List ℕ = c.args.regs.now in
    let old : List ℕ = c.args.widths.now.items in
    let place : ℕ = c.loop-place.place in
    let cone : Cone = c.in_ok-cone.cone in
    let counts : List ℕ = c.in_ok-counts.counts.items in
    let leaves : List ℕ = c.in_ok-leaves.leaves.items in
    let reg = element regs place (omega (arith, c.loop-place-test.true)) in
    let r : ℕ = reg.0 in
    let at : slice_get regs place ≡ Some r = reg.1 in
    let there : r < length m.circuit.registers = All-at regs (length m.circuit.registers) place r at c.requires.registers in
    let are : AreMasks (λ i. cone_of (values_at m.circuit.cells cone.cells) (next_nets_at m regs i)) c.lead_back.new.masks =
    subst (λ l. AreMasks (λ i. cone_of (values_at m.circuit.cells l) (next_nets_at m regs i)) c.lead_back.new.masks) c.as_slice.ensures.parts (c.in_ok-lead_back.ensures (next_nets_at m regs) c.in_ok-roots.ensures.masks) in
    let counted = width_counted m c.netlist-netlist.ensures.machine regs c.deref.result.now (c.deref.ensures.value ∙ c.in_ok-roots.ensures.roots) cone c.in_ok-cone.ensures c.lead_back.new.masks are place r at there in
    let few = c.requires.few in
    let all = c.in_ok-counts.ensures.all in
    let read : slice_get counts place ≡ Some c.index.result.now = slice_get_read counts _ place c.index.result.now refl (omega (arith, c.loop-place-test.true, few, all)) c.index.ensures in
    let is : c.index.result.now ≡ count_by (has_bit place) leaves =
    same_Some c.index.result.now (count_by (has_bit place) leaves) (sym read ∙ (c.in_ok-counts.ensures.each place (omega (arith, c.loop-place-test.true, few)) ∙ ap (λ l. Some (count_by (has_bit place) l)) c.deref-2.ensures.value)) in
    let width : c.index.result.now ≡ hold_width m r = is ∙ (c.in_ok-leaves.ensures place ∙ counted) in
    c.in_ok-push.ensures.items
    ∙ (ap (λ l. l ++ c.index.result.now ∷ []) c.loop-place.invariant
    ∙ (append_assoc old (map (hold_width m) (take place regs)) (c.index.result.now ∷ [])
    ∙ ap (λ l. old ++ l) (ap (λ n. map (hold_width m) (take place regs) ++ n ∷ []) width
    ∙ sym (ap (map (hold_width m)) (take_next regs place r at) ∙ map-append (hold_width m) (take place regs) (r ∷ [])))))

pub returns : goal.returns
returns c = c.loop-place.invariant ∙ ap (λ l. c.args.widths.now.items ++ map (hold_width c.args.machine.now) l) (take_all c.loop-place.place c.args.regs.now (omega (arith, c.loop-place-test.false)))

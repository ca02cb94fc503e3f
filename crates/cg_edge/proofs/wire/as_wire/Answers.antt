use Rattle.std.proofs.Common.{◌≡◌, ℕ, slice_get, Some, sym, subst, ap, ◌∙◌}
use Rattle.std.proofs.lemmas.Option.{same_Some, slice_get-get_or}
use Rattle.cg_netlist.specs.Circuit.{RegisterCell}
use Rattle.cg_netlist.specs.View.{register_seen}
use Rattle.cg_edge.specs.declared.wire.Wire.{Wire}
use Rattle.cg_edge.specs.inner.Wires.{IsWire}
use Rattle.cg_edge.proofs.Wired.{wire_is}
use Rattle.cg_edge.proofs.wire.as_wire.Goals as goal

pub returns : goal.returns
returns c r at =
    let wire : Wire = record { input = c.in_ok-input.field-0.now; output = c.in_ok-output.output } in
    let seen : RegisterCell ℕ ℕ = register_seen c.register-register.result in
    let found = c.in_ok-input.ensures.lookup in
    let at_place : slice_get seen.inputs c.in_ok-place.place ≡ Some wire.input = slice_get-get_or seen.inputs c.in_ok-place.place wire.input found.3.0 ∙ ap (λ x. Some x) (sym found.1) in
    subst (λ (x : RegisterCell ℕ ℕ). IsWire x wire) (same_Some seen r (sym c.register-register.ensures ∙ at))
    (wire_is seen c.in_ok-place.place wire at_place c.in_ok-output.ensures c.in_ok-place.ensures)

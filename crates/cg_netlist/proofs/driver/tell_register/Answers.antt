use Rattle.std.proofs.Common.{◌≡◌, ◌+◌, ◌++◌, ℕ, Bool, List, Some, drop, length, map, set, slice_get, refl, sym, ◌∙◌, ap, subst}
use Rattle.std.proofs.Common.{arith}
use Rattle.std.specs.List.{flat_map}
use Rattle.std.proofs.lemmas.Option.{slice_get_read}
use Rattle.cg_netlist.specs.Circuit.{Circuit, RegisterCell, shown_nets}
use Rattle.cg_netlist.specs.declared.driver.Driver.TheVariants.{Register}
use Rattle.cg_netlist.specs.inner.Driving.{IsTold, behind_registers}
use Rattle.cg_netlist.proofs.DriverTable.{register_net_within, register_listed, registers_left}
use Rattle.cg_netlist.proofs.driver.tell_register.Goals as goal

pub loop-place-init : goal.loop-place-init
loop-place-init c =
    let parts : Circuit = c.args.parts.now in
    let register : RegisterCell ℕ ℕ = c.index-register.result.now in
    let rest : List ℕ = flat_map shown_nets (drop (c.args.r + 1) parts.registers) ++ behind_registers parts in
    let at : slice_get parts.registers c.args.r ≡ Some register = ap (λ (p : Circuit). slice_get p.registers c.args.r) (sym c.parts.view_is) ∙ slice_get_read c.parts.inside.registers.items _ c.args.r register refl (omega (arith, c.requires.register, ap (λ (p : Circuit). length p.registers) c.parts.view_is)) c.index-register.ensures in
    subst (λ (outputs : List (ℕ × Bool)). IsTold parts (map (λ (o : ℕ × Bool). o.0) outputs ++ rest) c.args.drivers.now) (sym (c.as_slice-outputs.ensures ∙ ap (λ (r : RegisterCell ℕ ℕ). r.outputs) c.register.view_is))
    (subst (λ left. IsTold parts left c.args.drivers.now) (registers_left parts.registers (behind_registers parts) c.args.r register at) c.requires.told)

pub bounds-drivers-number : goal.bounds-drivers-number
bounds-drivers-number c =
    let parts : Circuit = c.args.parts.now in
    let register : RegisterCell ℕ ℕ = c.index-register.result.now in
    let at : slice_get parts.registers c.args.r ≡ Some register = ap (λ (p : Circuit). slice_get p.registers c.args.r) (sym c.parts.view_is) ∙ slice_get_read c.parts.inside.registers.items _ c.args.r register refl (omega (arith, c.requires.register, ap (λ (p : Circuit). length p.registers) c.parts.view_is)) c.index-register.ensures in
    let outputs : c.as_slice-outputs.result.now ≡ register.outputs = c.as_slice-outputs.ensures ∙ ap (λ (r : RegisterCell ℕ ℕ). r.outputs) c.register.view_is in
    let output : ℕ × Bool = c.index-outputs-place.result in
    let shown : slice_get register.outputs c.loop-place.place ≡ Some output = ap (λ (os : List (ℕ × Bool)). slice_get os c.loop-place.place) (sym outputs) ∙ slice_get_read c.as_slice-outputs.result.now _ c.loop-place.place output refl c.loop-place-test.true c.index-outputs-place.is in
    omega (arith, register_net_within parts c.requires.netlist.well_formed.driven c.args.r register c.loop-place.place output.0 output.1 at shown, c.number.ensures.number, c.loop-place.invariant.long)

pub loop-place-preserved : goal.loop-place-preserved
loop-place-preserved c =
    let parts : Circuit = c.args.parts.now in
    let place : ℕ = c.loop-place.place in
    let register : RegisterCell ℕ ℕ = c.index-register.result.now in
    let rest : List ℕ = flat_map shown_nets (drop (c.args.r + 1) parts.registers) ++ behind_registers parts in
    let at : slice_get parts.registers c.args.r ≡ Some register = ap (λ (p : Circuit). slice_get p.registers c.args.r) (sym c.parts.view_is) ∙ slice_get_read c.parts.inside.registers.items _ c.args.r register refl (omega (arith, c.requires.register, ap (λ (p : Circuit). length p.registers) c.parts.view_is)) c.index-register.ensures in
    let outputs : c.as_slice-outputs.result.now ≡ register.outputs = c.as_slice-outputs.ensures ∙ ap (λ (r : RegisterCell ℕ ℕ). r.outputs) c.register.view_is in
    let output : ℕ × Bool = c.index-outputs-place.result in
    let shown : slice_get register.outputs place ≡ Some output = ap (λ (os : List (ℕ × Bool)). slice_get os place) (sym outputs) ∙ slice_get_read c.as_slice-outputs.result.now _ place output refl c.loop-place-test.true c.index-outputs-place.is in
    let told = register_listed parts c.args.r register place output.0 output.1 rest c.loop-place.drivers at shown (subst (λ (os : List (ℕ × Bool)). IsTold parts (map (λ (o : ℕ × Bool). o.0) (drop place os) ++ rest) c.loop-place.drivers) outputs c.loop-place.invariant) in
    subst (λ (os : List (ℕ × Bool)). IsTold parts (map (λ (o : ℕ × Bool). o.0) (drop (place + 1) os) ++ rest) (set c.loop-place.drivers c.number.result (Register c.new.result output.1))) (sym outputs)
    (subst (λ n. IsTold parts (map (λ (o : ℕ × Bool). o.0) (drop (place + 1) register.outputs) ++ rest) (set c.loop-place.drivers n (Register c.new.result output.1))) (sym c.number.ensures.number)
    (subst (λ j. IsTold parts (map (λ (o : ℕ × Bool). o.0) (drop (place + 1) register.outputs) ++ rest) (set c.loop-place.drivers output.0 (Register j output.1))) (sym c.new.ensures) told))

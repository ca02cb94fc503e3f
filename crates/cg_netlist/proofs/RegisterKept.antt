-- A register fits its kind whatever numbers its nets have.
use Rattle.std.proofs.Common.{[], ℕ, suc, ◌≤◌, ◌≡◌, Bool, List, ◌∷◌, map, length, refl, sym, ap, ◌∙◌, arith}
use Rattle.std.specs.List.{AllZip}
use Rattle.std.proofs.lemmas.List.{length-map}
use Rattle.cg_cell.specs.Pins.{PinData}
use Rattle.cg_netlist.specs.Wiring.{map_register}
use Rattle.cg_netlist.specs.Circuit.{RegisterCell}
use Rattle.cg_netlist.specs.WellFormed.{FitsKind, RegisterFits, ShowsAsPin}
use Rattle.cg_netlist.specs.declared.parts.RegisterKind.{RegisterKind}
use Rattle.cg_netlist.specs.declared.parts.RegisterKind.TheVariants.{Plain, Flop}

-- renumbering keeps that a register has the inputs and outputs of its kind
pins_kept : (f : ℕ → ℕ) (pins : List PinData) (outputs : List (ℕ × Bool)) (places : List ℕ) → AllZip (ShowsAsPin pins) outputs places → AllZip (ShowsAsPin pins) (map (λ output. (f output.0, output.1)) outputs) places
pins_kept f pins [] [] all = tt
pins_kept f pins [] (place ∷ places) all = all
pins_kept f pins (output ∷ outputs) [] all = all
pins_kept f pins (output ∷ outputs) (place ∷ places) all = (all.0, pins_kept f pins outputs places all.1)

inverted_kept : (f : ℕ → ℕ) (outputs : List (ℕ × Bool)) → map {A = ℕ × Bool} (λ output. output.1) (map (λ output. (f output.0, output.1)) outputs) ≡ map (λ output. output.1) outputs
inverted_kept f [] = refl
inverted_kept f (output ∷ outputs) = ap (λ bs. output.1 ∷ bs) (inverted_kept f outputs)

outputs_kept : (f : ℕ → ℕ) (outputs : List (ℕ × Bool)) → 1 ≤ length outputs → 1 ≤ length (map {A = ℕ × Bool} {B = ℕ × Bool} (λ output. (f output.0, output.1)) outputs)
outputs_kept f [] some = some
outputs_kept f (output ∷ outputs) some = omega arith

pins_long : (f : ℕ → ℕ) (outputs : List (ℕ × Bool)) → length outputs ≡ length (map {A = ℕ × Bool} {B = ℕ × Bool} (λ output. (f output.0, output.1)) outputs)
pins_long f [] = refl
pins_long f (output ∷ outputs) = ap suc (pins_long f outputs)

kind_kept : (f : ℕ → ℕ) (r : RegisterCell ℕ ℕ) (kind : RegisterKind) → FitsKind kind r → FitsKind kind (map_register f r)
kind_kept f r Plain fits = (length-map r.inputs f ∙ fits.0, inverted_kept f r.outputs ∙ fits.1, fits.2)
kind_kept f r (Flop cell) fits =
    (fits.0, fits.1, fits.2 ∙ sym (length-map r.inputs f), outputs_kept f r.outputs fits.3, pins_kept f cell.pins r.outputs r.pins fits.4, fits.5)

pub register_kept : (f : ℕ → ℕ) (r : RegisterCell ℕ ℕ) → RegisterFits r → RegisterFits (map_register f r)
register_kept f r fits = record { kind = kind_kept f r r.kind fits.kind; pins = fits.pins ∙ pins_long f r.outputs; init = fits.init }

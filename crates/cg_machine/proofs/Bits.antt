-- Bits of a machine's registers, and of nets that are no outputs of cells.
use Rattle.std.proofs.Common.{◌≡◌, ℕ, zero, suc, ◌+◌, ◌<◌, ◌≤◌, Bool, false, List, [], ◌∷◌, length, slice_get, Some, refl, ap, ◌∙◌}
use Rattle.std.proofs.Common.{arith}
use Rattle.std.specs.List.{range_with_len}
use Rattle.std.proofs.lemmas.Option.{get_or_from_slice_get}
use Rattle.std.proofs.lemmas.List.{length-map}
use Rattle.cg_netlist.specs.Moment.{bit}
use Rattle.cg_netlist.proofs.OrderLemmas.{length-range_with_len}
use Rattle.cg_netlist.proofs.Values.{by_place}
use Rattle.cg_machine.specs.Machine.{MachineData, each_register}

pub bit_past : (s : List Bool) (r : ℕ) → length s ≤ r → bit s r ≡ false
bit_past [] r past = refl
bit_past (b ∷ s) zero past = absurd (omega arith)
bit_past (b ∷ s) (suc r) past = bit_past s r (omega arith)

-- a list with a bit for each register
pub length-each : (m : MachineData) (f : ℕ → Bool) → length (each_register m f) ≡ length m.circuit.registers
length-each m f = length-map (range_with_len 0 (length m.circuit.registers)) f ∙ length-range_with_len (length m.circuit.registers) 0

pub each_get : (m : MachineData) (f : ℕ → Bool) (r : ℕ) → r < length m.circuit.registers → slice_get (each_register m f) r ≡ Some (f r)
each_get m f r below = let same : 0 + r ≡ r = omega arith in by_place f (length m.circuit.registers) 0 r below ∙ ap (λ k. Some (f k)) same

pub each_bit : (m : MachineData) (f : ℕ → Bool) (r : ℕ) → r < length m.circuit.registers → bit (each_register m f) r ≡ f r
each_bit m f r below = get_or_from_slice_get (each_register m f) r (f r) false (each_get m f r below)

-- lists of one length have the same element at a place where they have the same bit
pub same_get : (s t : List Bool) (r : ℕ) → length s ≡ length t → bit s r ≡ bit t r → slice_get s r ≡ slice_get t r
same_get [] [] r long same = refl
same_get [] (b ∷ t) r long same = absurd (omega arith)
same_get (a ∷ s) [] r long same = absurd (omega arith)
same_get (a ∷ s) (b ∷ t) zero long same = ap Some same
same_get (a ∷ s) (b ∷ t) (suc r) long same = same_get s t r (omega arith) same

pub same_bit : (s t : List Bool) (r : ℕ) → slice_get s r ≡ slice_get t r → bit s r ≡ bit t r
same_bit [] [] r same = refl
same_bit [] (b ∷ t) zero same = absurd (cc)
same_bit [] (b ∷ t) (suc r) same = same_bit [] t r same
same_bit (a ∷ s) [] zero same = absurd (cc)
same_bit (a ∷ s) [] (suc r) same = same_bit s [] r same
same_bit (a ∷ s) (b ∷ t) zero same = let e : a ≡ b = cc in e
same_bit (a ∷ s) (b ∷ t) (suc r) same = same_bit s t r same

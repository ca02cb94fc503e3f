-- What is left to look at, or to write, is the next one and what is left behind it.
use Rattle.std.proofs.Common.{[], ◌≡◌, ℕ, suc, ◌+◌, ◌<◌, ◌==◌, Bool, true, false, not, ◌&&◌, ◌||◌, List, ◌∷◌, ◌++◌, length, drop, get_or, nat_eq, nat_le, nat_lt}
use Rattle.std.proofs.Common.{refl, sym, ap, ◌∙◌, add-one, drop-cons, append_assoc, arith, if◌then◌else◌, Some}
use Rattle.std.specs.List.{find, flat_map, list_all, list_any}
use Rattle.std.proofs.lemmas.Bool.Decides.{nat_tests}
use Rattle.std.proofs.lemmas.Grind.{common_steps}
use Rattle.cg_net.specs.NetSets.{is_in}
use Rattle.cg_net.specs.Names.{NetName}
use Rattle.cg_verilog_text.specs.CoverForms.{is_empty}
use Rattle.cg_verilog_text.specs.Forms.{Literal}
use Rattle.cg_verilog_out.specs.Writing.{input_line, output_line}

pub empty-drop : (ts : List (List (Literal NetName))) (k : ℕ) (d : List (Literal NetName)) → k < length ts → list_any is_empty (drop k ts) ≡ (is_empty (get_or ts k d) || list_any is_empty (drop (k + 1) ts))
empty-drop ts k d below = rw (add-one, drop-cons ts k d) refl

pub empty_length : (t : List (Literal NetName)) → is_empty t ≡ (length t == 0)
empty_length [] = refl
empty_length (l ∷ ls) = other (length ls)
  where
    other : (n : ℕ) → false ≡ (suc n == 0)
    other n = grind (arith, nat_tests, common_steps)

pub in-drop : (nets : List ℕ) (net k d : ℕ) → k < length nets → is_in (drop k nets) net ≡ (nat_eq net (get_or nets k d) || is_in (drop (k + 1) nets) net)
in-drop nets net k d below = rw (add-one, drop-cons nets k d) refl

pub ascii-drop : (bytes : List ℕ) (k d : ℕ) → k < length bytes → list_all (λ byte. nat_le byte 126) (drop k bytes) ≡ (not (nat_lt 126 (get_or bytes k d)) && list_all (λ byte. nat_le byte 126) (drop (k + 1) bytes))
ascii-drop bytes k d below = rw (add-one, drop-cons bytes k d) (ap (λ b. b && list_all (λ byte. nat_le byte 126) (drop (suc k) bytes)) (above (get_or bytes k d)))
  where
    above : (b : ℕ) → nat_le b 126 ≡ not (nat_lt 126 b)
    above b = grind (arith, nat_tests, common_steps)

pub inputs-drop : (names : List NetName) (nets : List ℕ) (k d : ℕ) → k < length nets → flat_map (input_line names) (drop k nets) ≡ input_line names (get_or nets k d) ++ flat_map (input_line names) (drop (k + 1) nets)
inputs-drop names nets k d below = rw (add-one, drop-cons nets k d) refl

pub outputs-drop : (names : List NetName) (nets : List ℕ) (k d : ℕ) → k < length nets → flat_map (output_line names) (drop k nets) ≡ output_line names (get_or nets k d) ++ flat_map (output_line names) (drop (k + 1) nets)
outputs-drop names nets k d below = rw (add-one, drop-cons nets k d) refl

pub ports-drop : (inputs nets : List ℕ) (k d : ℕ) → k < length nets → find (is_in inputs) (drop k nets) ≡ (if is_in inputs (get_or nets k d) then Some (get_or nets k d) else find (is_in inputs) (drop (k + 1) nets))
ports-drop inputs nets k d below = rw (add-one, drop-cons nets k d) refl

pub ruleset ports = (ports-drop)

pub ruleset empties = (empty-drop, empty_length)

pub ruleset members = (in-drop)

pub ruleset bytes = (ascii-drop)

pub ruleset lines = (inputs-drop, outputs-drop, append_assoc)

-- The first net that fails, by numbers of mention: what a loop over tables finds.
use Rattle.std.specs.Prelude.{◌≡◌, ◌≢◌, ℕ, zero, suc, ◌<◌, List, [], ◌∷◌, length, slice_get, unwrap_or, Some}
use Rattle.std.proofs.Common.{ap, ◌∙◌, sym, subst, arith, take}
use Rattle.std.specs.List.{AllByRecursion, AllPairs, before_first}
use Rattle.std.specs.Str.{bytes_eq}
use Rattle.std.proofs.lemmas.Option.{slice_get-get_or}
use Rattle.cg_netlist.proofs.OrderedForm.{names}
use Rattle.cg_netlist_parts.proofs.KnownNames.{word_at}
use Rattle.cg_netlist_parts.proofs.ToldByNames.{place_back}
use Rattle.cg_netlist_parts.specs.Faults.{IsFirstNot}
use Rattle.cg_netlist_parts.specs.Part.{Part, nets}
use Rattle.cg_net.specs.Names.{NetName, net_name}

pub name_at : (names : List NetName) (x : ℕ) → x < length names → slice_get names x ≡ Some (net_name names x)
name_at names x lt = slice_get-get_or names x [] lt ∙ ap (λ o. Some (unwrap_or o [])) (sym (slice_get-get_or names x [] lt))

taken : (P : NetName → Type 0) (names : List NetName) (x : ℕ) → ((y : ℕ) → y < x → y < length names → P (net_name names y)) → AllByRecursion P (take x names)
taken P names zero before = tt
taken P [] (suc x) before = tt
taken P (n ∷ names) (suc x) before = (before 0 (omega arith) (omega arith), taken P names x (λ y lt within. before (suc y) (omega (arith, lt)) (omega (arith, within))))

-- where each net with a lower number meets a condition, and this one does not, it is the first
pub first_at : (parts : List Part) (P : NetName → Type 0) → AllPairs (λ name other. name ≢ other) (nets parts) → (x : ℕ) → x < length (nets parts)
    → ((y : ℕ) → y < x → y < length (nets parts) → P (net_name (nets parts) y)) → (P (net_name (nets parts) x) → ⊥) → IsFirstNot parts P (net_name (nets parts) x)
first_at parts P different x lt before fails = record {
  mentioned = word_at (nets parts) x (net_name (nets parts) x) (name_at (nets parts) x lt);
  before = first_part;
  fails = fails;
}
  where
    first_part : AllByRecursion P (before_first (bytes_eq (net_name (nets parts) x)) (nets parts))
    first_part = subst (λ n. AllByRecursion P (take n (nets parts))) (sym (place_back (nets parts) different x lt)) (taken P (nets parts) x before)

-- where each number meets it, each net does
pub each_at : (P : NetName → Type 0) (names : List NetName) → ((y : ℕ) → y < length names → P (net_name names y)) → AllByRecursion P names
each_at P [] holds = tt
each_at P (n ∷ names) holds = (holds 0 (omega arith), each_at P names (λ y lt. holds (suc y) (omega (arith, lt))))

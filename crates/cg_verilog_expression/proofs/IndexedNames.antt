-- A name with an index in brackets is a name.
use Rattle.std.proofs.Common.{◌≡◌, ℕ, zero, suc, ◌+◌, ◌-◌, ◌==◌, Bool, true, false, not, ◌&&◌, ◌||◌, List, [], ◌∷◌, ◌++◌, length, refl, ap, ◌∙◌, sym, subst, arith, length-append, append_assoc, nat_le, nat_lt, nat_eq, Some, IsTrue}
use Rattle.std.specs.Prelude.{slice_get, slice_index}
use Rattle.std.specs.List.{list_all}
use Rattle.std.specs.Char.{is_ascii_digit}
use Rattle.std.specs.Str.{all_ascii_digits}
use Rattle.std.proofs.lemmas.Bool.{and_from, and_parts}
use Rattle.std.proofs.lemmas.Bool.Decides.{nat_tests}
use Rattle.cg_cell.specs.Name.{ends_name, is_name, is_name_byte}
use Rattle.cg_text.specs.Numbers.{is_number}

digit_fine : (byte : ℕ) → is_ascii_digit byte ≡ true → is_name_byte byte ≡ true
digit_fine byte is = grind (arith, nat_tests)

digits_fine : (digits : List ℕ) → all_ascii_digits digits ≡ true → list_all is_name_byte digits ≡ true
digits_fine [] all = refl
digits_fine (byte ∷ digits) all = and_from (is_name_byte byte) (list_all is_name_byte digits) (digit_fine byte (and_parts (is_ascii_digit byte) (all_ascii_digits digits) all).0) (digits_fine digits (and_parts (is_ascii_digit byte) (all_ascii_digits digits) all).1)

all_append : (test : ℕ → Bool) (xs ys : List ℕ) → list_all test xs ≡ true → list_all test ys ≡ true → list_all test (xs ++ ys) ≡ true
all_append test [] ys one other = other
all_append test (x ∷ xs) ys one other = and_from (test x) (list_all test (xs ++ ys)) (and_parts (test x) (list_all test xs) one).0 (all_append test xs ys (and_parts (test x) (list_all test xs) one).1 other)

last_at : (xs : List ℕ) (y : ℕ) → slice_get (xs ++ y ∷ []) (length xs) ≡ Some y
last_at [] y = refl
last_at (x ∷ xs) y = last_at xs y

ends_at : (front : List ℕ) → ends_name (slice_get (front ++ 93 ∷ []) (length (front ++ 93 ∷ []) - 1)) ≡ true
ends_at front =
    let long : length (front ++ 93 ∷ []) - 1 ≡ length front = omega (arith, length-append front (93 ∷ [])) in
    subst (λ n. ends_name (slice_get (front ++ 93 ∷ []) n) ≡ true) (sym long) (rw (last_at front 93) refl)

pub indexed_name : (name index : List ℕ) → IsTrue (is_name name) → IsTrue (is_number index) → IsTrue (is_name (name ++ 91 ∷ (index ++ 93 ∷ [])))
indexed_name name index named number = named_true
  where
    bytes : list_all is_name_byte (name ++ 91 ∷ (index ++ 93 ∷ [])) ≡ true
    bytes =
        all_append is_name_byte name (91 ∷ (index ++ 93 ∷ [])) (and_parts (ends_name (slice_get name (length name - 1))) (list_all is_name_byte name) named).1
        (all_append is_name_byte index (93 ∷ []) (digits_fine index (and_parts (not (length index == 0) && (not (slice_index index 0 == 48) || length index == 1)) (all_ascii_digits index) number).1) refl)

    ends : ends_name (slice_get (name ++ 91 ∷ (index ++ 93 ∷ [])) (length (name ++ 91 ∷ (index ++ 93 ∷ [])) - 1)) ≡ true
    ends = subst (λ l. ends_name (slice_get l (length l - 1)) ≡ true) (append_assoc name (91 ∷ index) (93 ∷ [])) (ends_at (name ++ (91 ∷ index)))

    named_true : is_name (name ++ 91 ∷ (index ++ 93 ∷ [])) ≡ true
    named_true = and_from (ends_name (slice_get (name ++ 91 ∷ (index ++ 93 ∷ [])) (length (name ++ 91 ∷ (index ++ 93 ∷ [])) - 1))) (list_all is_name_byte (name ++ 91 ∷ (index ++ 93 ∷ []))) ends bytes

-- as it is put together
pub joined : (name index a b d e : List ℕ) → a ≡ name → b ≡ a ++ 91 ∷ [] → d ≡ b ++ index → e ≡ d ++ 93 ∷ [] → e ≡ name ++ 91 ∷ (index ++ 93 ∷ [])
joined name index a b d e first opens digits closes =
    closes
    ∙ (ap (λ l. l ++ 93 ∷ []) (digits ∙ ap (λ l. l ++ index) (opens ∙ ap (λ l. l ++ 91 ∷ []) first))
    ∙ (ap (λ l. l ++ 93 ∷ []) (append_assoc name (91 ∷ []) index) ∙ append_assoc name (91 ∷ index) (93 ∷ [])))

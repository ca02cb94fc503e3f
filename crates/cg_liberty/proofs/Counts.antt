-- Counting the elements of a list that pass a test, one by one.
use Rattle.std.proofs.Common.{◌≡◌, ◌+◌, ℕ, Bool, cond, List, [], ◌∷◌, refl, sym, ◌∙◌, count_by}
use Rattle.std.proofs.lemmas.List.Recursion.{is_count_by}

abbrev pub counted : {X : Type 0} → (X → Bool) → List X → ℕ
counted p [] = 0
counted p (x ∷ xs) = cond (p x) (1 + counted p xs) (counted p xs)

counted_is : {X : Type 0} (p : X → Bool) (xs : List X) → counted p xs ≡ count_by p xs
counted_is p xs = is_count_by (counted p) p refl (λ x xs. refl) xs

pub count_by-cons : {X : Type 0} (p : X → Bool) (x : X) (xs : List X) → count_by p (x ∷ xs) ≡ cond (p x) (1 + count_by p xs) (count_by p xs)
count_by-cons p x xs = sym (counted_is p (x ∷ xs)) ∙ rw (counted_is p xs) refl

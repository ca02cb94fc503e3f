-- A list whose elements are changed in place, one after another.
use Rattle.std.proofs.Common.{◌≡◌, ℕ, zero, suc, add-one, ◌+◌, List, [], ◌∷◌, ◌++◌, Some, map, take, drop, set, refl, sym, ap, ◌∙◌, subst}
use Rattle.std.specs.List.{slice_get, All}
use Rattle.std.proofs.lemmas.List.Elements.{All-get_or}
use Rattle.std.proofs.lemmas.Option.{same_Some, slice_get_within, get_or_from_slice_get}

module _ {X : Type 0} (f : X → X) where
  -- the list with its first i elements changed
  abbrev pub changed_before : List X → ℕ → List X
  changed_before xs i = map f (take i xs) ++ drop i xs

  still_there : (xs : List X) (i : ℕ) → slice_get (changed_before xs i) i ≡ slice_get xs i
  still_there [] zero = refl
  still_there [] (suc i) = refl
  still_there (x ∷ xs) zero = refl
  still_there (x ∷ xs) (suc i) = still_there xs i

  change_here : (xs : List X) (i : ℕ) (x : X) → slice_get xs i ≡ Some x → set (changed_before xs i) i (f x) ≡ changed_before xs (suc i)
  change_here [] i x at = absurd (cc)
  change_here (y ∷ xs) zero x at = ap (λ z. f z ∷ xs) (sym (same_Some y x at))
  change_here (y ∷ xs) (suc i) x at = ap (λ zs. f y ∷ zs) (change_here xs i x at)

  there : (xs ys : List X) (i : ℕ) (x : X) → ys ≡ changed_before xs i → slice_get ys i ≡ Some x → slice_get xs i ≡ Some x
  there xs ys i x is at = sym (still_there xs i) ∙ (ap (λ zs. slice_get zs i) (sym is) ∙ at)

  pub change_next : (xs ys : List X) (i : ℕ) (x : X) → ys ≡ changed_before xs i → slice_get ys i ≡ Some x → set ys i (f x) ≡ changed_before xs (i + 1)
  change_next xs ys i x is at = ap (λ zs. set zs i (f x)) is ∙ rw add-one (change_here xs i x (there xs ys i x is at))

  -- what holds of each element at first holds of the one that comes next
  pub holds_next : (P : X → Type 0) (xs ys : List X) (i : ℕ) (x : X) → All P xs → ys ≡ changed_before xs i → slice_get ys i ≡ Some x → P x
  holds_next P xs ys i x all is at =
      let here = there xs ys i x is at in
      subst P (get_or_from_slice_get xs i x x here) (All-get_or P xs i x (slice_get_within xs i x here) all)

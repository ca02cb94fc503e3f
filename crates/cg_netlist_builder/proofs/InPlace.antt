-- A list whose elements are changed in place, one after another.
use Rattle.std.proofs.Common.{[], ℕ, zero, suc, add-one, ◌+◌, ◌≡◌, List, ◌∷◌, ◌++◌, Some, map, take, drop, set, refl, sym, ap, ◌∙◌}
use Rattle.std.proofs.Common.{subst}
use Rattle.std.specs.List.{slice_get, All}
use Rattle.std.proofs.lemmas.List.Elements.{All-get_or, All-nil, All-cons, All-head, All-tail}
use Rattle.std.proofs.lemmas.Option.{same_Some, slice_get_within, get_or_from_slice_get}

-- the list with its first i elements changed
abbrev pub changed_before : {X : Type 0} → (X → X) → List X → ℕ → List X
changed_before f xs i = map f (take i xs) ++ drop i xs

pub still_there : {X : Type 0} (f : X → X) (xs : List X) (i : ℕ) → slice_get (changed_before f xs i) i ≡ slice_get xs i
still_there f [] zero = refl
still_there f [] (suc i) = refl
still_there f (x ∷ xs) zero = refl
still_there f (x ∷ xs) (suc i) = still_there f xs i

change_suc : {X : Type 0} (f : X → X) (xs : List X) (i : ℕ) (x : X) → slice_get xs i ≡ Some x → set (changed_before f xs i) i (f x) ≡ changed_before f xs (suc i)
change_suc f [] i x at = absurd (cc)
change_suc f (y ∷ xs) zero x at = ap (λ z. f z ∷ xs) (sym (same_Some y x at))
change_suc f (y ∷ xs) (suc i) x at = ap (λ zs. f y ∷ zs) (change_suc f xs i x at)

pub change_next : {X : Type 0} (f : X → X) (xs ys : List X) (i : ℕ) (x : X) → ys ≡ changed_before f xs i → slice_get ys i ≡ Some x → set ys i (f x) ≡ changed_before f xs (i + 1)
change_next f xs ys i x is at =
    let here : slice_get xs i ≡ Some x = sym (still_there f xs i) ∙ (ap (λ zs. slice_get zs i) (sym is) ∙ at) in
    ap (λ zs. set zs i (f x)) is ∙ rw add-one (change_suc f xs i x here)

-- what holds of each element at first holds of the one that comes next
pub All-next : {X : Type 0} (P : X → Type 0) (f : X → X) (xs ys : List X) (i : ℕ) (x : X) → All P xs → ys ≡ changed_before f xs i → slice_get ys i ≡ Some x → P x
All-next P f xs ys i x all is at =
    let here : slice_get xs i ≡ Some x = sym (still_there f xs i) ∙ (ap (λ zs. slice_get zs i) (sym is) ∙ at) in
    subst P (get_or_from_slice_get xs i x x here) (All-get_or P xs i x (slice_get_within xs i x here) all)

pub All-unmapped : {X Y : Type 0} (P : Y → Type 0) (f : X → Y) (xs : List X) → All P (map f xs) → All (λ x. P (f x)) xs
All-unmapped P f [] all = All-nil (λ x. P (f x))
All-unmapped P f (x ∷ xs) all = All-cons (λ y. P (f y)) x xs (All-head P (f x) (map f xs) all) (All-unmapped P f xs (All-tail P (f x) (map f xs) all))

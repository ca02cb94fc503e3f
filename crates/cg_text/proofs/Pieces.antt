-- Where the first separator stands tells the first piece.
use Rattle.std.proofs.Common.{◌≡◌, ℕ, ◌+◌, ◌-◌, ◌<◌, Bool, true, false, List, [], ◌∷◌, length, get_or, take, drop, refl, suc, zero}
use Rattle.std.proofs.Common.{arith}
use Rattle.std.proofs.lemmas.Grind.{common_steps}
use Rattle.cg_text.specs.Words.{pieces}

pub pieces_at : (ends : ℕ → Bool) (xs : List ℕ) (n : ℕ) → ((k : ℕ) → k < n → ends (get_or xs k 0) ≡ false) → n < length xs
    → ends (get_or xs n 0) ≡ true → pieces ends xs ≡ take n xs ∷ pieces ends (drop (suc n) xs)
pieces_at ends [] n before inside end = absurd (omega arith)
pieces_at ends (x ∷ xs) zero before inside end = rw end refl
pieces_at ends (x ∷ xs) (suc n) before inside end =
    rw (before 0 (omega arith), pieces_at ends xs n (λ k h. before (suc k) (omega arith)) (omega arith) end) refl

pub pieces_whole : (ends : ℕ → Bool) (xs : List ℕ) → ((k : ℕ) → k < length xs → ends (get_or xs k 0) ≡ false) → 0 < length xs → pieces ends xs ≡ xs ∷ []
pieces_whole ends [] before full = absurd (omega arith)
pieces_whole ends (x ∷ []) before full = rw (before 0 (omega arith)) refl
pieces_whole ends (x ∷ y ∷ ys) before full =
    rw (before 0 (omega arith), pieces_whole ends (y ∷ ys) (λ k h. before (suc k) (omega arith)) (omega arith)) refl

-- the same for the parts as slices give them
pub cut_at : (ends : ℕ → Bool) (xs : List ℕ) (n : ℕ) → ((k : ℕ) → k < n → ends (get_or xs k 0) ≡ false) → n < length xs
    → ends (get_or xs n 0) ≡ true → pieces ends xs ≡ take n xs ∷ pieces ends (take (length xs - (n + 1)) (drop (n + 1) xs))
cut_at ends xs n before inside end =
    let whole : take (length xs - (n + 1)) (drop (n + 1) xs) ≡ drop (suc n) xs = grind (arith, common_steps) in
    rw whole (pieces_at ends xs n before inside end)

pub cut_all : (ends : ℕ → Bool) (xs : List ℕ) (n : ℕ) → ((k : ℕ) → k < n → ends (get_or xs k 0) ≡ false) → n ≡ length xs
    → 0 < length xs → pieces ends xs ≡ xs ∷ pieces ends (take (length xs - n) (drop n xs))
cut_all ends xs n before all full =
    let none : take (length xs - n) (drop n xs) ≡ [] = grind (arith, common_steps) in
    rw none (pieces_whole ends xs (λ k h. before k (omega arith)) full)

-- Lines that are written piece by piece.
use Rattle.std.proofs.Common.{◌≡◌, ℕ, zero, suc, ◌+◌, ◌-◌, ◌<◌, List, [], ◌∷◌, ◌++◌, length, map, slice_get, Some, refl, sym, ap, ◌∙◌, arith, append_assoc, append-nil, add-one}
use Rattle.std.specs.Fmt.{decimal}
use Rattle.std.specs.Prelude.{codes}
use Rattle.std.specs.List.{range_with_len}
use Rattle.cg_plan_text.specs.Words.{Word}
use Rattle.cg_plan_text.specs.inner.Spaced.{spaced}
use Rattle.cg_plan_text.proofs.TextLemmas.{line_text-spaced, spaced-append, spaced_map-drop}
use Rattle.cg_text.specs.Written.{line_text, text_of}
use Rattle.cg_register_text.specs.Words.{numbers_words}

-- numbers, where there are some, stand behind their word
pub numbers_some : (word : Word) (numbers : List ℕ) → 0 < length numbers → spaced (numbers_words word numbers) ≡ (32 ∷ word) ++ spaced (map decimal numbers)
numbers_some word [] some = absurd (omega (arith, some))
numbers_some word (number ∷ numbers) some = refl

pub numbers_none : (word : Word) (numbers : List ℕ) → length numbers ≡ 0 → spaced (numbers_words word numbers) ≡ []
numbers_none word [] none = refl
numbers_none word (number ∷ numbers) none = absurd (omega (arith, none))

-- what was tried, its number, and what came of it
pub tried_pieces : (text word : List ℕ) (number : ℕ) (words : List Word) → (((text ++ 32 ∷ codes "tried") ++ 32 ∷ word) ++ 32 ∷ decimal number) ++ spaced words ≡ text ++ spaced (codes "tried" ∷ word ∷ decimal number ∷ words)
tried_pieces text word number words =
    let a : List ℕ = 32 ∷ codes "tried" in
    let b : List ℕ = 32 ∷ word in
    let d : List ℕ = 32 ∷ decimal number in
    append_assoc ((text ++ a) ++ b) d (spaced words) ∙ (append_assoc (text ++ a) b (d ++ spaced words) ∙ append_assoc text a (b ++ (d ++ spaced words)))

-- the lines that are left at a number
range_on : (s n : ℕ) → s < n → range_with_len s (n - s) ≡ s ∷ range_with_len (s + 1) (n - (s + 1))
range_on s n below = go (n - s) (n - (s + 1)) (omega (arith, below))
  where
    go : (a b : ℕ) → a ≡ suc b → range_with_len s a ≡ s ∷ range_with_len (s + 1) b
    go a b is = ap (range_with_len s) is ∙ ap (λ k. s ∷ range_with_len k b) (omega arith)

pub lines_on : (line : ℕ → List Word) (s n : ℕ) → s < n → text_of (map line (range_with_len s (n - s))) ≡ line_text (line s) ++ text_of (map line (range_with_len (s + 1) (n - (s + 1))))
lines_on line s n below = ap (λ l. text_of (map line l)) (range_on s n below)

-- and those of one number more
range_end : {A : Type 0} (f : ℕ → A) (s n : ℕ) → map f (range_with_len s (suc n)) ≡ map f (range_with_len s n) ++ f (s + n) ∷ []
range_end f s zero = ap (λ k. f k ∷ []) (omega arith)
range_end {A} f s (suc n) =
    let rest : map f (range_with_len (s + 1) (suc n)) ≡ map f (range_with_len (s + 1) n) ++ f (s + 1 + n) ∷ [] = range_end f (s + 1) n in
    let here : s + 1 + n ≡ s + suc n = omega arith in
    ap (λ (l : List A). f s ∷ l) (rest ∙ ap (λ (k : ℕ). map f (range_with_len (s + 1) n) ++ f k ∷ []) here)

pub range_more : {A : Type 0} (f : ℕ → A) (n : ℕ) → map f (range_with_len 0 (n + 1)) ≡ map f (range_with_len 0 n) ++ f n ∷ []
range_more f n = ap (λ k. map f (range_with_len 0 k)) (let e : n + 1 ≡ suc n = omega arith in e) ∙ (range_end f 0 n ∙ ap (λ k. map f (range_with_len 0 n) ++ f k ∷ []) (let e : 0 + n ≡ n = omega arith in e))

-- what stands at a number
range_get : {A : Type 0} (f : ℕ → A) (s n k : ℕ) → k < n → slice_get (map f (range_with_len s n)) k ≡ Some (f (s + k))
range_get f s zero k below = absurd (omega (arith, below))
range_get f s (suc n) zero below = ap (λ j. Some (f j)) (let e : s ≡ s + 0 = omega arith in e)
range_get f s (suc n) (suc k) below = range_get f (s + 1) n k (omega (arith, below)) ∙ ap (λ j. Some (f j)) (let e : s + 1 + k ≡ s + suc k = omega arith in e)

pub range_at : {A : Type 0} (f : ℕ → A) (n k : ℕ) → k < n → slice_get (map f (range_with_len 0 n)) k ≡ Some (f k)
range_at f n k below = range_get f 0 n k below ∙ ap (λ j. Some (f j)) (let e : 0 + k ≡ k = omega arith in e)

pub ruleset pieces = (spaced-append, append_assoc, append-nil)

pub ruleset lines = (line_text-spaced, spaced-append, append_assoc, append-nil)

pub ruleset turns = (spaced_map-drop, lines_on, append_assoc)

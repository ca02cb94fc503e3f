-- Texts to which words and lines are added one by one.
use Rattle.std.proofs.Common.{◌≡◌, ℕ, ◌+◌, zero, suc, ◌<◌, ◌≤◌, List, [], ◌∷◌, ◌++◌, Some, length, map, take, codes, sym, ap, ◌∙◌}
use Rattle.std.proofs.Common.{append_assoc, arith}
use Rattle.std.proofs.lemmas.List.{take_all, append-nil}
use Rattle.std.specs.List.{flat_map, slice_get}
use Rattle.cg_text.specs.Written.{joined, line_text, text_of}
use Rattle.cg_text.proofs.Written.{joined-last, joined-append, text_of-map}

-- words, each with a space behind it, and then the zero
pub words_pushed : {X : Type 0} (f : X → List ℕ) (old now new : List ℕ) (xs : List X) (i : ℕ) → length xs ≤ i
    → now ≡ old ++ flat_map (λ x. f x ++ 32 ∷ []) (take i xs) → new ≡ now ++ 48 ∷ [] → new ≡ old ++ joined (map f xs ++ codes "0" ∷ [])
words_pushed f old now new xs i done so_far last =
    last
    ∙ ap (λ text. text ++ 48 ∷ []) (so_far ∙ ap (λ front. old ++ flat_map (λ x. f x ++ 32 ∷ []) front) (take_all i xs done))
    ∙ append_assoc old (flat_map (λ x. f x ++ 32 ∷ []) xs) (48 ∷ [])
    ∙ ap (λ text. old ++ text) (sym (joined-last f xs (codes "0")))

-- words, a space, and words
pub more_pushed : (old first second new : List ℕ) (ws vs : List (List ℕ)) → 0 < length ws → 0 < length vs
    → first ≡ old ++ joined ws → second ≡ first ++ 32 ∷ [] → new ≡ second ++ joined vs → new ≡ old ++ joined (ws ++ vs)
more_pushed old first second new ws vs some more a b c =
    c ∙ ap (λ text. text ++ joined vs) (b ∙ ap (λ text. text ++ 32 ∷ []) a)
    ∙ regrouped old (joined ws) (joined vs)
    ∙ ap (λ text. old ++ text) (sym (joined-append ws vs some more)) where
      regrouped : (a b c : List ℕ) → ((a ++ b) ++ 32 ∷ []) ++ c ≡ a ++ (b ++ 32 ∷ c)
      regrouped a b c = simp append_assoc

-- the end of a line
pub line_pushed : (old text new : List ℕ) (ws : List (List ℕ)) → text ≡ old ++ joined ws → new ≡ text ++ 10 ∷ [] → new ≡ old ++ line_text ws
line_pushed old text new ws a b = b ∙ ap (λ text. text ++ 10 ∷ []) a ∙ append_assoc old (joined ws) (10 ∷ [])

-- the zero at the end makes words
pub some_words : (ws : List (List ℕ)) (w : List ℕ) → 0 < length (ws ++ w ∷ [])
some_words [] w = omega arith
some_words (v ∷ vs) w = omega arith

-- all lines
pub lines_pushed : {X : Type 0} (f : X → List (List ℕ)) (front now : List ℕ) (xs : List X) (i : ℕ) → length xs ≤ i
    → now ≡ front ++ flat_map (λ x. line_text (f x)) (take i xs) → now ≡ front ++ text_of (map f xs)
lines_pushed f front now xs i done so_far =
    so_far ∙ ap (λ xs. front ++ flat_map (λ x. line_text (f x)) xs) (take_all i xs done)
    ∙ ap (λ text. front ++ text) (sym (text_of-map f xs))

-- one more line
pub line_more : {X : Type 0} (f : X → List (List ℕ)) (front so_far text new : List ℕ) (xs : List X) (i : ℕ) (x : X) → slice_get xs i ≡ Some x
    → so_far ≡ front ++ flat_map (λ x. line_text (f x)) (take i xs) → text ≡ so_far ++ joined (f x) → new ≡ text ++ 10 ∷ []
    → new ≡ front ++ flat_map (λ x. line_text (f x)) (take (i + 1) xs)
line_more f front so_far text new xs i x at before own end =
    line_pushed so_far text new (f x) own end
    ∙ ap (λ text. text ++ line_text (f x)) before
    ∙ append_assoc front (flat_map (λ x. line_text (f x)) (take i xs)) (line_text (f x))
    ∙ ap (λ text. front ++ text) (sym (taken f xs i x at) ∙ ap (λ k. flat_map (λ x. line_text (f x)) (take k xs)) (one_more i)) where
      one_more : (i : ℕ) → suc i ≡ i + 1
      one_more i = omega arith

      taken : {X : Type 0} (f : X → List (List ℕ)) (xs : List X) (i : ℕ) (x : X) → slice_get xs i ≡ Some x
          → flat_map (λ x. line_text (f x)) (take (suc i) xs) ≡ flat_map (λ x. line_text (f x)) (take i xs) ++ line_text (f x)
      taken f [] i x at = absurd (cc)
      taken f (y ∷ ys) zero x at = let same : y ≡ x = cc in rw same (append-nil (line_text (f x)))
      taken f (y ∷ ys) (suc i) x at =
          ap (λ text. line_text (f y) ++ text) (taken f ys i x at)
          ∙ sym (append_assoc (line_text (f y)) (flat_map (λ x. line_text (f x)) (take i ys)) (line_text (f x)))

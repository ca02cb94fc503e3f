-- The words of two pieces of a line with a space between them are those of the one and then those of the other.
use Rattle.std.proofs.Common.{◌≡◌, ◌⊎◌, ℕ, Bool, true, false, cond, List, [], ◌∷◌, ◌++◌, refl, sym, ap, ◌∙◌, inl, inr}
use Rattle.std.specs.List.{filter, onto_first, slice_split}
use Rattle.std.proofs.lemmas.List.{append-nil}
use Rattle.std.proofs.lemmas.List.Elements.{filter-append}
use Rattle.cg_text.specs.Blanks.{is_blank}
use Rattle.cg_text.specs.Words.{is_full, pieces, words}
use Rattle.cg_text.specs.declared.blanks.Blanks.TheVariants.{Controls}

module _ (p : ℕ → Bool) where
  -- cut at each separator, there is always a first part
  first_part : (xs : List ℕ) → (part : List ℕ) × (parts : List (List ℕ)) × (slice_split p xs ≡ part ∷ parts)
  first_part [] = ([], [], refl)
  first_part (x ∷ xs) = go (p x) (first_part xs)
    where
      go : (b : Bool) → ((part : List ℕ) × (parts : List (List ℕ)) × (slice_split p xs ≡ part ∷ parts))
          → (part : List ℕ) × (parts : List (List ℕ)) × (cond b ([] ∷ slice_split p xs) (onto_first x (slice_split p xs)) ≡ part ∷ parts)
      go true rest = ([], slice_split p xs, refl)
      go false rest = (x ∷ rest.0, rest.1, ap (onto_first x) rest.2)

  split_both : (xs : List ℕ) (b : ℕ) (ys : List ℕ) → p b ≡ true → slice_split p (xs ++ b ∷ ys) ≡ slice_split p xs ++ slice_split p ys
  split_both [] b ys ends = ap (λ c. cond c ([] ∷ slice_split p ys) (onto_first b (slice_split p ys))) ends
  split_both (x ∷ xs) b ys ends = go (p x) (split_both xs b ys ends) (first_part xs)
    where
      go : (c : Bool) → slice_split p (xs ++ b ∷ ys) ≡ slice_split p xs ++ slice_split p ys → ((part : List ℕ) × (parts : List (List ℕ)) × (slice_split p xs ≡ part ∷ parts))
          → cond c ([] ∷ slice_split p (xs ++ b ∷ ys)) (onto_first x (slice_split p (xs ++ b ∷ ys))) ≡ cond c ([] ∷ slice_split p xs) (onto_first x (slice_split p xs)) ++ slice_split p ys
      go true rest some = ap (λ l. [] ∷ l) rest
      go false rest some =
          ap (onto_first x) (rest ∙ ap (λ l. l ++ slice_split p ys) some.2) ∙ ap (λ l. onto_first x l ++ slice_split p ys) (sym some.2)

  -- pieces are these parts, without an empty one at the end
  AsPieces : List ℕ → Type 0
  AsPieces xs = (slice_split p xs ≡ pieces p xs) ⊎ (slice_split p xs ≡ pieces p xs ++ [] ∷ [])

  as_pieces : (xs : List ℕ) → AsPieces xs
  unfolding AsPieces
  as_pieces [] = inr refl
  as_pieces (x ∷ xs) = elim (as_pieces xs) [
    | inl same ↦ inl (ap (λ l. cond (p x) ([] ∷ l) (onto_first x l)) same)
    | inr more ↦ go (p x) (pieces p xs) more
  ]
    where
      go : (b : Bool) (ps : List (List ℕ)) → slice_split p xs ≡ ps ++ [] ∷ []
          → (cond b ([] ∷ slice_split p xs) (onto_first x (slice_split p xs)) ≡ cond b ([] ∷ ps) (onto_first x ps)) ⊎ (cond b ([] ∷ slice_split p xs) (onto_first x (slice_split p xs)) ≡ cond b ([] ∷ ps) (onto_first x ps) ++ [] ∷ [])
      go true ps is = inr (ap (λ l. [] ∷ l) is)
      go false [] is = inl (ap (onto_first x) is)
      go false (q ∷ qs) is = inr (ap (onto_first x) is)

  full_pieces : (xs : List ℕ) → filter is_full (slice_split p xs) ≡ filter is_full (pieces p xs)
  unfolding AsPieces
  full_pieces xs = elim (as_pieces xs) [
    | inl same ↦ ap (filter is_full) same
    | inr more ↦ ap (filter is_full) more ∙ (filter-append is_full (pieces p xs) ([] ∷ []) ∙ append-nil (filter is_full (pieces p xs)))
  ]

  pub full_both : (xs : List ℕ) (b : ℕ) (ys : List ℕ) → p b ≡ true → filter is_full (pieces p (xs ++ b ∷ ys)) ≡ filter is_full (pieces p xs) ++ filter is_full (pieces p ys)
  full_both xs b ys ends =
      sym (full_pieces (xs ++ b ∷ ys)) ∙ (ap (filter is_full) (split_both xs b ys ends) ∙ (filter-append is_full (slice_split p xs) (slice_split p ys)
      ∙ (ap (λ l. l ++ filter is_full (slice_split p ys)) (full_pieces xs) ∙ ap (λ l. filter is_full (pieces p xs) ++ l) (full_pieces ys))))

pub words_both : (xs ys : List ℕ) → words Controls (xs ++ 32 ∷ ys) ≡ words Controls xs ++ words Controls ys
words_both xs ys = full_both (is_blank Controls) xs 32 ys refl

-- What words say, behind what was said before.
use Rattle.std.proofs.Common.{◌≡◌, ℕ, ◌+◌, Bool, true, false, if◌then◌else◌, List, [], ◌∷◌, ◌++◌, drop, slice_get, Option, None, Some, refl, sym, ◌∙◌, ap}
use Rattle.std.proofs.Common.{append-nil, append_assoc}
use Rattle.std.specs.Option.{option_and_then, option_map}
use Rattle.cg_hint_text.specs.Reading.{Word, all_terms, is_plus, put_literal}
use Rattle.cg_hint_text.proofs.Forms.{drop_at}

abbrev pub behind_said : {A : Type 0} → List A → Option (List A) → Option (List A)
behind_said before said = option_map (λ later. before ++ later) said

-- terms behind others, the first of them going on with a term that was begun
abbrev pub after_term : {A : Type 0} → List A → List (List A) → List (List A)
after_term begun [] = begun ∷ []
after_term begun (term ∷ terms) = (begun ++ term) ∷ terms

abbrev pub behind_terms : {A : Type 0} → List (List A) → List A → Option (List (List A)) → Option (List (List A))
behind_terms before begun said = option_map (λ terms. before ++ after_term begun terms) said

module _ {A : Type 0} (say : Word → Option A) where
  -- the terms of words begin with a term
  pub begun_with_none : (ws : List Word) → behind_terms [] [] (all_terms say ws) ≡ all_terms say ws
  begun_with_none [] = refl
  begun_with_none (w ∷ ws) = go (is_plus w)
    where
      plus : (o : Option (List (List A))) → behind_terms [] [] (option_map (λ terms. [] ∷ terms) o) ≡ option_map (λ terms. [] ∷ terms) o
      plus None = refl
      plus (Some terms) = refl

      put : (l : A) (o : Option (List (List A))) → behind_terms [] [] (option_map (put_literal l) o) ≡ option_map (put_literal l) o
      put l None = refl
      put l (Some []) = refl
      put l (Some (term ∷ terms)) = refl

      word : (o : Option A) → behind_terms [] [] (option_and_then (λ l. option_map (put_literal l) (all_terms say ws)) o) ≡ option_and_then (λ l. option_map (put_literal l) (all_terms say ws)) o
      word None = refl
      word (Some l) = put l (all_terms say ws)

      go : (b : Bool) → behind_terms [] [] (if b then option_map (λ terms. [] ∷ terms) (all_terms say ws) else option_and_then (λ l. option_map (put_literal l) (all_terms say ws)) (say w))
          ≡ (if b then option_map (λ terms. [] ∷ terms) (all_terms say ws) else option_and_then (λ l. option_map (put_literal l) (all_terms say ws)) (say w))
      go true = plus (all_terms say ws)
      go false = word (say w)

  -- a `+` ends a term
  pub plus_on : (before : List (List A)) (begun : List A) (ws : List Word) (i : ℕ) (w : Word) → slice_get ws i ≡ Some w → is_plus w ≡ true
      → behind_terms before begun (all_terms say (drop i ws)) ≡ behind_terms (before ++ begun ∷ []) [] (all_terms say (drop (i + 1) ws))
  plus_on before begun ws i w at is =
      ap (λ l. behind_terms before begun (all_terms say l)) (drop_at ws i w at)
      ∙ (ap (λ b. behind_terms before begun (if b then option_map (λ terms. [] ∷ terms) (all_terms say (drop (i + 1) ws)) else option_and_then (λ l. option_map (put_literal l) (all_terms say (drop (i + 1) ws))) (say w))) is
      ∙ go (all_terms say (drop (i + 1) ws)) (begun_with_none (drop (i + 1) ws)))
    where
      go : (o : Option (List (List A))) → behind_terms [] [] o ≡ o → behind_terms before begun (option_map (λ terms. [] ∷ terms) o) ≡ behind_terms (before ++ begun ∷ []) [] o
      go None same = refl
      go (Some terms) same =
          let whole : after_term [] terms ≡ terms = cc in
          ap (λ l. Some (before ++ l ∷ terms)) (append-nil begun)
          ∙ (ap (λ l. Some l) (sym (append_assoc before (begun ∷ []) terms)) ∙ ap (λ l. Some ((before ++ begun ∷ []) ++ l)) (sym whole))

  -- a literal goes on with it
  pub literal_on : (before : List (List A)) (begun : List A) (ws : List Word) (i : ℕ) (w : Word) (l : A) → slice_get ws i ≡ Some w → is_plus w ≡ false → say w ≡ Some l
      → behind_terms before begun (all_terms say (drop i ws)) ≡ behind_terms before (begun ++ l ∷ []) (all_terms say (drop (i + 1) ws))
  literal_on before begun ws i w l at other says =
      ap (λ l. behind_terms before begun (all_terms say l)) (drop_at ws i w at)
      ∙ (ap (λ b. behind_terms before begun (if b then option_map (λ terms. [] ∷ terms) (all_terms say (drop (i + 1) ws)) else option_and_then (λ l. option_map (put_literal l) (all_terms say (drop (i + 1) ws))) (say w))) other
      ∙ (ap (λ o. behind_terms before begun (option_and_then (λ l. option_map (put_literal l) (all_terms say (drop (i + 1) ws))) o)) says
      ∙ go (all_terms say (drop (i + 1) ws))))
    where
      go : (o : Option (List (List A))) → behind_terms before begun (option_map (put_literal l) o) ≡ behind_terms before (begun ++ l ∷ []) o
      go None = refl
      go (Some []) = refl
      go (Some (term ∷ terms)) = ap (λ x. Some (before ++ x ∷ terms)) (sym (append_assoc begun (l ∷ []) term))

-- Terms as lists of pairs of numbers, operands before their operator: by them a proof tells terms apart.
use Rattle.std.specs.Prelude.{◌≡◌, ℕ, zero, suc, true, false, List, [], ◌∷◌, ◌++◌, refl}
use Rattle.std.specs.Coded.{Coded, code_by, coded_list, coded_ℕ, coded×}
use Rattle.std.proofs.Common.{ap, sym, ◌∙◌, append_assoc, append-nil}
use Rattle.cg_cell.specs.Term.{Term, Bit, Input, Inverse, Both, Either, Differ}

-- the words of a term
abbrev pub words : Term → List (ℕ × ℕ)
words (Bit false) = (0, 0) ∷ []
words (Bit true) = (0, 1) ∷ []
words (Input k) = (1, k) ∷ []
words (Inverse t) = words t ++ (2, 0) ∷ []
words (Both s t) = words s ++ (words t ++ (3, 0) ∷ [])
words (Either s t) = words s ++ (words t ++ (4, 0) ∷ [])
words (Differ s t) = words s ++ (words t ++ (5, 0) ∷ [])

-- a word takes its operands from a pile of terms, and puts its term there
abbrev pub pile_word : ℕ → ℕ → List Term → List Term
pile_word zero zero pile = Bit false ∷ pile
pile_word zero (suc k) pile = Bit true ∷ pile
pile_word (suc zero) k pile = Input k ∷ pile
pile_word (suc (suc zero)) k (t ∷ pile) = Inverse t ∷ pile
pile_word (suc (suc (suc zero))) k (t ∷ s ∷ pile) = Both s t ∷ pile
pile_word (suc (suc (suc (suc zero)))) k (t ∷ s ∷ pile) = Either s t ∷ pile
pile_word (suc (suc (suc (suc (suc zero))))) k (t ∷ s ∷ pile) = Differ s t ∷ pile
pile_word _ k pile = pile

abbrev pub pile_words : List (ℕ × ℕ) → List Term → List Term
pile_words [] pile = pile
pile_words (word ∷ later) pile = pile_words later (pile_word word.0 word.1 pile)

abbrev pub top_of : List Term → Term
top_of [] = Bit false
top_of (t ∷ pile) = t

regroup : (s t : Term) (word : ℕ × ℕ) (later : List (ℕ × ℕ)) →
    (words s ++ (words t ++ word ∷ [])) ++ later ≡ words s ++ (words t ++ word ∷ later)
regroup s t word later =
    append_assoc (words s) (words t ++ word ∷ []) later ∙ ap (λ ws. words s ++ ws) (append_assoc (words t) (word ∷ []) later)

-- the words of a term put that term on the pile
pub pile_words-words : (t : Term) (later : List (ℕ × ℕ)) (pile : List Term) →
    pile_words (words t ++ later) pile ≡ pile_words later (t ∷ pile)
pile_words-words (Bit false) later pile = refl
pile_words-words (Bit true) later pile = refl
pile_words-words (Input k) later pile = refl
pile_words-words (Inverse t) later pile =
    ap (λ ws. pile_words ws pile) (append_assoc (words t) ((2, 0) ∷ []) later) ∙ pile_words-words t ((2, 0) ∷ later) pile
pile_words-words (Both s t) later pile =
    ap (λ ws. pile_words ws pile) (regroup s t (3, 0) later) ∙ pile_words-words s (words t ++ (3, 0) ∷ later) pile
    ∙ pile_words-words t ((3, 0) ∷ later) (s ∷ pile)
pile_words-words (Either s t) later pile =
    ap (λ ws. pile_words ws pile) (regroup s t (4, 0) later) ∙ pile_words-words s (words t ++ (4, 0) ∷ later) pile
    ∙ pile_words-words t ((4, 0) ∷ later) (s ∷ pile)
pile_words-words (Differ s t) later pile =
    ap (λ ws. pile_words ws pile) (regroup s t (5, 0) later) ∙ pile_words-words s (words t ++ (5, 0) ∷ later) pile
    ∙ pile_words-words t ((5, 0) ∷ later) (s ∷ pile)

pub top_of-words : (t : Term) → top_of (pile_words (words t) []) ≡ t
top_of-words t = ap (λ ws. top_of (pile_words ws [])) (sym (append-nil (words t))) ∙ ap top_of (pile_words-words t [] [])

-- a term is stored as its words
abbrev pub term_code : Coded Term
term_code = code_by (List (ℕ × ℕ)) (coded_list (coded× coded_ℕ coded_ℕ)) words (λ ws. top_of (pile_words ws [])) top_of-words

-- What hints are worth depends on which literals are true alone, and on no order of them.
use Rattle.std.proofs.Common.{◌≡◌, ℕ, ◌||◌, List, [], ◌∷◌, ◌++◌, Option, None, Some, refl, sym, ap, ◌∙◌}
use Rattle.std.proofs.lemmas.List.Folds.{list_any-append}
use Rattle.cg_formula.specs.declared.formula.Lit.{Lit}
use Rattle.cg_formula.specs.Lits.{inverse, same_lit, is_in}
use Rattle.cg_lrat.specs.declared.verdict.Why.{Why}
use Rattle.cg_lrat.specs.declared.hint.NonFalse.{NonFalse}
use Rattle.cg_lrat.specs.declared.hint.NonFalse.TheVariants as left
use Rattle.cg_lrat.specs.Accepted.{Live, non_false_lits, non_false_of, unit_then, false_at, known_then, hints_fault}

-- the same literals are true
abbrev pub SameTrues : List Lit → List Lit → Type 0
SameTrues a b = (lit : Lit) → is_in lit a ≡ is_in lit b

same_non_false : (a b lits : List Lit) → SameTrues a b → non_false_lits a lits ≡ non_false_lits b lits
same_non_false a b [] same = refl
same_non_false a b (lit ∷ lits) same = rw (same (inverse lit), same_non_false a b lits same) refl

same_more : (a b : List Lit) (one : Lit) → SameTrues a b → SameTrues (a ++ one ∷ []) (b ++ one ∷ [])
same_more a b one same lit =
    list_any-append (same_lit lit) a (one ∷ []) ∙ ap (λ front. front || is_in lit (one ∷ [])) (same lit)
    ∙ sym (list_any-append (same_lit lit) b (one ∷ []))

same_unit : (a b : List Lit) (found : NonFalse) (hint : ℕ) (f g : Lit → Option Why) → SameTrues a b → ((lit : Lit) → f lit ≡ g lit)
    → unit_then found a hint f ≡ unit_then found b hint g
same_unit a b left.Nothing hint f g same later = refl
same_unit a b (left.One lit) hint f g same later = rw (same lit, later lit) refl
same_unit a b left.Many hint f g same later = refl

same_known : (found : Option (List Lit)) (hint : ℕ) (f g : List Lit → Option Why) → ((lits : List Lit) → f lits ≡ g lits)
    → known_then found hint f ≡ known_then found hint g
same_known None hint f g later = refl
same_known (Some lits) hint f g later = later lits

pub hints_by_truth : (live : Live) (a b : List Lit) (hints : List ℕ) → SameTrues a b → hints_fault live a hints ≡ hints_fault live b hints
hints_by_truth live a b [] same = refl
hints_by_truth live a b (hint ∷ []) same =
    same_known (live hint) hint (λ lits. false_at (non_false_of (non_false_lits a lits)) hint)
    (λ lits. false_at (non_false_of (non_false_lits b lits)) hint)
    (λ lits. ap (λ left. false_at (non_false_of left) hint) (same_non_false a b lits same))
hints_by_truth live a b (hint ∷ next ∷ later) same =
    same_known (live hint) hint
    (λ lits. unit_then (non_false_of (non_false_lits a lits)) a hint (λ lit. hints_fault live (a ++ lit ∷ []) (next ∷ later)))
    (λ lits. unit_then (non_false_of (non_false_lits b lits)) b hint (λ lit. hints_fault live (b ++ lit ∷ []) (next ∷ later)))
    (λ lits.
    ap (λ left. unit_then (non_false_of left) a hint (λ lit. hints_fault live (a ++ lit ∷ []) (next ∷ later)))
    (same_non_false a b lits same)
    ∙ same_unit a b (non_false_of (non_false_lits b lits)) hint
    (λ lit. hints_fault live (a ++ lit ∷ []) (next ∷ later)) (λ lit. hints_fault live (b ++ lit ∷ []) (next ∷ later)) same
    (λ lit. hints_by_truth live (a ++ lit ∷ []) (b ++ lit ∷ []) (next ∷ later) (same_more a b lit same)))

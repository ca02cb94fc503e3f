-- Hints that follow a trail meet no fault: each makes the next literal true, and the clause of the last is falsified.
use Rattle.std.proofs.Common.{◌≡◌, ℕ, Bool, true, false, List, [], ◌∷◌, ◌++◌, Some, None, ◌⊎◌, inl, inr, refl, sym, ap, ◌∙◌, subst}
use Rattle.std.specs.List.{list_all}
use Rattle.cg_formula.specs.declared.formula.Lit.{Lit}
use Rattle.cg_formula.specs.Lits.{inverse, same_lit, is_in}
use Rattle.cg_formula.specs.Assignments.{IsFalsified, IsUnit, IsUnassigned}
use Rattle.cg_formula.proofs.Connectives.{or_right}
use Rattle.cg_formula.proofs.Members.{same_lit_equal, same_lit_self, here}
use Rattle.cg_lrat.specs.declared.hint.NonFalse.TheVariants as left
use Rattle.cg_lrat.specs.Accepted.{Live, non_false_lits, non_false_of, hints_fault}
use Rattle.std.proofs.lemmas.Bool.{and_parts, or_cases}

-- what of a clause is not false

nothing_non_false : (trues clause : List Lit) → ((lit : Lit) → is_in lit clause ≡ true → is_in (inverse lit) trues ≡ true)
    → non_false_lits trues clause ≡ []
nothing_non_false trues [] all = refl
nothing_non_false trues (lit ∷ lits) all =
    rw (all lit (here lit lits)) (nothing_non_false trues lits (λ other e. all other (or_right (same_lit other lit) e)))

all_one : (trues clause : List Lit) (one : Lit) → ((lit : Lit) → is_in lit clause ≡ true → (lit ≡ one) ⊎ (is_in (inverse lit) trues ≡ true))
    → list_all (same_lit one) (non_false_lits trues clause) ≡ true
all_one trues [] one others = refl
all_one trues (lit ∷ lits) one others =
    pick (all_one trues lits one (λ other e. others other (or_right (same_lit other lit) e))) (others lit (here lit lits))
    (is_in (inverse lit) trues) refl where
      pick : list_all (same_lit one) (non_false_lits trues lits) ≡ true → (lit ≡ one) ⊎ (is_in (inverse lit) trues ≡ true)
          → (b : Bool) → is_in (inverse lit) trues ≡ b → list_all (same_lit one) (non_false_lits trues (lit ∷ lits)) ≡ true
      pick later same true f = rw f later
      pick later (inl same) false f =
          let self : same_lit one lit ≡ true = subst (λ l. same_lit one l ≡ true) (sym same) (same_lit_self one) in rw (f, self) later
      pick later (inr off) false f = absurd (cc)

one_stays : (trues clause : List Lit) (one : Lit) → is_in one clause ≡ true → is_in (inverse one) trues ≡ false
    → is_in one (non_false_lits trues clause) ≡ true
one_stays trues [] one among off = absurd (cc)
one_stays trues (lit ∷ lits) one among off =
    pick (one_stays trues lits one) (or_cases (same_lit one lit) (is_in one lits) among) (is_in (inverse lit) trues) refl where
      pick : (is_in one lits ≡ true → is_in (inverse one) trues ≡ false → is_in one (non_false_lits trues lits) ≡ true)
          → (same_lit one lit ≡ true) ⊎ (is_in one lits ≡ true)
          → (b : Bool) → is_in (inverse lit) trues ≡ b → is_in one (non_false_lits trues (lit ∷ lits)) ≡ true
      pick later (inl same) true f = let e : one ≡ lit = same_lit_equal one lit same in absurd (cc)
      pick later (inl same) false f = rw (f, same) refl
      pick later (inr rest) true f = rw f (later rest off)
      pick later (inr rest) false f = rw f (or_right (same_lit one lit) (later rest off))

non_false_of_one : (lits : List Lit) (one : Lit) → is_in one lits ≡ true → list_all (same_lit one) lits ≡ true
    → non_false_of lits ≡ left.One one
non_false_of_one [] one among all = absurd (cc)
non_false_of_one (lit ∷ lits) one among all =
    let parts = and_parts (same_lit one lit) (list_all (same_lit one) lits) all in
    let e : one ≡ lit = same_lit_equal one lit parts.0 in
    let rest : list_all (same_lit lit) lits ≡ true = subst (λ l. list_all (same_lit l) lits ≡ true) e parts.1 in
    rw rest (ap left.One (sym e))

pub unit_non_false : (trues clause : List Lit) (one : Lit) → IsUnit trues clause one → is_in (inverse one) trues ≡ false
    → non_false_of (non_false_lits trues clause) ≡ left.One one
unit_non_false trues clause one unit off =
    non_false_of_one (non_false_lits trues clause) one (one_stays trues clause one unit.among off) (all_one trues clause one unit.others)

-- hints

pub unit_hint : (live : Live) (trues : List Lit) (id next : ℕ) (later : List ℕ) (clause : List Lit) (one : Lit) → live id ≡ Some clause
    → IsUnit trues clause one → IsUnassigned trues one
    → hints_fault live trues (id ∷ next ∷ later) ≡ hints_fault live (trues ++ one ∷ []) (next ∷ later)
unit_hint live trues id next later clause one is unit free =
    rw (is, unit_non_false trues clause one unit free.not_false, free.not_true) refl

pub last_hint : (live : Live) (trues : List Lit) (id : ℕ) (clause : List Lit) → live id ≡ Some clause → IsFalsified trues clause
    → hints_fault live trues (id ∷ []) ≡ None
last_hint live trues id clause is falsified = rw (is, nothing_non_false trues clause falsified.all) refl

-- a hint whose clause is this one
pub record HasClause (live : Live) (hint : ℕ) (P : List Lit → Type 0) : Type 0 where
  pub clause : List Lit
  pub is : live hint ≡ Some clause
  pub so : P clause

-- one after the other, the hints make the literals of the trail true; then the clause of the last is falsified
abbrev pub Follow : Live → List Lit → List ℕ → List Lit → ℕ → Type 0
Follow live trues [] [] last = HasClause live last (IsFalsified trues)
Follow live trues [] (lit ∷ trail) last = ⊥
Follow live trues (hint ∷ hints) [] last = ⊥
Follow live trues (hint ∷ hints) (lit ∷ trail) last =
    IsUnassigned trues lit × HasClause live hint (λ clause. IsUnit trues clause lit) × Follow live (trues ++ lit ∷ []) hints trail last

pub follow_fine : (live : Live) (trues : List Lit) (hints : List ℕ) (trail : List Lit) (last : ℕ) → Follow live trues hints trail last
    → hints_fault live trues (hints ++ last ∷ []) ≡ None
follow_fine live trues [] [] last f = last_hint live trues last f.clause f.is f.so
follow_fine live trues [] (lit ∷ trail) last f = absurd f
follow_fine live trues (hint ∷ hints) [] last f = absurd f
follow_fine live trues (hint ∷ []) (lit ∷ trail) last f =
    unit_hint live trues hint last [] (f.1).clause lit (f.1).is (f.1).so f.0 ∙ follow_fine live (trues ++ lit ∷ []) [] trail last f.2
follow_fine live trues (hint ∷ next ∷ hints) (lit ∷ trail) last f =
    unit_hint live trues hint next (hints ++ last ∷ []) (f.1).clause lit (f.1).is (f.1).so f.0
    ∙ follow_fine live (trues ++ lit ∷ []) (next ∷ hints) trail last f.2

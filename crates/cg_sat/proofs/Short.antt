-- A trail has each variable once at most.
use Rattle.std.proofs.Common.{◌≡◌, ℕ, zero, suc, ◌<◌, ◌≤◌, Bool, true, false, List, [], ◌∷◌, ◌++◌, Some}
use Rattle.std.proofs.Common.{inl, inr, refl, sym, ap, ◌∙◌, subst, map, length, take, nat_eq, add-one, arith, rules}
use Rattle.std.specs.List.{slice_get, list_any, IsDistinct}
use Rattle.std.specs.Cmp.{nat_eq_equiv}
use Rattle.std.proofs.lemmas.Bool.{eqb-true, or_cases}
use Rattle.std.proofs.lemmas.Map.Keys.{IsDistinct-push}
use Rattle.std.proofs.lemmas.Map.Steps.{length-le_from_distinct_below}
use Rattle.std.proofs.Math.Seq.{take-length}
use Rattle.cg_formula.specs.declared.formula.Lit.{Lit}
use Rattle.cg_formula.specs.Lits.{same_lit, is_in}
use Rattle.cg_formula.proofs.Connectives.{or_right}
use Rattle.cg_formula.proofs.Members.{same_lit_equal}
use Rattle.cg_sat_state.specs.declared.trail.Entry.{Entry}
use Rattle.cg_sat_state.specs.Store.{Store}
use Rattle.cg_formula.specs.Assignments.{IsUnassigned}
use Rattle.cg_sat_state.specs.Trail.{lits_of, IsTrail}
use Rattle.cg_sat.specs.inner.Learn.{VariablesBelow}
use Rattle.cg_formula.proofs.Members.{here}
use Rattle.cg_sat.proofs.Marks.{take_lits, other_variable}
use Rattle.cg_sat.proofs.Walk.{entry_at}

abbrev variables : List Lit → List ℕ
variables lits = map (λ (lit : Lit). lit.variable) lits

-- a literal of each variable that is there
lit_of : (v : ℕ) (lits : List Lit) → list_any (nat_eq v) (variables lits) ≡ true → (lit : Lit) × (is_in lit lits ≡ true) × (lit.variable ≡ v)
lit_of v [] e = absurd (cc)
lit_of v (lit ∷ lits) e = elim (or_cases (nat_eq v lit.variable) (list_any (nat_eq v) (variables lits)) e) [
  | inl same ↦ (lit, here lit lits, sym (eqb-true v lit.variable same))
  | inr later ↦ let found = lit_of v lits later in (found.0, or_right (same_lit found.0 lit) found.1, found.2)
]

none_of_variable : (before : List Lit) (lit : Lit) → IsUnassigned before lit → list_any (nat_eq lit.variable) (variables before) ≡ false
none_of_variable before lit free = pick (list_any (nat_eq lit.variable) (variables before)) refl where
  pick : (b : Bool) → list_any (nat_eq lit.variable) (variables before) ≡ b → b ≡ false
  pick true e = let found = lit_of lit.variable before e in absurd (other_variable before lit found.0 free found.1 found.2)
  pick false e = refl

variables_push : (before : List Lit) (lit : Lit) → variables (before ++ lit ∷ []) ≡ variables before ++ lit.variable ∷ []
variables_push [] lit = refl
variables_push (l ∷ ls) lit = ap (λ vs. l.variable ∷ vs) (variables_push ls lit)

none_distinct : IsDistinct nat_eq []
unfolding IsDistinct
none_distinct = search rules

distinct_to : (trail : List Entry) → ((i : ℕ) (entry : Entry) → slice_get trail i ≡ Some entry → IsUnassigned (lits_of (take i trail)) entry.lit) → (n : ℕ) → n ≤ length trail → IsDistinct nat_eq (variables (lits_of (take n trail)))
distinct_to trail free zero within = none_distinct
distinct_to trail free (suc n) within =
    let found = entry_at trail n (omega arith) in
    let whole : lits_of (take (suc n) trail) ≡ lits_of (take n trail) ++ found.0.lit ∷ [] = rw add-one at (take_lits trail n found.0 found.1) in
    let all : variables (lits_of (take (suc n) trail)) ≡ variables (lits_of (take n trail)) ++ found.0.lit.variable ∷ [] = ap variables whole ∙ variables_push (lits_of (take n trail)) found.0.lit in
    subst (λ vs. IsDistinct nat_eq vs) (sym all) (IsDistinct-push nat_eq_equiv (variables (lits_of (take n trail))) found.0.lit.variable (distinct_to trail free n (omega arith)) (none_of_variable (lits_of (take n trail)) found.0.lit (free n found.0 found.1)))

-- a literal of the trail is one of its entries'
pub named_in : (count : ℕ) (trail : List Entry) → ((k : ℕ) (entry : Entry) → slice_get trail k ≡ Some entry → entry.lit.variable < count) → (lit : Lit) → is_in lit (lits_of trail) ≡ true → lit.variable < count
named_in count [] named lit e = absurd (cc)
named_in count (t ∷ ts) named lit e = elim (or_cases (same_lit lit t.lit) (is_in lit (lits_of ts)) e) [
  | inl same ↦ subst (λ (l : Lit). l.variable < count) (sym (same_lit_equal lit t.lit same)) (named 0 t refl)
  | inr later ↦ named_in count ts (λ k entry is. named (suc k) entry is) lit later
]

length_variables : (trail : List Entry) → length (variables (lits_of trail)) ≡ length trail
length_variables [] = refl
length_variables (t ∷ ts) = ap suc (length_variables ts)

pub trail_short : (count : ℕ) (clauses : Store) (trail : List Entry) → IsTrail clauses trail → VariablesBelow count clauses trail → length trail ≤ count
trail_short count clauses trail stands named =
    let distinct : IsDistinct nat_eq (variables (lits_of (take (length trail) trail))) = distinct_to trail stands.open_at (length trail) (omega arith) in
    let whole : IsDistinct nat_eq (variables (lits_of trail)) = rw (take-length trail) at distinct in
    let few : length (variables (lits_of trail)) ≤ count = length-le_from_distinct_below (variables (lits_of trail)) count whole
    (λ v e. let found = lit_of v (lits_of trail) e in subst (λ u. u < count) found.2 (named_in count trail named.in_trail found.0 found.1)) in
    omega (arith, few, length_variables trail)

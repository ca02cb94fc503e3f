-- Searches that go on.
use Rattle.std.proofs.Common.{◌≡◌, ℕ, ◌+◌, ◌-◌, ◌^◌, suc, ◌<◌, ◌≤◌, true, List, [], ◌∷◌, ◌++◌, Some}
use Rattle.std.proofs.Common.{inl, inr, refl, sym, ap, ◌∙◌, subst, length, take, drop, arith}
use Rattle.std.specs.List.{slice_get}
use Rattle.std.proofs.lemmas.Option.{slice_get_within}
use Rattle.cg_formula.specs.declared.formula.Lit.{Lit}
use Rattle.cg_formula.specs.declared.formula.Formula.{Formula}
use Rattle.cg_formula.specs.Lits.{inverse, same_lit, is_in}
use Rattle.cg_formula.specs.Bounds.{IsLit}
use Rattle.cg_formula.proofs.Members.{same_lit_equal}
use Rattle.cg_sat_state.specs.declared.trail.Entry.{Entry}
use Rattle.cg_formula.specs.Assignments.{IsUnassigned, IsUnit}
use Rattle.cg_sat_state.specs.Trail.{lits_of, IsImplied, HasReason, IsUnused}
use Rattle.cg_sat.specs.inner.Learn.{Asserts, VariablesBelow}
use Rattle.cg_sat_state.specs.Store.{Store, IsWithout}
use Rattle.cg_sat_state.proofs.Store.{get_last, get_kept, clause_pushed, found_before}
use Rattle.cg_sat.proofs.Walk.{entry_at}
use Rattle.std.proofs.Math.ListN.{length-take}
use Rattle.cg_sat.specs.inner.Worth.{worth}
use Rattle.cg_sat.specs.inner.Search.{IsSearch, Grows, HasPrefix}
use Rattle.cg_sat_state.proofs.TrailLaws.{trail_pushed, trail_cut, trail_kept, trail_without, pushed_at, cut_at, split_at}
use Rattle.cg_sat.proofs.Worth.{worth_pushed, worth_raised}
use Rattle.cg_sat.proofs.Short.{trail_short, named_in}
use Rattle.std.proofs.lemmas.Bool.{or_cases}

pub grows_same : (count : ℕ) (clauses : Store) (trail : List Entry) → IsSearch count clauses trail → Grows count clauses trail trail
grows_same count clauses trail s = record { search = s; worth = omega arith }

pub grows_then : (count : ℕ) (clauses : Store) (old mid new : List Entry) → Grows count clauses old mid → Grows count clauses mid new → Grows count clauses old new
grows_then count clauses old mid new g h = let a = g.worth in let b = h.worth in record { search = h.search; worth = omega arith }

named_pushed : (count : ℕ) (clauses : Store) (trail : List Entry) (entry : Entry) → VariablesBelow count clauses trail → entry.lit.variable < count → VariablesBelow count clauses (trail ++ entry ∷ [])
named_pushed count clauses trail entry named below = record {
  in_clauses = named.in_clauses;
  in_trail = λ k other e. elim (pushed_at trail entry k other e) [
    | inl early ↦ named.in_trail k other early
    | inr end ↦ subst (λ (f : Entry). f.lit.variable < count) end.1 below
  ];
}

pub search_pushed : (count : ℕ) (clauses : Store) (trail : List Entry) (entry : Entry) → IsSearch count clauses trail → IsUnassigned (lits_of trail) entry.lit → HasReason clauses (lits_of trail) entry.lit entry.reason
    → entry.lit.variable < count → 0 < entry.lit.variable → IsSearch count clauses (trail ++ entry ∷ [])
search_pushed count clauses trail entry s free reason below one = record {
  stands = trail_pushed clauses trail entry s.stands free reason;
  named = named_pushed count clauses trail entry s.named below;
  ones = record {
    in_clauses = s.ones.in_clauses;
    in_trail = λ k other e. elim (pushed_at trail entry k other e) [
      | inl early ↦ s.ones.in_trail k other early
      | inr end ↦ subst (λ (f : Entry). 0 < f.lit.variable) end.1 one
    ];
  };
}

pub worth_more : (count : ℕ) (clauses : Store) (trail : List Entry) (entry : Entry) → IsSearch count clauses trail → worth (count + 1) trail < worth (count + 1) (trail ++ entry ∷ [])
worth_more count clauses trail entry s =
    let few : length trail ≤ count = trail_short count clauses trail s.stands s.named in
    worth_pushed (count + 1) trail entry (omega arith)

pub grows_implied : (count : ℕ) (clauses : Store) (trail new : List Entry) (entry : Entry) (reason : ℕ) → IsSearch count clauses trail → IsUnassigned (lits_of trail) entry.lit → IsImplied clauses (lits_of trail) entry.lit reason
    → entry.reason ≡ Some reason → new ≡ trail ++ entry ∷ [] → Grows count clauses trail new
grows_implied count clauses trail new entry reason s free implied because e =
    let more = worth_more count clauses trail entry s in
    rw e (record {
      search = search_pushed count clauses trail entry s free (subst (λ r. HasReason clauses (lits_of trail) entry.lit r) (sym because) implied)
          (s.named.in_clauses reason implied.clause entry.lit implied.is implied.unit.among) (s.ones.in_clauses reason implied.clause entry.lit implied.is implied.unit.among);
      worth = omega arith;
    })

-- a learnt clause makes its literal true where the trail is cut

lits_named : (count : ℕ) (clauses : Store) (trail : List Entry) (cut : ℕ) (lits : List Lit) → IsSearch count clauses trail → Asserts clauses trail cut lits
    → (lit : Lit) → is_in lit lits ≡ true → lit.variable < count
lits_named count clauses trail cut lits s a lit e = elim (a.unit.others lit e) [
  | inl same ↦ subst (λ (l : Lit). l.variable < count) (sym same) (named_in count trail s.named.in_trail (inverse a.first) a.known)
  | inr early ↦ named_in count (take cut trail) (λ k entry is. let at = cut_at cut trail k entry is in s.named.in_trail k entry at.0) (inverse lit) early
]

ones_in : (trail : List Entry) → ((k : ℕ) (entry : Entry) → slice_get trail k ≡ Some entry → 0 < entry.lit.variable) → (lit : Lit) → is_in lit (lits_of trail) ≡ true → 0 < lit.variable
ones_in [] ones lit e = absurd (cc)
ones_in (t ∷ ts) ones lit e = elim (or_cases (same_lit lit t.lit) (is_in lit (lits_of ts)) e) [
  | inl same ↦ subst (λ (l : Lit). 0 < l.variable) (sym (same_lit_equal lit t.lit same)) (ones 0 t refl)
  | inr later ↦ ones_in ts (λ k entry is. ones (suc k) entry is) lit later
]

pub lits_ones : (count : ℕ) (clauses : Store) (trail : List Entry) (cut : ℕ) (lits : List Lit) → IsSearch count clauses trail → Asserts clauses trail cut lits
    → (lit : Lit) → is_in lit lits ≡ true → 0 < lit.variable
lits_ones count clauses trail cut lits s a lit e = elim (a.unit.others lit e) [
  | inl same ↦ subst (λ (l : Lit). 0 < l.variable) (sym same) (ones_in trail s.ones.in_trail (inverse a.first) a.known)
  | inr early ↦ ones_in (take cut trail) (λ k entry is. let at = cut_at cut trail k entry is in s.ones.in_trail k entry at.0) (inverse lit) early
]

-- each literal of what is learnt is one of a log
pub lits_fit : (count : ℕ) (clauses : Store) (trail : List Entry) (cut : ℕ) (lits : List Lit) → IsSearch count clauses trail → Asserts clauses trail cut lits → count ≤ 2 ^ 30
    → (lit : Lit) → is_in lit lits ≡ true → IsLit (2 ^ 31 - 1) lit
lits_fit count clauses trail cut lits s a few lit e =
    let one = lits_ones count clauses trail cut lits s a lit e in
    let below = lits_named count clauses trail cut lits s a lit e in
    record { from_one = omega arith; within = omega arith }

-- one more clause
pub search_more : (count : ℕ) (clauses : Store) (trail : List Entry) (lits : List Lit) → IsSearch count clauses trail → ((lit : Lit) → is_in lit lits ≡ true → lit.variable < count)
    → ((lit : Lit) → is_in lit lits ≡ true → 0 < lit.variable) → IsSearch count (clauses ++ Some lits ∷ []) trail
search_more count clauses trail lits s named ones = record {
  stands = trail_kept clauses lits trail s.stands;
  named = record {
    in_clauses = λ k clause lit is e. elim (clause_pushed clauses lits k clause is) [
      | inl early ↦ s.named.in_clauses k clause lit early e
      | inr same ↦ named lit (subst (λ ls. is_in lit ls ≡ true) (sym same) e)
    ];
    in_trail = s.named.in_trail;
  };
  ones = record {
    in_clauses = λ k clause lit is e. elim (clause_pushed clauses lits k clause is) [
      | inl early ↦ s.ones.in_clauses k clause lit early e
      | inr same ↦ ones lit (subst (λ ls. is_in lit ls ≡ true) (sym same) e)
    ];
    in_trail = s.ones.in_trail;
  };
}

-- the trail cut
search_cut : (count : ℕ) (clauses : Store) (trail : List Entry) (cut : ℕ) → IsSearch count clauses trail → IsSearch count clauses (take cut trail)
search_cut count clauses trail cut s = record {
  stands = trail_cut clauses trail cut s.stands;
  named = record { in_clauses = s.named.in_clauses; in_trail = λ k entry is. let at = cut_at cut trail k entry is in s.named.in_trail k entry at.0 };
  ones = record { in_clauses = s.ones.in_clauses; in_trail = λ k entry is. let at = cut_at cut trail k entry is in s.ones.in_trail k entry at.0 };
}

pub turned : (count : ℕ) (clauses : Store) (trail new : List Entry) (cut : ℕ) (lits : List Lit) (entry : Entry) → IsSearch count clauses trail → (a : Asserts clauses trail cut lits)
    → entry.lit ≡ a.first → entry.reason ≡ Some (length clauses) → new ≡ take cut trail ++ entry ∷ [] → IsSearch count (clauses ++ Some lits ∷ []) new
turned count clauses trail new cut lits entry s a lit reason e =
    let named = lits_named count clauses trail cut lits s a in
    let free : IsUnassigned (lits_of (take cut trail)) entry.lit = subst (λ l. IsUnassigned (lits_of (take cut trail)) l) (sym lit) a.free in
    let unit : IsUnit (lits_of (take cut trail)) lits entry.lit = subst (λ l. IsUnit (lits_of (take cut trail)) lits l) (sym lit) a.unit in
    let implied : IsImplied (clauses ++ Some lits ∷ []) (lits_of (take cut trail)) entry.lit (length clauses) = record { clause = lits; is = get_last clauses lits; unit = unit } in
    let because : HasReason (clauses ++ Some lits ∷ []) (lits_of (take cut trail)) entry.lit entry.reason = subst (λ r. HasReason (clauses ++ Some lits ∷ []) (lits_of (take cut trail)) entry.lit r) (sym reason) implied in
    rw e (search_pushed count (clauses ++ Some lits ∷ []) (take cut trail) entry (search_more count clauses (take cut trail) lits (search_cut count clauses trail cut s) named (lits_ones count clauses trail cut lits s a)) free because (named entry.lit unit.among) (lits_ones count clauses trail cut lits s a entry.lit unit.among))

pub turned_worth : (count : ℕ) (clauses : Store) (trail new : List Entry) (cut : ℕ) (lits : List Lit) (entry : Entry) → IsSearch count clauses trail → Asserts clauses trail cut lits
    → entry.reason ≡ Some (length clauses) → new ≡ take cut trail ++ entry ∷ [] → worth (count + 1) trail < worth (count + 1) new
turned_worth count clauses trail new cut lits entry s a reason e =
    let few : length trail ≤ count = trail_short count clauses trail s.stands s.named in
    let within = a.within in
    let found = entry_at trail cut (omega arith) in
    let whole : trail ≡ take cut trail ++ found.0 ∷ drop (suc cut) trail = split_at trail cut found.0 found.1 in
    let raised : worth (count + 1) (take cut trail ++ found.0 ∷ drop (suc cut) trail) < worth (count + 1) (take cut trail ++ entry ∷ []) =
    worth_raised (count + 1) (take cut trail) (drop (suc cut) trail) found.0 entry (length clauses) (omega (arith, length-take cut trail)) (a.decided found.0 found.1) reason in
    let left : worth (count + 1) trail ≡ worth (count + 1) (take cut trail ++ found.0 ∷ drop (suc cut) trail) = ap (worth (count + 1)) whole in
    rw e (omega (arith, raised, left))

-- a clause less that is no reason
pub search_without : (count : ℕ) (old new : Store) (trail : List Entry) (place : ℕ) → IsWithout old place new → IsUnused place trail → IsSearch count old trail → IsSearch count new trail
search_without count old new trail place less unused s = record {
  stands = trail_without old new place trail less unused s.stands;
  named = record { in_clauses = λ k clause lit is e. s.named.in_clauses k clause lit (found_before old new place k clause less is) e; in_trail = s.named.in_trail };
  ones = record { in_clauses = λ k clause lit is e. s.ones.in_clauses k clause lit (found_before old new place k clause less is) e; in_trail = s.ones.in_trail };
}

-- the formula's clauses stay
pub prefix_pushed : (formula : Formula) (clauses : Store) (clause : List Lit) → HasPrefix formula clauses → HasPrefix formula (clauses ++ Some clause ∷ [])
prefix_pushed formula clauses clause prefix = record { all = λ k one e. get_kept clauses clause k one.lits (prefix.all k one e) }

pub prefix_without : (formula : Formula) (old new : Store) (place : ℕ) → length formula.clauses ≤ place → IsWithout old place new → HasPrefix formula old → HasPrefix formula new
prefix_without formula old new place behind less prefix = record {
  all = λ k one e.
      let within : k < length formula.clauses = slice_get_within formula.clauses k one e in
      less.others k (λ same. absurd (omega (arith, same))) ∙ prefix.all k one e;
}

-- room for more variables
pub named_more : (m n : ℕ) (clauses : Store) (trail : List Entry) → m ≤ n → VariablesBelow m clauses trail → VariablesBelow n clauses trail
named_more m n clauses trail le named = record {
  in_clauses = λ k clause lit is e. let below = named.in_clauses k clause lit is e in omega arith;
  in_trail = λ k entry is. let below = named.in_trail k entry is in omega arith;
}

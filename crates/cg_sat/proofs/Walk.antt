-- Steps of the walk down the trail.
use Rattle.std.proofs.Common.{◌≡◌, ℕ, ◌+◌, zero, suc, ◌<◌, ◌≤◌, Bool, true, false, List, [], ◌∷◌, ◌++◌, Some, None}
use Rattle.std.proofs.Common.{inl, inr, refl, sym, ap, ◌∙◌, subst, map, length, take, set, reverse}
use Rattle.std.proofs.Common.{arith, ◌-◌, get_or, append-nil, append_assoc}
use Rattle.std.specs.List.{slice_get}
use Rattle.std.proofs.lemmas.Option.{slice_get-get_or, get_or_from_slice_get}
use Rattle.cg_formula.specs.declared.formula.Lit.{Lit}
use Rattle.cg_formula.specs.Lits.{inverse, is_in}
use Rattle.cg_sat_state.specs.declared.trail.Entry.{Entry}
use Rattle.cg_formula.specs.Assignments.{IsUnassigned, IsUnit, IsFalsified}
use Rattle.cg_sat_state.specs.Trail.{lits_of, IsTrail, IsImplied, HasReason}
use Rattle.cg_sat_state.specs.Store.{Store, clause_at, live_of}
use Rattle.cg_sat_state.proofs.Store.{live_at}
use Rattle.cg_sat.specs.inner.Learn.{is_marked, Derives, AreClear, Gathered, Asserts, IsTop}
use Rattle.cg_lrat.specs.Accepted.{clause_fault}
use Rattle.std.proofs.Math.Seq.{take-length}
use Rattle.cg_sat.proofs.Derive.{conflict_refutes, skip_refutes, keep_refutes, resolve_refutes, none_apart, fewer_apart, keep_apart}
use Rattle.cg_sat.proofs.Derive.{derived}
use Rattle.cg_formula.specs.Lits.{same_lit}
use Rattle.cg_formula.proofs.Connectives.{or_right}
use Rattle.cg_formula.proofs.Members.{same_lit_equal}
use Rattle.cg_formula.proofs.Members.{last_in, here, not_in, inverse_twice, pushed_in}
use Rattle.cg_sat_state.proofs.TrailLaws.{lit_at}
use Rattle.cg_sat.proofs.Marks.{take_lits, stays_marked, reason_marked, one_more_hint, blank}
use Rattle.std.proofs.lemmas.Bool.{or_cases}

pub entry_at : (trail : List Entry) (k : ℕ) → k < length trail → (entry : Entry) × (slice_get trail k ≡ Some entry)
entry_at [] k within = absurd (omega arith)
entry_at (e ∷ es) zero within = (e, refl)
entry_at (e ∷ es) (suc k) within = entry_at es k (omega arith)

pub derives_skip : (clauses : Store) (trail : List Entry) (marks : List Bool) (kept : List Lit) (hints : List ℕ) (at : ℕ) (entry : Entry)
    → slice_get trail at ≡ Some entry → is_marked marks entry.lit ≡ false
    → Derives clauses (lits_of (take (at + 1) trail)) marks kept hints → Derives clauses (lits_of (take at trail)) marks kept hints
derives_skip clauses trail marks kept hints at entry e off d =
    let before : Derives clauses (lits_of (take at trail) ++ entry.lit ∷ []) marks kept hints = subst (λ ls. Derives clauses ls marks kept hints) (take_lits trail at entry e) d in
    record {
      refutes = skip_refutes (live_of clauses) (lits_of (take at trail)) entry.lit (is_marked marks) kept (reverse hints) off before.refutes;
      apart = fewer_apart (lits_of (take at trail)) entry.lit kept before.apart;
    }

pub skip_clear : (clauses : Store) (trail : List Entry) (marks : List Bool) (kept : List Lit) (hints : List ℕ) (i n j : ℕ)
    → j ≡ i + n → j ≤ length trail → AreClear marks trail i j → Derives clauses (lits_of (take j trail)) marks kept hints → Derives clauses (lits_of (take i trail)) marks kept hints
skip_clear clauses trail marks kept hints i zero j e within clear d = let same : j ≡ i = omega arith in subst (λ k. Derives clauses (lits_of (take k trail)) marks kept hints) same d
skip_clear clauses trail marks kept hints i (suc n) j e within clear d =
    let found = entry_at trail (i + n) (omega arith) in
    let same : j ≡ i + n + 1 = omega arith in
    let off : is_marked marks found.0.lit ≡ false = clear (i + n) found.0 (omega arith) (omega arith) found.1 in
    skip_clear clauses trail marks kept hints i n (i + n) refl (omega arith) (λ k entry low high is. clear k entry low (omega arith) is)
    (derives_skip clauses trail marks kept hints (i + n) found.0 found.1 off (subst (λ k. Derives clauses (lits_of (take k trail)) marks kept hints) same d))

-- marks that were taken from the kept entry's variable matter no more
fewer_marks : (clauses : Store) (before : List Lit) (marks : List Bool) (kept : List Lit) (hints : List ℕ) (lit : Lit) → IsUnassigned before lit
    → Derives clauses before marks kept hints → Derives clauses before (set marks lit.variable false) kept hints
fewer_marks clauses before marks kept hints lit free d = record {
  refutes = record { fine = λ trues suits. d.refutes.fine trues (record { needed = λ other e mark. suits.needed other e (stays_marked marks before lit other free e mark); kept = suits.kept; only = suits.only }) };
  apart = d.apart;
}

pub derives_keep : (clauses : Store) (trail : List Entry) (marks : List Bool) (kept : List Lit) (hints : List ℕ) (at : ℕ) (entry : Entry)
    → slice_get trail at ≡ Some entry → IsTrail clauses trail
    → Derives clauses (lits_of (take (at + 1) trail)) marks kept hints → Derives clauses (lits_of (take at trail)) (set marks entry.lit.variable false) (kept ++ entry.lit ∷ []) hints
derives_keep clauses trail marks kept hints at entry e stands d =
    let before : Derives clauses (lits_of (take at trail) ++ entry.lit ∷ []) marks kept hints = subst (λ ls. Derives clauses ls marks kept hints) (take_lits trail at entry e) d in
    fewer_marks clauses (lits_of (take at trail)) marks (kept ++ entry.lit ∷ []) hints entry.lit (stands.open_at at entry e) (record {
      refutes = keep_refutes (live_of clauses) (lits_of (take at trail)) entry.lit (is_marked marks) kept (reverse hints) before.refutes;
      apart = keep_apart (lits_of (take at trail)) entry.lit kept (stands.open_at at entry e) before.apart;
    })

pub derives_resolve : (clauses : Store) (trail : List Entry) (marks more : List Bool) (kept : List Lit) (hints : List ℕ) (at reason : ℕ) (entry : Entry) (clause : List Lit)
    → slice_get trail at ≡ Some entry → IsTrail clauses trail → IsImplied clauses (lits_of (take at trail)) entry.lit reason → clause_at clauses reason ≡ Some clause
    → ((lit : Lit) → is_in lit clause ≡ true → is_marked more lit ≡ true) → ((lit : Lit) → is_marked marks lit ≡ true → is_marked more lit ≡ true)
    → Derives clauses (lits_of (take (at + 1) trail)) marks kept hints
    → Derives clauses (lits_of (take at trail)) (set more entry.lit.variable false) kept (hints ++ (reason + 1) ∷ [])
derives_resolve clauses trail marks more kept hints at reason entry clause e stands implied is marked stay d =
    let before : Derives clauses (lits_of (take at trail) ++ entry.lit ∷ []) marks kept hints = subst (λ ls. Derives clauses ls marks kept hints) (take_lits trail at entry e) d in
    let same : implied.clause ≡ clause = cc (implied.is, is) in
    let unit : IsUnit (lits_of (take at trail)) clause entry.lit = subst (λ c. IsUnit (lits_of (take at trail)) c entry.lit) same implied.unit in
    let free : IsUnassigned (lits_of (take at trail)) entry.lit = stands.open_at at entry e in
    let apart : IsUnassigned kept entry.lit = before.apart.open_in entry.lit (last_in entry.lit (lits_of (take at trail))) in
    record {
      refutes = rw (one_more_hint hints (reason + 1)) (resolve_refutes (live_of clauses) (lits_of (take at trail)) entry.lit (is_marked marks) (is_marked (set more entry.lit.variable false)) kept (reverse hints) (reason + 1) clause
          before.refutes (live_at clauses reason clause is) unit free apart
          (reason_marked more (lits_of (take at trail)) clause entry.lit free unit marked)
          (λ other early mark. stays_marked more (lits_of (take at trail)) entry.lit other free early (stay other mark)));
      apart = fewer_apart (lits_of (take at trail)) entry.lit kept before.apart;
    }

-- the conflict itself
pub derives_conflict : (clauses : Store) (trail : List Entry) (marks : List Bool) (conflict : ℕ) (clause : List Lit)
    → clause_at clauses conflict ≡ Some clause → IsFalsified (lits_of trail) clause → ((lit : Lit) → is_in lit clause ≡ true → is_marked marks lit ≡ true)
    → Derives clauses (lits_of trail) marks [] ((conflict + 1) ∷ [])
derives_conflict clauses trail marks conflict clause is off marked = record {
  refutes = conflict_refutes (live_of clauses) (lits_of trail) (is_marked marks) (conflict + 1) clause (live_at clauses conflict clause is) off marked;
  apart = none_apart (lits_of trail);
}

-- the clause asserts its first literal where the trail is cut
map_in : (lit : Lit) (lits : List Lit) → is_in lit (map inverse lits) ≡ true → is_in (inverse lit) lits ≡ true
map_in lit [] e = absurd (cc)
map_in lit (one ∷ lits) e = elim (or_cases (same_lit lit (inverse one)) (is_in lit (map inverse lits)) e) [
  | inl same ↦ let back : inverse lit ≡ one = ap inverse (same_lit_equal lit (inverse one) same) ∙ inverse_twice one in subst (λ l. is_in l (one ∷ lits) ≡ true) (sym back) (here one lits)
  | inr later ↦ or_right (same_lit (inverse lit) one) (map_in lit lits later)
]

in_longer : (lit : Lit) (trail : List Entry) (m n : ℕ) → m ≤ n → is_in lit (lits_of (take m trail)) ≡ true → is_in lit (lits_of (take n trail)) ≡ true
in_longer lit [] m n le e = absurd (nothing m e) where
  nothing : (k : ℕ) → is_in lit (lits_of (take k [])) ≡ true → ⊥
  nothing zero f = cc
  nothing (suc k) f = cc
in_longer lit (t ∷ ts) zero n le e = absurd (cc)
in_longer lit (t ∷ ts) (suc m) zero le e = absurd (omega arith)
in_longer lit (t ∷ ts) (suc m) (suc n) le e = elim (or_cases (same_lit lit t.lit) (is_in lit (lits_of (take m ts))) e) [
  | inl same ↦ rw same refl
  | inr later ↦ or_right (same_lit lit t.lit) (in_longer lit ts m n (omega arith) later)
]

pub asserted : (clauses : Store) (trail : List Entry) (from cut at : ℕ) (point : Entry) (kept : List Lit)
    → IsTrail clauses trail → slice_get trail at ≡ Some point → from ≤ at → at < length trail → Gathered trail from cut (point.lit ∷ []) kept → Asserts clauses trail cut (map inverse kept)
asserted clauses trail from cut at point kept stands is low within g = record {
  first = inverse point.lit;
  rest = map inverse g.more;
  whole = ap (map inverse) g.whole;
  within = omega arith;
  decided = g.decided;
  known = subst (λ l. is_in l (lits_of trail) ≡ true) (sym (inverse_twice point.lit)) (lit_at trail at point is);
  unit = record {
    among = subst (λ ls. is_in (inverse point.lit) (map inverse ls) ≡ true) (sym g.whole) (here (inverse point.lit) (map inverse g.more));
    others = λ lit e.
        let f : is_in lit (inverse point.lit ∷ map inverse g.more) ≡ true = subst (λ ls. is_in lit (map inverse ls) ≡ true) g.whole e in
        elim (or_cases (same_lit lit (inverse point.lit)) (is_in lit (map inverse g.more)) f) [
          | inl same ↦ inl (same_lit_equal lit (inverse point.lit) same)
          | inr later ↦ inr (g.inside (inverse lit) (map_in lit g.more later))
        ];
  };
  free = record {
    not_true = not_in (inverse point.lit) (lits_of (take cut trail)) (λ e. let no = (stands.open_at at point is).not_false in let yes = in_longer (inverse point.lit) trail cut at (omega arith) e in cc);
    not_false = not_in (inverse (inverse point.lit)) (lits_of (take cut trail)) (λ e.
        let no = (stands.open_at at point is).not_true in
        let yes = in_longer (inverse (inverse point.lit)) trail cut at (omega arith) e in
        let back = inverse_twice point.lit in cc);
  };
}

-- the reason of an entry that the code reads
pub implied_at : (clauses : Store) (trail : List Entry) (at reason : ℕ) → at < length trail → ((entry : Entry) → slice_get trail at ≡ Some entry → entry.reason ≡ Some reason) → IsTrail clauses trail
    → IsImplied clauses (lits_of (take at trail)) (get_or trail at blank).lit reason
implied_at clauses trail at reason within because stands =
    let is = slice_get-get_or trail at blank within in
    subst (λ r. HasReason clauses (lits_of (take at trail)) (get_or trail at blank).lit r) (because (get_or trail at blank) is) (stands.reason_at at (get_or trail at blank) is)

-- what the loops do at an unmarked entry
pub loop_skip : (clauses : Store) (trail : List Entry) (marks : List Bool) (kept : List Lit) (hints : List ℕ) (at : ℕ) → 0 < at → at ≤ length trail → is_marked marks (get_or trail (at - 1) blank).lit ≡ false
    → Derives clauses (lits_of (take at trail)) marks kept hints → Derives clauses (lits_of (take (at - 1) trail)) marks kept hints
loop_skip clauses trail marks kept hints at some within off d =
    let back : at ≡ at - 1 + 1 = omega arith in
    derives_skip clauses trail marks kept hints (at - 1) (get_or trail (at - 1) blank) (slice_get-get_or trail (at - 1) blank (omega arith)) off (subst (λ k. Derives clauses (lits_of (take k trail)) marks kept hints) back d)

-- what was gathered
pub gathered_none : (trail : List Entry) (from cut : ℕ) (old kept : List Lit) → kept ≡ old → cut ≤ from → cut < length trail → (get_or trail cut blank).reason ≡ None → Gathered trail from cut old kept
gathered_none trail from cut old kept same low within none = record {
  more = [];
  whole = same ∙ sym append-nil-at;
  low = low;
  decided = λ entry e. ap (λ (f : Entry). f.reason) (sym (get_or_from_slice_get trail cut entry blank e)) ∙ none;
  inside = λ lit e. absurd (cc);
} where
  append-nil-at : old ++ [] ≡ old
  append-nil-at = rw append-nil refl

pub gathered_more : (trail : List Entry) (from cut at : ℕ) (old kept new : List Lit) (entry : Entry) → slice_get trail at ≡ Some entry → at < cut → new ≡ kept ++ entry.lit ∷ [] → Gathered trail from cut old kept → Gathered trail from cut old new
gathered_more trail from cut at old kept new entry is below e g = record {
  more = g.more ++ entry.lit ∷ [];
  whole = e ∙ ap (λ ls. ls ++ entry.lit ∷ []) g.whole ∙ append_assoc old g.more (entry.lit ∷ []);
  low = g.low;
  decided = g.decided;
  inside = λ lit f. elim (pushed_in lit entry.lit g.more f) [
    | inl early ↦ g.inside lit early
    | inr same ↦ subst (λ l. is_in l (lits_of (take cut trail)) ≡ true) (sym same)
        (in_longer entry.lit trail (at + 1) cut (omega arith) (subst (λ ls. is_in entry.lit ls ≡ true) (sym (take_lits trail at entry is)) (last_in entry.lit (lits_of (take at trail)))))
  ];
}

-- the walk begins at the last marked entry
pub start_at : (clauses : Store) (trail : List Entry) (marks : List Bool) (top conflict : ℕ) (clause : List Lit)
    → clause_at clauses conflict ≡ Some clause → IsFalsified (lits_of trail) clause → ((lit : Lit) → is_in lit clause ≡ true → is_marked marks lit ≡ true) → IsTop marks trail top
    → Derives clauses (lits_of (take (top + 1) trail)) marks [] ((conflict + 1) ∷ [])
start_at clauses trail marks top conflict clause is off marked last =
    let within = last.within in
    let all : Derives clauses (lits_of (take (length trail) trail)) marks [] ((conflict + 1) ∷ []) = rw (take-length trail) (derives_conflict clauses trail marks conflict clause is off marked) in
    skip_clear clauses trail marks [] ((conflict + 1) ∷ []) (top + 1) (length trail - (top + 1)) (length trail) (omega arith) (omega arith) last.clear all

pub start_none : (clauses : Store) (trail : List Entry) (marks : List Bool) (conflict : ℕ) (clause : List Lit)
    → clause_at clauses conflict ≡ Some clause → IsFalsified (lits_of trail) clause → ((lit : Lit) → is_in lit clause ≡ true → is_marked marks lit ≡ true) → AreClear marks trail 0 (length trail)
    → Derives clauses [] marks [] ((conflict + 1) ∷ [])
start_none clauses trail marks conflict clause is off marked clear =
    let all : Derives clauses (lits_of (take (length trail) trail)) marks [] ((conflict + 1) ∷ []) = rw (take-length trail) (derives_conflict clauses trail marks conflict clause is off marked) in
    skip_clear clauses trail marks [] ((conflict + 1) ∷ []) 0 (length trail) (length trail) (omega arith) (omega arith) clear all

-- and ends with a clause that has no fault
pub ends : (clauses : Store) (marks : List Bool) (kept : List Lit) (hints : List ℕ) (lits : List Lit) (all : List ℕ) → lits ≡ map inverse kept → all ≡ reverse hints → Derives clauses [] marks kept hints
    → clause_fault (live_of clauses) lits all ≡ None
ends clauses marks kept hints lits all e f d = rw (e, f) (derived (live_of clauses) (is_marked marks) kept (reverse hints) d.refutes d.apart)

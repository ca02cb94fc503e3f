-- What is known of a derivation while the trail is walked down.
use Rattle.std.specs.Prelude.{◌≡◌, ℕ, ◌+◌, ◌<◌, ◌≤◌, Bool, true, false, List, [], ◌∷◌, ◌++◌, length, take, reverse, Some}
use Rattle.std.specs.Prelude.{None}
use Rattle.std.specs.List.{slice_get, slice_index_or}
use Rattle.std.specs.Option.{IsSome}
use Rattle.cg_formula.specs.declared.formula.Lit.{Lit}
use Rattle.cg_formula.specs.Lits.{inverse, is_in}
use Rattle.cg_lrat.specs.Accepted.{clause_fault}
use Rattle.cg_sat_state.specs.declared.trail.Entry.{Entry}
use Rattle.cg_sat.specs.declared.learn.Lesson.{Lesson}
use Rattle.cg_sat.specs.declared.learn.Lesson.TheVariants.{Empty, Clause}
use Rattle.cg_formula.specs.Assignments.{IsUnit, IsUnassigned}
use Rattle.cg_sat_state.specs.Trail.{lits_of}
use Rattle.cg_sat.specs.inner.Derive.{Refutes, IsApart}
use Rattle.cg_sat_state.specs.Store.{Store, clause_at, live_of}

-- whether the literal's variable is marked
abbrev pub is_marked : List Bool → Lit → Bool
is_marked marks lit = slice_index_or marks lit.variable false

-- each variable has a mark
pub record VariablesBelow (count : ℕ) (clauses : Store) (trail : List Entry) : Type 0 where
  pub in_clauses : (k : ℕ) (clause : List Lit) (lit : Lit) → clause_at clauses k ≡ Some clause → is_in lit clause ≡ true →
      lit.variable < count
  pub in_trail : (k : ℕ) (entry : Entry) → slice_get trail k ≡ Some entry → entry.lit.variable < count

-- the hints, gathered last first, refute what is marked of these literals and what is kept
pub record Derives (clauses : Store) (before : List Lit) (marks : List Bool) (kept : List Lit) (hints : List ℕ) : Type 0 where
  pub refutes : Refutes (live_of clauses) before (is_marked marks) kept (reverse hints)
  pub apart : IsApart before kept

-- no entry of these places is marked
abbrev pub AreClear : List Bool → List Entry → ℕ → ℕ → Type 0
AreClear marks trail from to = (k : ℕ) (entry : Entry) → from ≤ k → k < to → slice_get trail k ≡ Some entry →
    is_marked marks entry.lit ≡ false

-- a decision stands at this place
abbrev pub IsDecided : List Entry → ℕ → Type 0
IsDecided trail at = (entry : Entry) → slice_get trail at ≡ Some entry → entry.reason ≡ None

-- the clause of the inverted kept literals is unit where the trail is cut there, and its open literal is the first's inverse
pub record Asserts (clauses : Store) (trail : List Entry) (cut : ℕ) (lits : List Lit) : Type 0 where
  pub first : Lit
  pub rest : List Lit
  pub whole : lits ≡ first ∷ rest
  pub within : cut < length trail
  pub decided : IsDecided trail cut
  pub unit : IsUnit (lits_of (take cut trail)) lits first
  pub free : IsUnassigned (lits_of (take cut trail)) first
  pub known : is_in (inverse first) (lits_of trail) ≡ true

-- the entries of these places have reasons
abbrev pub AreImplied : List Entry → ℕ → ℕ → Type 0
AreImplied trail from to = (k : ℕ) (entry : Entry) → from ≤ k → k < to → slice_get trail k ≡ Some entry → IsSome entry.reason

-- from this place on nothing is marked, but at the place itself
pub record IsTop (marks : List Bool) (trail : List Entry) (top : ℕ) : Type 0 where
  pub within : top < length trail
  pub clear : AreClear marks trail (top + 1) (length trail)

-- the decision of the level of a place
pub record IsLevel (trail : List Entry) (top from : ℕ) : Type 0 where
  pub within : from ≤ top
  pub decided : IsDecided trail from
  pub implied : AreImplied trail (from + 1) (top + 1)

-- below this place nothing of the level is marked
pub record IsPoint (trail : List Entry) (marks : List Bool) (from top at : ℕ) : Type 0 where
  pub low : from ≤ at
  pub high : at ≤ top
  pub clear : AreClear marks trail from at

-- what was kept stands below the cut, and a decision stands there
pub record Gathered (trail : List Entry) (from cut : ℕ) (old kept : List Lit) : Type 0 where
  pub more : List Lit
  pub whole : kept ≡ old ++ more
  pub low : cut ≤ from
  pub decided : IsDecided trail cut
  pub inside : (lit : Lit) → is_in lit more ≡ true → is_in lit (lits_of (take cut trail)) ≡ true

-- the lesson's clause has no fault under its hints, and asserts a literal where the trail is cut
abbrev pub Teaches : Store → List Entry → Lesson → Type 0
Teaches clauses trail (Empty hints) = clause_fault (live_of clauses) [] hints.items ≡ None
Teaches clauses trail (Clause learnt) =
    (clause_fault (live_of clauses) learnt.lits.items learnt.hints.items ≡ None) × Asserts clauses trail learnt.cut learnt.lits.items

-- The trail: literals that were made true, each by a decision or by a clause that was unit.
use Rattle.std.specs.Prelude.{◌≡◌, ℕ, List, Option, Some, None, map, take}
use Rattle.std.specs.List.{slice_get}
use Rattle.cg_formula.specs.declared.formula.Lit.{Lit}
use Rattle.cg_formula.specs.Assignments.{IsUnit, IsUnassigned}
use Rattle.cg_sat_state.specs.Store.{Store, clause_at}
use Rattle.cg_sat_state.specs.declared.trail.Entry.{Entry}

-- the literals that are true
abbrev pub lits_of : List Entry → List Lit
lits_of trail = map (λ entry. entry.lit) trail

-- the clause at this place makes the literal true
pub record IsImplied (clauses : Store) (before : List Lit) (lit : Lit) (reason : ℕ) : Type 0 where
  pub clause : List Lit
  pub is : clause_at clauses reason ≡ Some clause
  pub unit : IsUnit before clause lit

-- a decision needs no reason; any other literal is made true by the clause at its place
abbrev pub HasReason : Store → List Lit → Lit → Option ℕ → Type 0
HasReason clauses before lit None = Unit {0}
HasReason clauses before lit (Some reason) = IsImplied clauses before lit reason

-- each literal was unassigned when it was made true, and its reason was unit
pub record IsTrail (clauses : Store) (trail : List Entry) : Type 0 where
  pub open_at : (i : ℕ) (entry : Entry) → slice_get trail i ≡ Some entry → IsUnassigned (lits_of (take i trail)) entry.lit
  pub reason_at : (i : ℕ) (entry : Entry) → slice_get trail i ≡ Some entry →
      HasReason clauses (lits_of (take i trail)) entry.lit entry.reason

-- no entry has the clause at this place as its reason
abbrev pub IsUnused : ℕ → List Entry → Type 0
IsUnused place trail = (i : ℕ) (entry : Entry) → slice_get trail i ≡ Some entry → entry.reason ≡ Some place → ⊥

-- What holds between the turns of the search.
use Rattle.std.specs.Prelude.{◌≡◌, ℕ, ◌+◌, ◌<◌, ◌≤◌, Bool, true, false, List, length, Option, Some, None}
use Rattle.std.specs.List.{slice_get, slice_index_or}
use Rattle.cg_formula.specs.declared.formula.Clause.{Clause}
use Rattle.cg_sat.specs.declared.choose.Choice.{Choice}
use Rattle.cg_sat.specs.declared.choose.Choice.TheVariants.{Decide, Done, Refute}
use Rattle.cg_sat_state.specs.Store.{Store, clause_at}
use Rattle.cg_formula.specs.declared.formula.Lit.{Lit}
use Rattle.cg_formula.specs.declared.formula.Formula.{Formula}
use Rattle.cg_formula.specs.Lits.{inverse, is_in}
use Rattle.cg_formula.specs.Satisfiable.{Satisfies, clause_bit}
use Rattle.cg_sat_state.specs.declared.trail.Entry.{Entry}
use Rattle.cg_sat.specs.declared.propagate.Look.{Look}
use Rattle.cg_sat.specs.declared.propagate.Look.TheVariants.{Stays, Moved, Conflict}
use Rattle.cg_formula.specs.Assignments.{IsFalsified, IsUnassigned}
use Rattle.cg_sat_state.specs.Trail.{lits_of, IsTrail}
use Rattle.cg_sat.specs.inner.Learn.{VariablesBelow}
use Rattle.cg_sat.specs.inner.Worth.{worth}

-- variables are counted from one
pub record AreFromOne (clauses : Store) (trail : List Entry) : Type 0 where
  pub in_clauses : (k : ℕ) (clause : List Lit) (lit : Lit) → clause_at clauses k ≡ Some clause → is_in lit clause ≡ true →
      0 < lit.variable
  pub in_trail : (k : ℕ) (entry : Entry) → slice_get trail k ≡ Some entry → 0 < entry.lit.variable

-- a trail over these clauses, whose variables are below the count
pub record IsSearch (count : ℕ) (clauses : Store) (trail : List Entry) : Type 0 where
  pub stands : IsTrail clauses trail
  pub named : VariablesBelow count clauses trail
  pub ones : AreFromOne clauses trail

-- the trail has grown by what follows from it
pub record Grows (count : ℕ) (clauses : Store) (old new : List Entry) : Type 0 where
  pub search : IsSearch count clauses new
  pub worth : worth (count + 1) old ≤ worth (count + 1) new

-- the clause at this place is false
pub record IsConflict (clauses : Store) (trail : List Entry) (place : ℕ) : Type 0 where
  pub clause : List Lit
  pub is : clause_at clauses place ≡ Some clause
  pub off : IsFalsified (lits_of trail) clause

-- only a conflict says something
abbrev pub IsLook : Store → List Entry → Look → Type 0
IsLook clauses trail (Stays blocker) = Unit {0}
IsLook clauses trail Moved = Unit {0}
IsLook clauses trail (Conflict place) = IsConflict clauses trail place

-- the bits of the variables that are true
abbrev pub ShowsBits : List Lit → List Bool → Type 0
ShowsBits trues bits = (v : ℕ) → v < length bits →
    slice_index_or bits v false ≡ is_in (record { variable = v + 1; inverted = false }) trues

-- a literal that is not false, or none
abbrev pub FindsOpen : List Lit → List Lit → Option Lit → Type 0
FindsOpen trues clause None = IsFalsified trues clause
FindsOpen trues clause (Some lit) = (is_in lit clause ≡ true) × (is_in (inverse lit) trues ≡ false)

-- the formula's clauses stand first, and none of them was taken away
pub record HasPrefix (formula : Formula) (clauses : Store) : Type 0 where
  pub all : (k : ℕ) (clause : Clause) → slice_get formula.clauses k ≡ Some clause → clause_at clauses k ≡ Some clause.lits

-- the bits do not satisfy the clause at this place
pub record IsUnsatisfied (bits : List Bool) (formula : Formula) (place : ℕ) : Type 0 where
  pub clause : Clause
  pub is : slice_get formula.clauses place ≡ Some clause
  pub off : clause_bit bits clause ≡ false

-- a literal to decide is open, bits satisfy, and a clause to refute is false
abbrev pub IsChoice : Formula → ℕ → Store → List Entry → Choice → Type 0
IsChoice formula count clauses trail (Decide lit) = IsUnassigned (lits_of trail) lit × (lit.variable < count) × (0 < lit.variable)
IsChoice formula count clauses trail (Done bits) = Satisfies bits.items formula
IsChoice formula count clauses trail (Refute place) = IsConflict clauses trail place

-- a reason of the trail is marked, if its place has a mark
abbrev pub MarksReasons : List Entry → List Bool → Type 0
MarksReasons trail used = (k : ℕ) (entry : Entry) (reason : ℕ) → slice_get trail k ≡ Some entry → entry.reason ≡ Some reason →
    reason < length used → slice_index_or used reason false ≡ true

-- The clauses of a formula and those that a log adds, by place: the one at place k has the id k + 1, and a place is
-- empty where its clause was taken away.
use Rattle.std.specs.Prelude.{◌≡◌, ◌≢◌, ℕ, zero, suc, List, [], ◌∷◌, Option, Some, None, length, map}
use Rattle.cg_formula.specs.declared.formula.Lit.{Lit}
use Rattle.cg_formula.specs.declared.formula.Formula.{Formula}
use Rattle.cg_lrat.specs.Accepted.{Live, State}

-- a clause or none at each place
abbrev pub Store : Type 0
Store = List (Option (List Lit))

-- the clause at a place
abbrev pub clause_at : Store → ℕ → Option (List Lit)
clause_at [] k = None
clause_at (c ∷ clauses) zero = c
clause_at (c ∷ clauses) (suc k) = clause_at clauses k

-- the live clauses, by id
abbrev pub live_of : Store → Live
live_of clauses zero = None
live_of clauses (suc k) = clause_at clauses k

-- what the checker knows once it has taken the steps that lead to these clauses
abbrev pub state_of : Store → State
state_of clauses = record { live = live_of clauses; greatest = length clauses }

-- the clauses of the formula, at the first places
abbrev pub given : Formula → Store
given formula = map (λ clause. Some clause.lits) formula.clauses

-- the second store is the first without the clause at this place
pub record IsWithout (old : Store) (place : ℕ) (new : Store) : Type 0 where
  pub others : (k : ℕ) → k ≢ place → clause_at new k ≡ clause_at old k
  pub gone : clause_at new place ≡ None
  pub long : length new ≡ length old

-- a log on its way, as contracts see it: the formula, and the clauses that are live
pub record Draft : Type 0 where
  pub formula : Formula
  pub clauses : Store

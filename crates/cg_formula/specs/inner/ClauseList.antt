-- Clauses in one list of literals.
use Rattle.std.specs.Prelude.{◌≡◌, ℕ, zero, suc, ◌≤◌, List, [], ◌∷◌}
use Rattle.std.specs.List.{slice_range}
use Rattle.cg_formula.specs.declared.formula.Lit.{Lit}
use Rattle.cg_formula.specs.declared.formula.Clause.{Clause}

-- the clauses that end at these places, the first of them beginning at this one
abbrev pub clauses_of : ℕ → List Lit → List ℕ → List Clause
clauses_of from lits [] = []
clauses_of from lits (to ∷ ends) = record { lits = slice_range lits from to } ∷ clauses_of to lits ends

-- each clause ends where it begins or later, and the last one at the end of the literals
abbrev pub AreEnds : ℕ → ℕ → List ℕ → Type 0
AreEnds from count [] = from ≡ count
AreEnds from count (to ∷ ends) = (from ≤ to) × AreEnds to count ends

-- where the clause of this place begins
abbrev pub start_at : ℕ → List ℕ → ℕ → ℕ
start_at from [] place = from
start_at from (to ∷ ends) zero = from
start_at from (to ∷ ends) (suc place) = start_at to ends place

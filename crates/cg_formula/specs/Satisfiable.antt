-- When a formula is satisfiable (as in DIMACS CNF: a conjunction of clauses, each a disjunction of literals).
use Rattle.std.specs.Prelude.{◌≡◌, ◌-◌, Bool, true, false, not, List, length, if◌then◌else◌}
use Rattle.std.specs.List.{list_any, list_all, slice_index_or}
use Rattle.cg_formula.specs.declared.formula.Lit.{Lit}
use Rattle.cg_formula.specs.declared.formula.Clause.{Clause}
use Rattle.cg_formula.specs.declared.formula.Formula.{Formula}

-- the bit of a literal where the variables from 1 on have these bits
abbrev pub lit_bit : List Bool → Lit → Bool
lit_bit bits lit = let bit = slice_index_or bits (lit.variable - 1) false in if lit.inverted then not bit else bit

-- whether one of the literals is true
abbrev pub clause_bit : List Bool → Clause → Bool
clause_bit bits clause = list_any (lit_bit bits) clause.lits

-- whether each clause has a true literal
abbrev pub formula_bit : List Bool → Formula → Bool
formula_bit bits formula = list_all (clause_bit bits) formula.clauses

-- these bits, one per variable, make a literal of each clause true
pub record Satisfies (bits : List Bool) (formula : Formula) : Type 0 where
  pub each_variable : length bits ≡ formula.variables
  pub each_clause : formula_bit bits formula ≡ true

-- some bits, one per variable, make a literal of each clause true
abbrev pub IsSatisfiable : Formula → Type 0
IsSatisfiable formula = (bits : List Bool) × Satisfies bits formula

-- no bits do
abbrev pub IsUnsatisfiable : Formula → Type 0
IsUnsatisfiable formula = (bits : List Bool) → ¬ (Satisfies bits formula)

-- The formula of a goal: the clauses of an and-inverter list, and that the goal is 1 (Tseitin 1968).
use Rattle.std.specs.Prelude.{◌≡◌, ◌==◌, ℕ, ◌+◌, ◌/◌, ◌%◌, Bool, true, false, not, if◌then◌else◌, List, [], ◌∷◌, ◌++◌, length}
use Rattle.cg_cell.specs.Domain.{Seen}
use Rattle.cg_aig.specs.Aig.{aig_ops}
use Rattle.cg_formula.specs.declared.formula.Lit.{Lit}
use Rattle.cg_formula.specs.declared.formula.Clause.{Clause}
use Rattle.cg_formula.specs.declared.formula.Formula.{Formula}
use Rattle.cg_formula.specs.Lits.{inverse}

-- The variable of a node is its number.
abbrev pub node_lit : ℕ → Lit
node_lit node = record { variable = node; inverted = false }

-- The literal of a formula that says what a literal of an and-inverter list says.
abbrev pub lit_of : ℕ → Lit
lit_of a = record { variable = a / 2; inverted = not (a % 2 == 0) }

abbrev pub clause_of : List Lit → Clause
clause_of lits = record { lits = lits }

-- What says that an and-node is the and of its operands: -c a, then -c b, then c -a -b.
abbrev pub node_clauses : ℕ → ℕ × ℕ → List Clause
node_clauses node p =
    clause_of (inverse (node_lit node) ∷ (lit_of p.0 ∷ [])) ∷
    (clause_of (inverse (node_lit node) ∷ (lit_of p.1 ∷ [])) ∷
    (clause_of (node_lit node ∷ (inverse (lit_of p.0) ∷ (inverse (lit_of p.1) ∷ []))) ∷ []))

-- The clauses of and-nodes in order, the first of which has this number.
abbrev pub clauses_from : ℕ → List (ℕ × ℕ) → List Clause
clauses_from node [] = []
clauses_from node (p ∷ pairs) = node_clauses node p ++ clauses_from (node + 1) pairs

-- What says that the goal is 1: the empty clause where it is the constant 0, none where it is the
-- constant 1, and else the goal alone.
abbrev pub goal_clauses : ℕ → List Clause
goal_clauses goal = if goal == 0 then clause_of [] ∷ [] else if goal == 1 then [] else clause_of (lit_of goal ∷ []) ∷ []

-- The formula of a goal: its variables are the nodes but the constant.
abbrev pub formula_of : Seen → ℕ → Formula
formula_of s goal = record {
  variables = s.number + length s.pairs;
  clauses = clauses_from (1 + s.number) s.pairs ++ goal_clauses goal;
}

-- Under these leaf bits, one for each leaf, the goal is 1.
pub record IsOneAt (s : Seen) (goal : ℕ) (bits : List Bool) : Type 0 where
  pub each_leaf : length bits ≡ s.number
  pub one : aig_ops.bit s bits goal ≡ true

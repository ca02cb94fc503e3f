-- Literals.
use Rattle.std.specs.Prelude.{ℕ, ◌+◌, ◌*◌, Bool, ◌==◌, ◌&&◌, not, List, if◌then◌else◌}
use Rattle.std.specs.List.{list_any}
use Rattle.cg_formula.specs.declared.formula.Lit.{Lit}

-- the literal that is true exactly where this one is false
abbrev pub inverse : Lit → Lit
inverse lit = record { variable = lit.variable; inverted = not lit.inverted }

abbrev pub same_sign : Bool → Bool → Bool
same_sign a b = if a then b else not b

abbrev pub same_lit : Lit → Lit → Bool
same_lit a b = a.variable == b.variable && same_sign a.inverted b.inverted

abbrev pub is_in : Lit → List Lit → Bool
is_in lit lits = list_any (same_lit lit) lits

-- the number of a literal: each variable has two
abbrev pub lit_number : Lit → ℕ
lit_number lit = 2 * lit.variable + (if lit.inverted then 1 else 0)

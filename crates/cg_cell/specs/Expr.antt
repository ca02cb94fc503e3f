-- Expressions over numbered variables, as Liberty writes functions.
use Rattle.std.specs.Prelude.{ℕ, Bool, true, false, ◌==◌, nat_lt, List, map, slice_index_or}
use Rattle.cg_cell.specs.Gates.{all_of, any_of, inverted, odd_of}
use Rattle.cg_cell.specs.Term.{Term, Bit, Input, Both, Either, Differ, inverse_times, join_all}
use Rattle.cg_cell.specs.declared.expr.Expr.{Expr}
use Rattle.cg_cell.specs.declared.expr.Expr.TheOpen.{Expr-F, Constant, Variable, Not, And, Or, Xor}
use Rattle.cg_cell.specs.declared.expr.Expr.TheFolds.{fold-Expr}

-- the bit of a node, from the bits of its operands
abbrev pub value_step : List Bool → Expr-F Bool → Bool
value_step bits (Constant bit) = bit
value_step bits (Variable k) = slice_index_or bits k false
value_step bits (Not signs operand) = inverted signs operand.value
value_step bits (And operands) = all_of operands.items
value_step bits (Or operands) = any_of operands.items
value_step bits (Xor operands) = odd_of operands.items

-- the value of an expression on the bits of its variables
abbrev pub expr_value : List Bool → Expr → Bool
expr_value bits = fold-Expr Bool (value_step bits)

abbrev pub values_of : List Bool → List Expr → List Bool
values_of bits operands = map (expr_value bits) operands

-- whether a node names only variables below a number, from whether its operands do
abbrev pub over_step : ℕ → Expr-F Bool → Bool
over_step n (Constant bit) = true
over_step n (Variable k) = nat_lt k n
over_step n (Not signs operand) = operand.value
over_step n (And operands) = all_of operands.items
over_step n (Or operands) = all_of operands.items
over_step n (Xor operands) = all_of operands.items

-- whether every variable of an expression is below a number
abbrev pub is_over : ℕ → Expr → Bool
is_over n = fold-Expr Bool (over_step n)

abbrev pub all_over : ℕ → List Expr → Bool
all_over n operands = all_of (map (is_over n) operands)

-- whether a node names a variable, from whether its operands do
abbrev pub names_step : ℕ → Expr-F Bool → Bool
names_step k (Constant bit) = false
names_step k (Variable variable) = variable == k
names_step k (Not signs operand) = operand.value
names_step k (And operands) = any_of operands.items
names_step k (Or operands) = any_of operands.items
names_step k (Xor operands) = any_of operands.items

-- whether a variable stands in an expression
abbrev pub names_variable : ℕ → Expr → Bool
names_variable k = fold-Expr Bool (names_step k)

abbrev pub any_names : ℕ → List Expr → Bool
any_names k operands = any_of (map (names_variable k) operands)

-- a node as a term, from the terms of its operands: operands of one level join from the left
abbrev pub term_step : Expr-F Term → Term
term_step (Constant bit) = Bit bit
term_step (Variable k) = Input k
term_step (Not signs operand) = inverse_times signs operand.value
term_step (And operands) = join_all Both (Bit true) operands.items
term_step (Or operands) = join_all Either (Bit false) operands.items
term_step (Xor operands) = join_all Differ (Bit false) operands.items

-- an expression as plain data
abbrev pub term_of : Expr → Term
term_of = fold-Expr Term term_step

abbrev pub terms_of : List Expr → List Term
terms_of operands = map term_of operands

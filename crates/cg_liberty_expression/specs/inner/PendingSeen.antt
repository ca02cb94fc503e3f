-- What waits in the program, as the definition has it.
use Rattle.std.specs.Prelude.{◌≡◌, ℕ, List, [], ◌∷◌, ◌++◌, Bool, true, false, map, reverse, Option, None, Some}
use Rattle.std.specs.Option.{option_map, option_to_list}
use Rattle.cg_cell.specs.Expr.{term_of}
use Rattle.cg_cell.specs.Term.{Term}
use Rattle.cg_cell.specs.declared.expr.Expr.{Expr}
use Rattle.cg_liberty_expression.specs.Reading as reading
use Rattle.cg_liberty_expression.specs.declared.pending.Pending.{Pending}
use Rattle.cg_liberty_expression.specs.declared.pending.Pending.TheVariants.{OrLeft, AndLeft, XorLeft, Inversion, Bracket}

abbrev pub pending_of : Pending → reading.Pending
pending_of (OrLeft e) = reading.OrLeft (term_of e)
pending_of (AndLeft e) = reading.AndLeft (term_of e)
pending_of (XorLeft e) = reading.XorLeft (term_of e)
pending_of Inversion = reading.Inversion
pending_of Bracket = reading.Bracket

-- the last, and what waits below it
abbrev pub seen : Option Pending → List Pending → List reading.Pending
seen top below = option_to_list (option_map pending_of top) ++ reverse (map pending_of below)

-- whether nothing waits, and whether a sign `!` or a bracket waits last
abbrev pub is_bottom : List reading.Pending → Bool
is_bottom [] = true
is_bottom (_ ∷ pending) = false

abbrev pub ends_in_inversion : List reading.Pending → Bool
ends_in_inversion (reading.Inversion ∷ pending) = true
ends_in_inversion _ = false

abbrev pub ends_in_bracket : List reading.Pending → Bool
ends_in_bracket (reading.Bracket ∷ pending) = true
ends_in_bracket _ = false

-- a term behind the left operand of an operator, where there is one
abbrev pub joined : (Term → Term → Term) → Option Expr → Term → Term
joined operator None right = right
joined operator (Some left) right = operator (term_of left) right

-- what is true of what waits
pub record IsStack (top : Option Pending) (below : List Pending) (depth : ℕ) : Type 0 where
  pub counted : depth ≡ reading.nesting (seen top below)
  pub bottom : top ≡ None → below ≡ []

-- The expressions of a cell.
use Rattle.std.specs.Prelude.{ℕ, List, [], ◌∷◌, Option, None, Some, Result, Ok, Err}
use Rattle.cg_cell.specs.Term.{Term}
use Rattle.cg_liberty_expression.specs.Reading.{read_text}
use Rattle.cg_liberty_expression.specs.declared.fault.ExprFault.{ExprFault}
use Rattle.cg_liberty_expression.specs.declared.fault.ExprFault.TheVariants as exprs
use Rattle.cg_liberty.specs.declared.fault.CellFault.{CellFault}
use Rattle.cg_liberty.specs.declared.fault.CellFault.TheVariants as cells

-- what was read of a cell, before what is read of it next
abbrev pub then_read : {A B : Type 0} → Result A CellFault → (A → Result B CellFault) → Result B CellFault
then_read (Ok x) later = later x
then_read (Err fault) later = Err fault

-- an expression that was read; one with an unknown name is as good as none
abbrev pub taken : Result Term ExprFault → Result (Option Term) CellFault
taken (Ok term) = Ok (Some term)
taken (Err (exprs.UnknownPin at)) = Ok None
taken (Err (exprs.BadExpr at)) = Err (cells.BadExpr at)
taken (Err (exprs.TooDeep at)) = Err cells.Nesting
taken (Err exprs.NoMemory) = Err cells.NoMemory

-- the expression over these names that an attribute has, where it has a text
abbrev pub reading : List (List ℕ) → Option (List ℕ) → Result (Option Term) CellFault
reading names None = Ok None
reading names (Some text) = taken (read_text names text)

-- the expressions over these names, in order
abbrev pub readings : List (List ℕ) → List (Option (List ℕ)) → Result (List (Option Term)) CellFault
readings names [] = Ok []
readings names (text ∷ texts) =
    then_read (reading names text) (λ term. then_read (readings names texts) (λ terms. Ok (term ∷ terms)))

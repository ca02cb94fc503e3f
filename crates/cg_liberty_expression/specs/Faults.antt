-- Where the text of an expression has its first fault, by the grammar alone.
use Rattle.std.specs.Prelude.{◌≡◌, ℕ, false, List, [], ◌∷◌, ◌++◌, length}
use Rattle.cg_liberty_expression.specs.Grammar.{OrLevel, ParsesAs}
use Rattle.cg_liberty_expression.specs.Tokens.{Token, tokens_from}
use Rattle.cg_cell.specs.Term.{Term}
use Rattle.cg_liberty_expression.specs.declared.fault.ExprFault.{ExprFault}
use Rattle.cg_liberty_expression.specs.declared.fault.ExprFault.TheVariants.{BadExpr, UnknownPin, TooDeep, NoMemory}

-- these tokens can go on to an expression
pub record CanGoOn (pins : List (List ℕ)) (front : List Token) : Type 0 where
  pub more : List Token
  pub term : Term
  pub stands : ParsesAs pins OrLevel 0 (front ++ more) term

-- with the first of the later tokens they cannot: no expression begins so, whatever follows; where none is left, they are no
-- expression
abbrev pub NoneBegins : List (List ℕ) → List Token → List Token → Type 0
NoneBegins pins front [] = (t : Term) → ParsesAs pins OrLevel 0 front t → ⊥
NoneBegins pins front (token ∷ later) = (more : List Token) (t : Term) → ParsesAs pins OrLevel 0 (front ++ token ∷ more) t → ⊥

-- the place of the first of these tokens, or the end
abbrev pub first_place : ℕ → List Token → ℕ
first_place end [] = end
first_place end (token ∷ later) = token.at

-- the text has its first fault at the place: the tokens before it can go on to an expression, and with the one there they cannot
pub record FailsAt (pins : List (List ℕ)) (text : List ℕ) (at : ℕ) : Type 0 where
  pub front : List Token
  pub later : List Token
  pub split : tokens_from false 0 text ≡ front ++ later
  pub place : at ≡ first_place (length text) later
  pub before : CanGoOn pins front
  pub wrong : NoneBegins pins front later

-- the place of a fault is that of the text's first fault
abbrev pub IsFirstExprFault : List (List ℕ) → List ℕ → ExprFault → Type 0
IsFirstExprFault pins text (BadExpr at) = FailsAt pins text at
IsFirstExprFault pins text (UnknownPin at) = FailsAt pins text at
IsFirstExprFault pins text (TooDeep at) = FailsAt pins text at
IsFirstExprFault pins text NoMemory = Unit {0}

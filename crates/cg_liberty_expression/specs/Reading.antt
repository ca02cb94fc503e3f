-- How the text of an expression is read, token by token: what is complete, what waits for more, and the first
-- token at which no reading can go on.
use Rattle.std.specs.Prelude.{ℕ, ◌+◌, true, false, nat_lt, if◌then◌else◌, List, [], ◌∷◌, length, slice_index, Option, None, Some}
use Rattle.std.specs.Prelude.{Result, Ok, Err}
use Rattle.std.specs.List.{position_from}
use Rattle.std.specs.Str.{bytes_eq}
use Rattle.cg_limit.specs.declared.TheConstants.{MOST_NESTING}
use Rattle.cg_liberty_expression.specs.Tokens.{Token, Word, OrSign, AndSign, XorSign, NotSign, PrimeSign, OpenBracket, CloseBracket, Other}
use Rattle.cg_liberty_expression.specs.Tokens.{is_digit, is_letter, tokens_from}
use Rattle.cg_cell.specs.Term.{Term, Bit, Input, Inverse, Both, Either, Differ}
use Rattle.cg_liberty_expression.specs.declared.fault.ExprFault.{ExprFault}
use Rattle.cg_liberty_expression.specs.declared.fault.ExprFault.TheVariants.{BadExpr, UnknownPin, TooDeep}

-- what waits for the operand that comes: the left operand of an operator, a sign `!`, or an open bracket
pub data Pending : Type 0 where
  OrLeft : Term → Pending
  AndLeft : Term → Pending
  XorLeft : Term → Pending
  Inversion : Pending
  Bracket : Pending

-- what waits, the last first, behind a level that has ended with this term
pub record Ended : Type 0 where
  pub term : Term
  pub pending : List Pending

-- an inv-level ends: each `!` before it takes it
abbrev pub inv_end : Term → List Pending → Ended
inv_end t (Inversion ∷ pending) = inv_end (Inverse t) pending
inv_end t pending = record { term = t; pending = pending }

abbrev pub join_xor : Ended → Ended
join_xor e = elim e.pending [ XorLeft s ∷ pending ↦ record { term = Differ s e.term; pending = pending } | _ ↦ e ]

abbrev pub join_and : Ended → Ended
join_and e = elim e.pending [ AndLeft s ∷ pending ↦ record { term = Both s e.term; pending = pending } | _ ↦ e ]

abbrev pub join_or : Ended → Ended
join_or e = elim e.pending [ OrLeft s ∷ pending ↦ record { term = Either s e.term; pending = pending } | _ ↦ e ]

-- the level of an operator ends: it is the right operand of one that waits at its level, or stands alone
abbrev pub xor_end : Term → List Pending → Ended
xor_end t pending = join_xor (inv_end t pending)

abbrev pub and_end : Term → List Pending → Ended
and_end t pending = join_and (xor_end t pending)

abbrev pub or_end : Term → List Pending → Ended
or_end t pending = join_or (and_end t pending)

-- how many brackets and signs `!` are open
abbrev pub nesting : List Pending → ℕ
nesting [] = 0
nesting (Inversion ∷ pending) = nesting pending + 1
nesting (Bracket ∷ pending) = nesting pending + 1
nesting (_ ∷ pending) = nesting pending

-- where a reading stands: an operand must come, or there is one, which may be complete
pub data Mode : Type 0 where
  Expects : List Pending → Mode
  Has : Term → List Pending → Mode

abbrev pub constant : ℕ → List ℕ → Result Term ExprFault
constant at word =
    if bytes_eq word (48 ∷ []) then Ok (Bit false) else (if bytes_eq word (49 ∷ []) then Ok (Bit true) else Err (BadExpr at))

abbrev pub variable : ℕ → Option ℕ → Result Term ExprFault
variable at None = Err (UnknownPin at)
variable at (Some k) = Ok (Input k)

-- the constant or the pin that a word is; the pins have their numbers in order
abbrev pub leaf : List (List ℕ) → ℕ → List ℕ → Result Term ExprFault
leaf pins at word =
    if is_digit (slice_index word 0) then constant at word
    else (if is_letter (slice_index word 0) then variable at (position_from (bytes_eq word) 0 pins) else Err (BadExpr at))

abbrev pub has_leaf : Result Term ExprFault → List Pending → Result Mode ExprFault
has_leaf (Ok t) pending = Ok (Has t pending)
has_leaf (Err fault) pending = Err fault

-- a bracket or a sign `!` opens, and at most 64 of them are open
abbrev pub opened : ℕ → Pending → List Pending → Result Mode ExprFault
opened at opening pending = if nat_lt (nesting pending) MOST_NESTING then Ok (Expects (opening ∷ pending)) else Err (TooDeep at)

-- a token where an operand begins
abbrev pub begin : List (List ℕ) → List Pending → Token → Result Mode ExprFault
begin pins pending token = elim token.kind [
  | Word word ↦ has_leaf (leaf pins token.at word) pending
  | NotSign ↦ opened token.at Inversion pending
  | OpenBracket ↦ opened token.at Bracket pending
  | _ ↦ Err (BadExpr token.at)
]

-- a bracket closes where one is open
abbrev pub closed : ℕ → Ended → Result Mode ExprFault
closed at e = elim e.pending [ Bracket ∷ pending ↦ Ok (Has e.term pending) | _ ↦ Err (BadExpr at) ]

-- a token behind an operand; one that begins an operand makes the two an and
abbrev pub go_on : List (List ℕ) → Term → List Pending → Token → Result Mode ExprFault
go_on pins t pending token = elim token.kind [
  | PrimeSign ↦ Ok (Has (Inverse t) pending)
  | XorSign ↦ Ok (Expects (XorLeft (xor_end t pending).term ∷ (xor_end t pending).pending))
  | AndSign ↦ Ok (Expects (AndLeft (and_end t pending).term ∷ (and_end t pending).pending))
  | OrSign ↦ Ok (Expects (OrLeft (or_end t pending).term ∷ (or_end t pending).pending))
  | CloseBracket ↦ closed token.at (or_end t pending)
  | Other ↦ Err (BadExpr token.at)
  | _ ↦ begin pins (AndLeft (and_end t pending).term ∷ (and_end t pending).pending) token
]

abbrev pub step : List (List ℕ) → Mode → Token → Result Mode ExprFault
step pins (Expects pending) token = begin pins pending token
step pins (Has t pending) token = go_on pins t pending token

-- the whole expression ends where nothing waits
abbrev pub complete : ℕ → Ended → Result Term ExprFault
complete end e = elim e.pending [ [] ↦ Ok e.term | _ ↦ Err (BadExpr end) ]

abbrev pub finish : ℕ → Mode → Result Term ExprFault
finish end (Expects pending) = Err (BadExpr end)
finish end (Has t pending) = complete end (or_end t pending)

-- a token after a reading so far; the first fault stays
abbrev pub after : List (List ℕ) → Result Mode ExprFault → Token → Result Mode ExprFault
after pins (Ok mode) token = step pins mode token
after pins (Err fault) token = Err fault

abbrev pub at_end : ℕ → Result Mode ExprFault → Result Term ExprFault
at_end end (Ok mode) = finish end mode
at_end end (Err fault) = Err fault

-- the term that the tokens lead to, or the first fault from the left
abbrev pub read_on : List (List ℕ) → ℕ → Result Mode ExprFault → List Token → Result Term ExprFault
read_on pins end reading [] = at_end end reading
read_on pins end reading (token ∷ tokens) = read_on pins end (after pins reading token) tokens

-- the term that a text stands for over these pins, or its first fault from the left
abbrev pub read_text : List (List ℕ) → List ℕ → Result Term ExprFault
read_text pins text = read_on pins (length text) (Ok (Expects [])) (tokens_from false 0 text)

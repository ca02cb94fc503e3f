-- What reading functions answer.
use Rattle.std.specs.Prelude.{◌≡◌, ℕ, Bool, true, false, List, [], ◌∷◌, Result, Ok, Err}
use Rattle.cg_verilog_text.specs.Items.{line_of}
use Rattle.cg_verilog_text.specs.Reading.{Read, Got, Stuck}
use Rattle.cg_verilog_text.specs.Tokens.{Token}
use Rattle.cg_verilog_expression.specs.declared.stop.Stop.{Stop}
use Rattle.cg_verilog_expression.specs.declared.stop.Stop.TheVariants.{At, NoMemory}

-- whether no token is left
abbrev pub is_over : List Token → Bool
is_over [] = true
is_over (token ∷ later) = false

-- the bytes of the next token
abbrev pub next_text : List Token → List ℕ
next_text [] = []
next_text (token ∷ later) = token.text

-- it stopped at the line of the first token that is not allowed, or memory was wanting
pub record StopsAt {A : Type 0} (end : ℕ) (read : Read A) (line : ℕ) : Type 0 where
  pub left : List Token
  pub stuck : read ≡ Stuck left
  pub line_is : line ≡ line_of end left

abbrev pub Stops : {A : Type 0} → ℕ → Read A → Stop → Type 0
Stops end read (At line) = StopsAt end read line
Stops end read NoMemory = Unit {0}

-- something was read, and these tokens are left
abbrev pub IsRead : {A : Type 0} → ℕ → Read A → List Token → Result A Stop → Type 0
IsRead end read left (Ok a) = read ≡ Got a left
IsRead end read left (Err stop) = Stops end read stop

-- a token was read whose text does not matter
abbrev pub IsPassed : ℕ → Read (List ℕ) → List Token → Result (Unit {0}) Stop → Type 0
IsPassed end read left (Ok done) = (text : List ℕ) × (read ≡ Got text left)
IsPassed end read left (Err stop) = Stops end read stop

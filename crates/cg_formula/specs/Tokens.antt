-- The words of clauses, in DIMACS and in LRAT.
use Rattle.std.specs.Prelude.{ℕ, ◌==◌, ◌&&◌, Bool, true, false, List, [], ◌∷◌, if◌then◌else◌, nat_lt, nat_le}
use Rattle.cg_text.specs.declared.number.Number.{Number}
use Rattle.cg_text.specs.declared.number.Number.TheVariants.{Small, Large, Misspelled}
use Rattle.cg_text.specs.Numbers.{number_of}
use Rattle.cg_formula.specs.declared.token.ClauseToken.{ClauseToken}
use Rattle.cg_formula.specs.declared.token.ClauseToken.TheVariants.{Literal, End, Other}

-- a variable is a number from 1 to the greatest
abbrev pub literal_of : Number → ℕ → Bool → ClauseToken
literal_of (Small n) greatest inverted =
    if nat_lt 0 n && nat_le n greatest then Literal (record { variable = n; inverted = inverted }) else Other
literal_of Large greatest inverted = Other
literal_of Misspelled greatest inverted = Other

-- a number without a sign: a zero ends the clause
abbrev pub plain_token : ℕ → Number → ClauseToken
plain_token greatest (Small n) = if n == 0 then End else literal_of (Small n) greatest false
plain_token greatest Large = Other
plain_token greatest Misspelled = Other

-- a word of a clause: a minus before the number inverts the literal
abbrev pub clause_token : ℕ → List ℕ → ClauseToken
clause_token greatest [] = Other
clause_token greatest (x ∷ xs) =
    if x == 45 then literal_of (number_of xs) greatest true else plain_token greatest (number_of (x ∷ xs))

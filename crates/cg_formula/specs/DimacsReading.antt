-- Reading a DIMACS text: the formula, or the first fault.
use Rattle.std.specs.Prelude.{ℕ, ◌&&◌, List, [], ◌∷◌, Result, Ok, Err, codes, if◌then◌else◌, nat_le, zero, suc}
use Rattle.std.specs.Str.{bytes_eq}
use Rattle.cg_limit.specs.declared.TheConstants.{MOST_VARIABLES}
use Rattle.cg_limit.specs.declared.Limit.TheVariants.{Variables}
use Rattle.cg_text.specs.declared.blanks.Blanks.TheVariants.{Whitespace}
use Rattle.cg_text.specs.declared.lines.Comments.TheVariants.{LeadingC}
use Rattle.cg_text.specs.declared.lines.Layout.{Layout}
use Rattle.cg_text.specs.declared.lines.Line.{Line}
use Rattle.cg_text.specs.declared.number.Number.{Number}
use Rattle.cg_text.specs.declared.number.Number.TheVariants.{Small, Large, Misspelled}
use Rattle.cg_text.specs.Numbers.{number_of}
use Rattle.cg_text.specs.Lines.{text_lines, end_line}
use Rattle.cg_text.specs.Spots.{Spot, spots_of}
use Rattle.cg_formula.specs.declared.formula.Lit.{Lit}
use Rattle.cg_formula.specs.declared.formula.Clause.{Clause}
use Rattle.cg_formula.specs.declared.formula.Formula.{Formula}
use Rattle.cg_formula.specs.declared.token.ClauseToken.{ClauseToken}
use Rattle.cg_formula.specs.declared.token.ClauseToken.TheVariants as tokens
use Rattle.cg_formula.specs.declared.dimacs.Header.{Header}
use Rattle.cg_formula.specs.declared.dimacs.DimacsFault.{DimacsFault}
use Rattle.cg_formula.specs.declared.dimacs.DimacsFault.TheVariants.{BadHeader, BadClause, Limit}
use Rattle.cg_formula.specs.Tokens.{clause_token}

-- lines that begin with `c` are comments; white space separates words
abbrev pub layout : Layout
layout = record { blanks = Whitespace; comments = LeadingC }

-- what reading goes on with, or the first fault
infixl 10 ◌>>=◌
abbrev pub ◌>>=◌ : {A B : Type 0} → Result A DimacsFault → (A → Result B DimacsFault) → Result B DimacsFault
(Ok x) >>= f = f x
(Err e) >>= f = Err e

-- how many variables and clauses the header names
abbrev pub counts_of : Number → Number → Result Header DimacsFault
counts_of Misspelled clauses = Err BadHeader
counts_of (Small n) Misspelled = Err BadHeader
counts_of (Small n) Large = Err BadHeader
counts_of (Small n) (Small m) =
    if nat_le n MOST_VARIABLES then Ok (record { variables = n; clauses = m }) else Err (Limit Variables)
counts_of Large Misspelled = Err BadHeader
counts_of Large Large = Err BadHeader
counts_of Large (Small m) = Err (Limit Variables)

-- the first line with words: `p cnf`, and the two numbers
abbrev pub header_of : List (List ℕ) → Result Header DimacsFault
header_of [] = Err BadHeader
header_of (p ∷ []) = Err BadHeader
header_of (p ∷ cnf ∷ []) = Err BadHeader
header_of (p ∷ cnf ∷ v ∷ []) = Err BadHeader
header_of (p ∷ cnf ∷ v ∷ c ∷ []) =
    if bytes_eq p (codes "p") && bytes_eq cnf (codes "cnf") then counts_of (number_of v) (number_of c) else Err BadHeader
header_of (p ∷ cnf ∷ v ∷ c ∷ w ∷ ws) = Err BadHeader

-- a word of a clause, before the rest of the clause and the words behind it
abbrev pub put_token : ClauseToken → ℕ → List Spot → Result (List Lit × List Spot) DimacsFault →
    Result (List Lit × List Spot) DimacsFault
put_token (tokens.Literal lit) line after later = later >>= λ r. Ok (lit ∷ r.0, r.1)
put_token tokens.End line after later = Ok ([], after)
put_token tokens.Other line after later = Err (BadClause line)

-- the literals of the next clause, and the words behind it; end is the line behind the last
abbrev pub clause_at : ℕ → ℕ → List Spot → Result (List Lit × List Spot) DimacsFault
clause_at variables end [] = Err (BadClause end)
clause_at variables end (w ∷ ws) = put_token (clause_token variables w.text) w.line ws (clause_at variables end ws)

-- so many clauses, and no word behind them
abbrev pub clauses_at : ℕ → ℕ → ℕ → List Spot → Result (List Clause) DimacsFault
clauses_at variables end zero [] = Ok []
clauses_at variables end zero (w ∷ ws) = Err (BadClause w.line)
clauses_at variables end (suc n) ws =
    clause_at variables end ws >>= λ c. clauses_at variables end n c.1 >>= λ cs. Ok (record { lits = c.0 } ∷ cs)

abbrev pub formula_at : ℕ → List Line → Result Formula DimacsFault
formula_at end [] = Err BadHeader
formula_at end (first ∷ later) =
    header_of first.words >>= λ h. clauses_at h.variables end h.clauses (spots_of later) >>= λ cs.
    Ok (record { variables = h.variables; clauses = cs })

-- the formula that a DIMACS text stands for, or its first fault
abbrev pub dimacs : List ℕ → Result Formula DimacsFault
dimacs text = formula_at (end_line text) (text_lines layout text)

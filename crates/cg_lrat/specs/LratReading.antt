-- Reading an LRAT text: the log, or the first bad line.
use Rattle.std.specs.Prelude.{ℕ, List, [], ◌∷◌, Result, Ok, Err, Option, Some, None, codes, if◌then◌else◌}
use Rattle.std.specs.Str.{bytes_eq}
use Rattle.cg_text.specs.declared.lines.Line.{Line}
use Rattle.cg_text.specs.Lines.{text_lines}
use Rattle.cg_formula.specs.declared.formula.Lit.{Lit}
use Rattle.cg_formula.specs.declared.token.ClauseToken.{ClauseToken}
use Rattle.cg_formula.specs.declared.token.ClauseToken.TheVariants as tokens
use Rattle.cg_lrat.specs.declared.id.IdToken.{IdToken}
use Rattle.cg_lrat.specs.declared.id.IdToken.TheVariants as ids
use Rattle.cg_lrat.specs.declared.log.Body.{Body}
use Rattle.cg_lrat.specs.declared.log.Body.TheVariants.{Add, Delete}
use Rattle.cg_lrat.specs.declared.log.Step.{Step}
use Rattle.cg_lrat.specs.declared.log.Log.{Log}
use Rattle.cg_lrat.specs.declared.lrat.TheConstants.{GREATEST_VARIABLE}
use Rattle.cg_lrat.specs.declared.lrat.LratFault.{LratFault}
use Rattle.cg_lrat.specs.declared.lrat.LratFault.TheVariants.{BadLine}
use Rattle.cg_formula.specs.Tokens.{clause_token}
use Rattle.cg_lrat.specs.Ids.{id_token}
use Rattle.cg_formula.specs.DimacsReading.{layout}

-- what reading goes on with, or the first fault
infixl 10 ◌>>=◌
abbrev pub ◌>>=◌ : {A B : Type 0} → Result A LratFault → (A → Result B LratFault) → Result B LratFault
(Ok x) >>= f = f x
(Err e) >>= f = Err e

-- a word of a clause, before the rest of the clause and the words behind it
abbrev pub put_token : ℕ → ClauseToken → List (List ℕ) → Result (List Lit × List (List ℕ)) LratFault
    → Result (List Lit × List (List ℕ)) LratFault
put_token line (tokens.Literal lit) after later = later >>= λ r. Ok (lit ∷ r.0, r.1)
put_token line tokens.End after later = Ok ([], after)
put_token line tokens.Other after later = Err (BadLine line)

-- the literals up to a zero, and the words behind it
abbrev pub lits_at : ℕ → List (List ℕ) → Result (List Lit × List (List ℕ)) LratFault
lits_at line [] = Err (BadLine line)
lits_at line (w ∷ ws) = put_token line (clause_token GREATEST_VARIABLE w) ws (lits_at line ws)

-- a word among ids, before the ids behind it; with the zero the line ends
abbrev pub put_id : ℕ → IdToken → List (List ℕ) → Result (List ℕ) LratFault → Result (List ℕ) LratFault
put_id line (ids.Id id) after later = later >>= λ r. Ok (id ∷ r)
put_id line ids.End [] later = Ok []
put_id line ids.End (w ∷ ws) later = Err (BadLine line)
put_id line ids.Other after later = Err (BadLine line)

-- the ids up to the zero that ends the line
abbrev pub ids_at : ℕ → List (List ℕ) → Result (List ℕ) LratFault
ids_at line [] = Err (BadLine line)
ids_at line (w ∷ ws) = put_id line (id_token w) ws (ids_at line ws)

-- what an addition adds: literals, a zero, hints, a zero
abbrev pub addition_of : ℕ → List (List ℕ) → Result Body LratFault
addition_of line ws = lits_at line ws >>= λ c. ids_at line c.1 >>= λ hints. Ok (Add (record { lits = c.0 }) hints)

-- the words behind the `d` of a deletion
abbrev pub deletion_of : List (List ℕ) → Option (List (List ℕ))
deletion_of [] = None
deletion_of (w ∷ ws) = if bytes_eq w (codes "d") then Some ws else None

abbrev pub body_of : ℕ → Option (List (List ℕ)) → List (List ℕ) → Result Body LratFault
body_of line (Some deleted) ws = ids_at line deleted >>= λ ids. Ok (Delete ids)
body_of line None ws = addition_of line ws

-- a step with the id that its line begins with
abbrev pub step_at : ℕ → IdToken → List (List ℕ) → Result Step LratFault
step_at line (ids.Id id) ws = body_of line (deletion_of ws) ws >>= λ body. Ok (record { line = line; id = id; body = body })
step_at line ids.End ws = Err (BadLine line)
step_at line ids.Other ws = Err (BadLine line)

abbrev pub words_step : ℕ → List (List ℕ) → Result Step LratFault
words_step line [] = Err (BadLine line)
words_step line (w ∷ ws) = step_at line (id_token w) ws

-- what a line says
abbrev pub step_of : Line → Result Step LratFault
step_of line = words_step line.number line.words

abbrev pub steps_of : List Line → Result (List Step) LratFault
steps_of [] = Ok []
steps_of (line ∷ later) = step_of line >>= λ step. steps_of later >>= λ steps. Ok (step ∷ steps)

-- the log that an LRAT text stands for, or its first bad line
abbrev pub lrat : List ℕ → Result Log LratFault
lrat text = steps_of (text_lines layout text) >>= λ steps. Ok (record { steps = steps })

-- The LRAT texts of a log, said of their lines (LRAT as in the DRAT-trim tools, without hints that are negative).
use Rattle.std.specs.Prelude.{◌≡◌, ℕ, ◌+◌, List, [], ◌∷◌, ◌++◌, map, codes}
use Rattle.std.specs.Fmt.{decimal}
use Rattle.cg_text.specs.declared.lines.Line.{Line}
use Rattle.cg_text.specs.Lines.{text_lines}
use Rattle.cg_text.specs.Written.{text_of}
use Rattle.cg_lrat.specs.declared.log.Body.{Body}
use Rattle.cg_lrat.specs.declared.log.Body.TheVariants.{Add, Delete}
use Rattle.cg_lrat.specs.declared.log.Step.{Step}
use Rattle.cg_lrat.specs.declared.log.Log.{Log}
use Rattle.cg_lrat.specs.Bounds.{IsLog}
use Rattle.cg_formula.specs.DimacsReading.{layout}
use Rattle.cg_formula.specs.DimacsText.{clause_words}

-- ids and a zero
abbrev pub id_words : List ℕ → List (List ℕ)
id_words ids = map decimal ids ++ codes "0" ∷ []

-- an addition has its clause and its hints, a deletion a `d` and its ids
abbrev pub body_words : Body → List (List ℕ)
body_words (Add clause hints) = clause_words clause ++ id_words hints
body_words (Delete ids) = codes "d" ∷ id_words ids

abbrev pub step_words : Step → List (List ℕ)
step_words step = decimal step.id ∷ body_words step.body

abbrev pub step_line : Step → Line
step_line step = record { number = step.line; words = step_words step }

-- the text stands for the log: its lines that have words are those of the steps, in order
pub record LratText (text : List ℕ) (log : Log) : Type 0 where
  pub lines : text_lines layout text ≡ map step_line log.steps
  pub bounds : IsLog log

-- the text as it is written: a line for each step
abbrev pub lrat_text : Log → List ℕ
lrat_text log = text_of (map step_words log.steps)

-- the same steps, on the lines from this one on
abbrev pub counted_from : ℕ → List Step → List Step
counted_from line [] = []
counted_from line (step ∷ later) = record { line = line; id = step.id; body = step.body } ∷ counted_from (line + 1) later

-- a log with its lines counted from 1
abbrev pub counted : Log → Log
counted log = record { steps = counted_from 1 log.steps }

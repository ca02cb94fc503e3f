-- What is written is in the grammar of LRAT.
use Rattle.std.proofs.Common.{◌≡◌, ℕ, ◌+◌, ◌-◌, ◌^◌, ◌<◌, List, [], ◌∷◌, length, length-append, map, codes, lit<, refl, ap, ◌∙◌}
use Rattle.std.proofs.Common.{arith}
use Rattle.std.specs.Fmt.{decimal}
use Rattle.std.specs.List.{AllByRecursion}
use Rattle.cg_text.specs.declared.blanks.Blanks.TheVariants.{Whitespace}
use Rattle.cg_text.specs.Written.{IsWord, IsLine, numbered}
use Rattle.cg_text.proofs.Spelling.{decimal_word}
use Rattle.cg_text.proofs.Written.{text_lines-text}
use Rattle.cg_lrat.specs.declared.log.Body.{Body}
use Rattle.cg_lrat.specs.declared.log.Body.TheVariants.{Add, Delete}
use Rattle.cg_lrat.specs.declared.log.Step.{Step}
use Rattle.cg_lrat.specs.declared.log.Log.{Log}
use Rattle.cg_lrat.specs.Bounds.{IsId, IsBody, IsStep, IsLog}
use Rattle.cg_formula.specs.DimacsReading.{layout}
use Rattle.cg_formula.specs.DimacsText.{lit_word, clause_words}
use Rattle.cg_lrat.specs.LratText.{id_words, body_words, step_words, step_line, LratText, lrat_text, counted_from, counted}
use Rattle.cg_formula.proofs.Pushed.{some_words}
use Rattle.cg_formula.proofs.DimacsWritten.{zero_is_word, words_append, decimal_first, clause_are_words, line_of}

ids_are_words : (list : List ℕ) → AllByRecursion IsId list → AllByRecursion (IsWord Whitespace) (map decimal list)
ids_are_words [] bounds = tt
ids_are_words (id ∷ later) bounds = (decimal_word Whitespace id (omega (arith, (bounds.0).within)), ids_are_words later bounds.1)

id_are_words : (list : List ℕ) → AllByRecursion IsId list → AllByRecursion (IsWord Whitespace) (id_words list)
id_are_words list bounds = words_append (map decimal list) (codes "0" ∷ []) (ids_are_words list bounds) (zero_is_word, tt)

step_are_words : (body : Body) → IsBody body → AllByRecursion (IsWord Whitespace) (body_words body)
step_are_words (Add clause hints) bounds =
    words_append (clause_words clause) (id_words hints) (clause_are_words (2 ^ 31 - 1) (lit< tt) clause bounds.0)
    (id_are_words hints bounds.1)
step_are_words (Delete list) bounds = (record { full = lit< tt; whole = (refl, tt) }, id_are_words list bounds)

step_lines : (steps : List Step) → AllByRecursion IsStep steps → AllByRecursion (IsLine layout) (map step_words steps)
step_lines [] bounds = tt
step_lines (step ∷ later) bounds =
    (line_of (decimal step.id) (body_words step.body) (decimal_first step.id (omega (arith, ((bounds.0).id).within))) (step_are_words step.body (bounds.0).body), step_lines later bounds.1)

counted_lines : (number : ℕ) (steps : List Step) → numbered number (map step_words steps) ≡ map step_line (counted_from number steps)
counted_lines number [] = refl
counted_lines number (step ∷ later) = ap (λ ls. record { number = number; words = step_words step } ∷ ls) (counted_lines (number + 1) later)

counted_bounds : (number : ℕ) (steps : List Step) → AllByRecursion IsStep steps → AllByRecursion IsStep (counted_from number steps)
counted_bounds number [] bounds = tt
counted_bounds number (step ∷ later) bounds =
    (record { id = (bounds.0).id; body = (bounds.0).body }, counted_bounds (number + 1) later bounds.1)

pub lrat_written : (log : Log) → IsLog log → LratText (lrat_text log) (counted log)
lrat_written log bounds = record {
  lines = text_lines-text layout (map step_words log.steps) (step_lines log.steps bounds) ∙ counted_lines 1 log.steps;
  bounds = counted_bounds 1 log.steps bounds;
}

-- a body has words
pub some_body : (body : Body) → 0 < length (body_words body)
some_body (Add clause hints) = rw length-append (omega (arith, some_words (map lit_word clause.lits) (codes "0")))
some_body (Delete ids) = omega arith

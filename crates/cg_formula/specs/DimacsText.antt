-- The DIMACS texts of a formula, said of their words (the DIMACS challenge's CNF format).
use Rattle.std.specs.Prelude.{◌≡◌, ℕ, ◌<◌, ◌^◌, List, [], ◌∷◌, ◌++◌, length, map, codes, if◌then◌else◌}
use Rattle.std.specs.List.{flat_map}
use Rattle.std.specs.Fmt.{decimal}
use Rattle.cg_text.specs.declared.lines.Line.{Line}
use Rattle.cg_text.specs.Lines.{text_lines}
use Rattle.cg_text.specs.Spots.{spots_of, texts_of}
use Rattle.cg_text.specs.Written.{text_of}
use Rattle.cg_formula.specs.declared.formula.Lit.{Lit}
use Rattle.cg_formula.specs.declared.formula.Clause.{Clause}
use Rattle.cg_formula.specs.declared.formula.Formula.{Formula}
use Rattle.cg_formula.specs.Bounds.{IsFormula}
use Rattle.cg_formula.specs.DimacsReading.{layout}

-- the word of a literal: its variable, behind a minus where it is inverted
abbrev pub lit_word : Lit → List ℕ
lit_word lit = if lit.inverted then 45 ∷ decimal lit.variable else decimal lit.variable

-- the words of a clause: its literals and a zero
abbrev pub clause_words : Clause → List (List ℕ)
clause_words clause = map lit_word clause.lits ++ codes "0" ∷ []

-- the words of the header that names so many variables and clauses
abbrev pub header_words : ℕ → ℕ → List (List ℕ)
header_words variables clauses = codes "p" ∷ codes "cnf" ∷ decimal variables ∷ decimal clauses ∷ []

-- the text stands for the formula: its first line that has words is the header, and the words behind it, however they
-- are put into lines, are those of the clauses
pub record DimacsText (text : List ℕ) (formula : Formula) : Type 0 where
  pub later : List Line
  pub number : ℕ
  pub lines : text_lines layout text ≡ record { number = number; words = header_words formula.variables (length formula.clauses) }
      ∷ later
  pub body : texts_of (spots_of later) ≡ flat_map clause_words formula.clauses
  pub bounds : IsFormula formula
  pub countable : length formula.clauses < 2 ^ 64

-- the text as it is written: the header, and a line for each clause
abbrev pub dimacs_text : Formula → List ℕ
dimacs_text formula = text_of (header_words formula.variables (length formula.clauses) ∷ map clause_words formula.clauses)

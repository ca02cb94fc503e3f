-- What is written is in the grammar of DIMACS.
use Rattle.std.proofs.Common.{◌≡◌, ℕ, ◌^◌, ◌<◌, Bool, true, false, List, [], ◌∷◌, ◌++◌, length, map, get_or, codes, inr, lit<, refl}
use Rattle.std.proofs.Common.{arith}
use Rattle.std.specs.Fmt.{decimal}
use Rattle.std.specs.List.{AllByRecursion}
use Rattle.cg_text.specs.declared.blanks.Blanks.TheVariants.{Whitespace}
use Rattle.cg_text.specs.Written.{IsWord, IsLine, numbered}
use Rattle.cg_text.proofs.Spelling.{decimal_word}
use Rattle.cg_text.proofs.Written.{text_lines-text, not_comment, texts_of-numbered}
use Rattle.cg_formula.specs.declared.formula.Lit.{Lit}
use Rattle.cg_formula.specs.declared.formula.Clause.{Clause}
use Rattle.cg_formula.specs.declared.formula.Formula.{Formula}
use Rattle.cg_formula.specs.Bounds.{IsLit, IsClause, IsFormula}
use Rattle.cg_formula.specs.DimacsReading.{layout}
use Rattle.cg_formula.specs.DimacsText.{lit_word, clause_words, header_words, DimacsText, dimacs_text}
use Rattle.cg_formula.proofs.TokenSpelling.{first_digit}

-- words

pub zero_is_word : IsWord Whitespace (codes "0")
zero_is_word = record { full = lit< tt; whole = (refl, tt) }

pub words_append : (ws vs : List (List ℕ)) → AllByRecursion (IsWord Whitespace) ws → AllByRecursion (IsWord Whitespace) vs
    → AllByRecursion (IsWord Whitespace) (ws ++ vs)
words_append [] vs a b = b
words_append (w ∷ ws) vs a b = (a.0, words_append ws vs a.1 b)

-- a word, and no first byte of a comment
pub record IsFirst (word : List ℕ) : Type 0 where
  pub is_word : IsWord Whitespace word
  pub other : get_or word 0 0 ≡ 99 → ⊥

pub decimal_first : (n : ℕ) → n < 2 ^ 64 → IsFirst (decimal n)
decimal_first n small = record { is_word = decimal_word Whitespace n small; other = first_digit 99 (inr (lit< tt)) n small }

lit_first : (greatest : ℕ) → greatest < 2 ^ 32 → (lit : Lit) → IsLit greatest lit → IsFirst (lit_word lit)
lit_first greatest few lit bounds = pick lit.inverted refl where
  small : lit.variable < 2 ^ 64
  small = omega (arith, few, bounds.within)

  minus : (digits : List ℕ) → IsWord Whitespace digits → IsFirst (45 ∷ digits)
  minus digits w = record { is_word = record { full = omega arith; whole = (refl, w.whole) }; other = λ e. omega (arith, e) }

  pick : (b : Bool) → lit.inverted ≡ b → IsFirst (lit_word lit)
  pick true f = rw f (minus (decimal lit.variable) (decimal_word Whitespace lit.variable small))
  pick false f = rw f (decimal_first lit.variable small)

lits_are_words : (greatest : ℕ) → greatest < 2 ^ 32 → (lits : List Lit) → AllByRecursion (IsLit greatest) lits
    → AllByRecursion (IsWord Whitespace) (map lit_word lits)
lits_are_words greatest few [] bounds = tt
lits_are_words greatest few (lit ∷ lits) bounds = ((lit_first greatest few lit bounds.0).is_word, lits_are_words greatest few lits bounds.1)

pub clause_are_words : (greatest : ℕ) → greatest < 2 ^ 32 → (clause : Clause) → IsClause greatest clause
    → AllByRecursion (IsWord Whitespace) (clause_words clause)
clause_are_words greatest few clause bounds =
    words_append (map lit_word clause.lits) (codes "0" ∷ []) (lits_are_words greatest few clause.lits bounds) (zero_is_word, tt)

-- a line whose first word begins no comment is read
pub line_of : (w : List ℕ) (ws : List (List ℕ)) → IsFirst w → AllByRecursion (IsWord Whitespace) ws → IsLine layout (w ∷ ws)
line_of w ws first later =
    record { some = omega arith; words = (first.is_word, later); read = not_comment w ws (first.is_word).full first.other }

-- DIMACS

header_line : (variables clauses : ℕ) → variables < 2 ^ 64 → clauses < 2 ^ 64 → IsLine layout (header_words variables clauses)
header_line variables clauses few countable =
    line_of (codes "p") (codes "cnf" ∷ decimal variables ∷ decimal clauses ∷ [])
    (record { is_word = record { full = lit< tt; whole = (refl, tt) }; other = λ e. omega (arith, e) })
    (record { full = lit< tt; whole = (refl, (refl, (refl, tt))) }, (decimal_word Whitespace variables few, (decimal_word Whitespace clauses countable, tt)))

zero_first : IsFirst (codes "0")
zero_first = record { is_word = zero_is_word; other = λ e. omega (arith, e) }

clause_line : (greatest : ℕ) → greatest < 2 ^ 32 → (lits : List Lit) → AllByRecursion (IsLit greatest) lits
    → IsLine layout (map lit_word lits ++ codes "0" ∷ [])
clause_line greatest few [] bounds = line_of (codes "0") [] zero_first tt
clause_line greatest few (lit ∷ lits) bounds =
    line_of (lit_word lit) (map lit_word lits ++ codes "0" ∷ []) (lit_first greatest few lit bounds.0)
    (words_append (map lit_word lits) (codes "0" ∷ []) (lits_are_words greatest few lits bounds.1) (zero_is_word, tt))

clause_lines : (greatest : ℕ) → greatest < 2 ^ 32 → (clauses : List Clause) → AllByRecursion (IsClause greatest) clauses
    → AllByRecursion (IsLine layout) (map clause_words clauses)
clause_lines greatest few [] bounds = tt
clause_lines greatest few (c ∷ cs) bounds = (clause_line greatest few c.lits bounds.0, clause_lines greatest few cs bounds.1)

pub dimacs_written : (formula : Formula) → IsFormula formula → length formula.clauses < 2 ^ 64 → DimacsText (dimacs_text formula) formula
dimacs_written formula bounds countable =
    let few : formula.variables < 2 ^ 32 = omega (arith, bounds.few) in
    let header = header_line formula.variables (length formula.clauses) (omega (arith, bounds.few)) countable in
    record {
      later = numbered 2 (map clause_words formula.clauses);
      number = 1;
      lines =
          text_lines-text layout (header_words formula.variables (length formula.clauses) ∷ map clause_words formula.clauses)
          (header, clause_lines formula.variables few formula.clauses bounds.clauses);
      body = texts_of-numbered clause_words 2 formula.clauses;
      bounds = bounds;
      countable = countable;
    }

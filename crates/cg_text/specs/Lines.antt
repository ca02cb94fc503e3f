-- Lines of words with their numbers.
use Rattle.std.specs.Prelude.{ℕ, Bool, ◌+◌, ◌==◌, List, [], ◌∷◌, length, if◌then◌else◌}
use Rattle.std.specs.List.{before_first}
use Rattle.cg_text.specs.declared.lines.Comments.{Comments}
use Rattle.cg_text.specs.declared.lines.Comments.TheVariants.{Never, LeadingC, FromHash}
use Rattle.cg_text.specs.declared.lines.Layout.{Layout}
use Rattle.cg_text.specs.declared.lines.Line.{Line}
use Rattle.cg_text.specs.Words.{words, lines}

abbrev pub is_hash : ℕ → Bool
is_hash b = b == 35

-- what of a physical line is read, comments left out
abbrev pub read_part : Comments → List ℕ → List ℕ
read_part Never line = line
read_part LeadingC [] = []
read_part LeadingC (x ∷ xs) = if x == 99 then [] else x ∷ xs
read_part FromHash line = before_first is_hash line

abbrev pub words_of_line : Layout → List ℕ → List (List ℕ)
words_of_line layout line = words layout.blanks (read_part layout.comments line)

-- a line of these words before later ones; a line without words is left out
abbrev pub put_line : ℕ → List (List ℕ) → List Line → List Line
put_line number ws later = if length ws == 0 then later else record { number = number; words = ws } ∷ later

-- the lines that have words, the first physical line having this number
abbrev pub kept_lines : Layout → ℕ → List (List ℕ) → List Line
kept_lines layout number [] = []
kept_lines layout number (line ∷ later) = put_line number (words_of_line layout line) (kept_lines layout (number + 1) later)

-- the lines of a text that have words, numbered from 1
abbrev pub text_lines : Layout → List ℕ → List Line
text_lines layout text = kept_lines layout 1 (lines text)

-- the number of the line behind the last
abbrev pub end_line : List ℕ → ℕ
end_line text = 1 + length (lines text)

-- what a reader of lines has left: lines, and the number of the line behind the last
pub record Rest : Type 0 where
  pub left : List Line
  pub end : ℕ

-- The logical lines of a text: physical lines without their comments, joined where one ends in `\`.
use Rattle.std.specs.Prelude.{ℕ, ◌+◌, ◌-◌, Bool, false, ◌==◌, ◌||◌, if◌then◌else◌, List, [], ◌∷◌, ◌++◌, length, take, reverse}
use Rattle.std.specs.Prelude.{slice_get}
use Rattle.std.specs.List.{before_first}
use Rattle.std.specs.Option.{option_map_or}
use Rattle.cg_text.specs.Lines.{put_line}
use Rattle.cg_text.specs.Words.{lines, words}
use Rattle.cg_text.specs.declared.blanks.Blanks.TheVariants.{Controls}
use Rattle.cg_text.specs.declared.lines.Line.{Line}

-- bytes without the spaces, tabs and carriage returns at their front
abbrev pub without_front : List ℕ → List ℕ
without_front [] = []
without_front (b ∷ bs) = if b == 32 || b == 9 || b == 13 then without_front bs else b ∷ bs

-- a physical line without its comment, which begins at `#`, and without the blanks that then stand at its end
abbrev pub bared : List ℕ → List ℕ
bared line = reverse (without_front (reverse (before_first (λ b. b == 35) line)))

-- whether a line is joined with the next one: its last byte is `\`
abbrev pub is_joined : List ℕ → Bool
is_joined line = option_map_or (λ b. b == 92) (slice_get line (length line - 1)) false

-- a logical line: the number of its first physical line, and its bytes
pub record Logical : Type 0 where
  pub number : ℕ
  pub bytes : List ℕ

-- the front of a line that is joined, and the lines behind it: a space stands in the place of the `\`, and a join at the
-- end of the text joins nothing
abbrev pub joined : ℕ → List ℕ → List Logical → List Logical
joined number front [] = record { number = number; bytes = front } ∷ []
joined number front (next ∷ later) = record { number = number; bytes = front ++ 32 ∷ next.bytes } ∷ later

abbrev pub put_bared : ℕ → List ℕ → List Logical → List Logical
put_bared number line later =
    if is_joined line then joined number (take (length line - 1) line) later else record { number = number; bytes = line } ∷ later

-- physical lines as logical lines, the first of them having this number
abbrev pub logical_lines : ℕ → List (List ℕ) → List Logical
logical_lines number [] = []
logical_lines number (line ∷ later) = put_bared number (bared line) (logical_lines (number + 1) later)

-- the words of logical lines; every byte up to the space stands between words, and lines without words are left out
abbrev pub word_lines : List Logical → List Line
word_lines [] = []
word_lines (line ∷ later) = put_line line.number (words Controls line.bytes) (word_lines later)

-- the logical lines of a text that have words; physical lines are counted from 1
abbrev pub text_lines : List ℕ → List Line
text_lines text = word_lines (logical_lines 1 (lines text))

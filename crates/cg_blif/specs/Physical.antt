-- The physical lines of a text as a reader takes them.
use Rattle.std.specs.Prelude.{ℕ, ◌-◌, Bool, ◌==◌, ◌||◌, not, if◌then◌else◌, List, length, take, reverse}
use Rattle.cg_blif_text.specs.LogicalLines.{is_joined, without_front}

-- the number of the next line, and the lines that are left
pub record LinesLeft : Type 0 where
  pub number : ℕ
  pub left : List (List ℕ)

abbrev pub is_trailing : ℕ → Bool
is_trailing b = b == 32 || b == 9 || b == 13

-- a line without the blanks at its end
abbrev pub without_end : List ℕ → List ℕ
without_end line = reverse (without_front (reverse line))

-- a line without the `\` that joins it
abbrev pub unjoined : List ℕ → List ℕ
unjoined line = if is_joined line then take (length line - 1) line else line

-- a byte that is read, since no comment begins with it
abbrev pub is_read : ℕ → Bool
is_read b = not (b == 35)

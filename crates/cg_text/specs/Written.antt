-- Text as it is written: words separated by one space, lines ended by a line feed.
use Rattle.std.specs.Prelude.{◌≡◌, ℕ, ◌+◌, ◌<◌, false, List, [], ◌∷◌, ◌++◌, length}
use Rattle.std.specs.List.{flat_map, AllByRecursion}
use Rattle.cg_text.specs.declared.blanks.Blanks.{Blanks}
use Rattle.cg_text.specs.declared.lines.Layout.{Layout}
use Rattle.cg_text.specs.declared.lines.Line.{Line}
use Rattle.cg_text.specs.Blanks.{is_blank}
use Rattle.cg_text.specs.Lines.{read_part}

-- words with one space between each two
abbrev pub joined : List (List ℕ) → List ℕ
joined [] = []
joined (w ∷ []) = w
joined (w ∷ v ∷ ws) = w ++ 32 ∷ joined (v ∷ ws)

abbrev pub line_text : List (List ℕ) → List ℕ
line_text ws = joined ws ++ 10 ∷ []

-- the text of lines of words
abbrev pub text_of : List (List (List ℕ)) → List ℕ
text_of ls = flat_map line_text ls

-- the same text without the end of its last line
abbrev pub open_text : List (List (List ℕ)) → List ℕ
open_text [] = []
open_text (ws ∷ []) = joined ws
open_text (ws ∷ vs ∷ later) = joined ws ++ 10 ∷ open_text (vs ∷ later)

-- the bytes are one word: there are some, and none is a blank
pub record IsWord (blanks : Blanks) (word : List ℕ) : Type 0 where
  pub full : 0 < length word
  pub whole : AllByRecursion (λ b. is_blank blanks b ≡ false) word

-- the words make a line that is read: there are some, and the line is no comment
pub record IsLine (layout : Layout) (ws : List (List ℕ)) : Type 0 where
  pub some : 0 < length ws
  pub words : AllByRecursion (IsWord layout.blanks) ws
  pub read : read_part layout.comments (joined ws) ≡ joined ws

-- lines of words, numbered from here on
abbrev pub numbered : ℕ → List (List (List ℕ)) → List Line
numbered number [] = []
numbered number (ws ∷ later) = record { number = number; words = ws } ∷ numbered (number + 1) later

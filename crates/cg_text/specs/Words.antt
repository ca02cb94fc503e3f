-- Text in pieces, and the words of a line.
use Rattle.std.specs.Prelude.{ℕ, Bool, not, cond, List, [], ◌∷◌, length, ◌==◌}
use Rattle.std.specs.List.{filter, onto_first}
use Rattle.cg_text.specs.declared.blanks.Blanks.{Blanks}
use Rattle.cg_text.specs.Blanks.{is_blank, is_line_feed}

-- the pieces of a text, each ended by a byte that passes the test, or by the end of the text; that byte belongs to no piece
abbrev pub pieces : (ℕ → Bool) → List ℕ → List (List ℕ)
pieces ends [] = []
pieces ends (x ∷ xs) = cond (ends x) ([] ∷ pieces ends xs) (onto_first x (pieces ends xs))

abbrev pub is_full : List ℕ → Bool
is_full piece = not (length piece == 0)

-- the words of a line: what stands between blanks
abbrev pub words : Blanks → List ℕ → List (List ℕ)
words blanks line = filter is_full (pieces (is_blank blanks) line)

-- the physical lines of a text: a last line without its line feed counts where it is not empty
abbrev pub lines : List ℕ → List (List ℕ)
lines text = pieces is_line_feed text

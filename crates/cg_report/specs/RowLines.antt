-- What is said of the rows that are played on a netlist.
use Rattle.std.specs.Prelude.{ℕ, ◌+◌, Bool, List, [], ◌∷◌, ◌++◌, codes, decimal, map}
use Rattle.cg_netlist.specs.Circuit.{Circuit}
use Rattle.cg_netlist.specs.History.{Moment, edges}
use Rattle.cg_netlist.specs.Moment.{bit}
use Rattle.cg_stimulus.specs.StimText.{bit_byte}

-- the bits of these outputs as one word, or `-` where there are none
abbrev pub output_word : List ℕ → List Bool → List ℕ
output_word [] nets = codes "-"
output_word (output ∷ outputs) nets = map (λ net. bit_byte (bit nets net)) (output ∷ outputs)

-- a row's line: its number, the outputs at its low moment and the outputs at its high moment
abbrev pub row_line : Circuit → ℕ → Moment → Moment → List ℕ
row_line c number low high =
    decimal number ++ 32 ∷ output_word c.outputs low.nets ++ 32 ∷ output_word c.outputs high.nets ++ 10 ∷ []

-- the lines of the rows of a played history, the first having this number: of each row its two moments; the last moment is of no
-- row
abbrev pub row_lines : Circuit → ℕ → List Moment → List ℕ
row_lines c number [] = []
row_lines c number (last ∷ []) = []
row_lines c number (low ∷ high ∷ history) = row_line c number low high ++ row_lines c (number + 1) history

-- the line of this many edges
abbrev pub edges_line : ℕ → List ℕ
edges_line count = codes "edges " ++ decimal count ++ 10 ∷ []

-- the lines of the rows, and the edges
abbrev pub rows_text : Circuit → List Moment → List ℕ
rows_text c history = row_lines c 1 history ++ edges_line (edges c history)

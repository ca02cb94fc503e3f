-- How a cover is built in a domain: as the term that says it.
use Rattle.std.specs.Prelude.{ℕ, ◌+◌, Bool, true, false, if◌then◌else◌, List, [], ◌∷◌, ◌++◌, ◌&&◌, not, map, Option, None, Some}
use Rattle.cg_cell.specs.Cover.{CoverData}
use Rattle.cg_cell.specs.Term.{Term, Bit, Input, Inverse, Both, Either, join_left, term_value}
use Rattle.cg_cell.specs.Domain.{Ops, Seen}
use Rattle.cg_cell.specs.Build.{Run, build_and, build_not, chain, plain}
use Rattle.cg_cell.specs.Eval.{build_term}

-- A given bit of a row at input k: the input for a 1, and its inverse for a 0.
abbrev pub given_term : ℕ → Bool → Term
given_term k true = Input k
given_term k false = Inverse (Input k)

-- A place of a row: its given bit, and nothing where the place is open.
abbrev pub place_terms : ℕ → Option Bool → List Term
place_terms k None = []
place_terms k (Some bit) = given_term k bit ∷ []

-- The places of a row, counted from k.
abbrev pub given_terms : ℕ → List (Option Bool) → List Term
given_terms k [] = []
given_terms k (place ∷ places) = place_terms k place ++ given_terms (k + 1) places

-- A row is the and of its given bits from the left, beginning with 1.
abbrev pub row_term : List (Option Bool) → Term
row_term row = join_left Both (Bit true) (given_terms 0 row)

-- The or of rows from the left, beginning with 0.
abbrev pub rows_term : List (List (Option Bool)) → Term
rows_term rows = join_left Either (Bit false) (map row_term rows)

-- A cover is the or of its rows, inverted where its value on them is 0.
abbrev pub cover_term : CoverData → Term
cover_term cover = if cover.on then rows_term cover.rows else Inverse (rows_term cover.rows)

-- One more place of a row, joined to those before it.
abbrev pub build_place : Ops → List ℕ → ℕ → Option Bool → ℕ → Seen → Run
build_place o inputs k None a s = plain a s
build_place o inputs k (Some bit) a s = chain (build_term o inputs (given_term k bit) s) (λ b t. build_and o a b t)

abbrev pub place_bit : ℕ → Option Bool → Bool → List Bool → Bool
place_bit k None a bits = a
place_bit k (Some bit) a bits = a && term_value bits (given_term k bit)

-- The value of the rows, inverted where the cover's value on them is 0.
abbrev pub build_on : Ops → Bool → ℕ → Seen → Run
build_on o true a s = plain a s
build_on o false a s = build_not o a s

abbrev pub on_bit : Bool → Bool → Bool
on_bit true a = a
on_bit false a = not a

-- The form that is written of a cover.
use Rattle.std.specs.Prelude.{Bool, true, false, not, if◌then◌else◌, List, [], ◌∷◌, ◌++◌, Option, None, Some}
use Rattle.std.specs.List.{filter_map, fold, list_any}
use Rattle.cg_cell.specs.Cover.{CoverData}
use Rattle.cg_verilog_text.specs.Forms.{Form, Constant, Sum, Literal}
use Rattle.cg_verilog_text.specs.Meaning.{bit_in}

-- the literals of a row: each net that it gives a bit, with this bit
abbrev pub literals_of : {N : Type 0} → List N → List (Option Bool) → List (Literal N)
literals_of [] row = []
literals_of (net ∷ nets) [] = []
literals_of (net ∷ nets) (None ∷ row) = literals_of nets row
literals_of (net ∷ nets) (Some bit ∷ row) = record { net = net; plain = bit } ∷ literals_of nets row

-- One literal more, where the term gives its net this bit or none: a net with its own bit is not given again, and a net with both
-- bits leaves no term.
abbrev pub joined : {N : Type 0} → Literal N → List (Literal N) → Option Bool → Option (List (Literal N))
joined literal term None = Some (term ++ literal ∷ [])
joined literal term (Some true) = if literal.plain then Some term else None
joined literal term (Some false) = if literal.plain then None else Some term

abbrev pub with_literal : {N : Type 0} → (N → N → Bool) → Option (List (Literal N)) → Literal N → Option (List (Literal N))
with_literal same None literal = None
with_literal same (Some term) literal = joined literal term (bit_in same term literal.net)

-- the term of a row: its literals, one after another
abbrev pub term_of : {N : Type 0} → (N → N → Bool) → List N → List (Option Bool) → Option (List (Literal N))
term_of same nets row = fold (with_literal same) (Some []) (literals_of nets row)

-- a sum of terms, or a constant where there is no term, or one that gives no net
abbrev pub is_empty : {A : Type 0} → List A → Bool
is_empty [] = true
is_empty (a ∷ as') = false

abbrev pub sum_or_constant : {N : Type 0} → Bool → List (List (Literal N)) → Form N
sum_or_constant on [] = Constant (not on)
sum_or_constant on (term ∷ terms) = if list_any is_empty (term ∷ terms) then Constant on else Sum on (term ∷ terms)

-- the form of a cover over these nets
abbrev pub form_of : {N : Type 0} → (N → N → Bool) → List N → CoverData → Form N
form_of same nets cover = sum_or_constant cover.on (filter_map (term_of same nets) cover.rows)

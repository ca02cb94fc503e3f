-- Expressions as plain data: each operator with its two operands, as a text with brackets all round writes it.
use Rattle.std.specs.Prelude.{ℕ, zero, suc, Bool, true, false, not, ◌&&◌, ◌||◌, ◌==◌, nat_lt, List, [], ◌∷◌, slice_index_or, Option}
use Rattle.std.specs.Prelude.{Some, None}
use Rattle.cg_cell.specs.Gates.{exclusive_or}

-- a term over numbered inputs
pub data Term : Type 0 where
  Bit : Bool → Term
  Input : ℕ → Term
  Inverse : Term → Term
  Both : Term → Term → Term
  Either : Term → Term → Term
  Differ : Term → Term → Term

-- the value of a term on the bits of its inputs
abbrev pub term_value : List Bool → Term → Bool
term_value bits (Bit bit) = bit
term_value bits (Input k) = slice_index_or bits k false
term_value bits (Inverse t) = not (term_value bits t)
term_value bits (Both s t) = term_value bits s && term_value bits t
term_value bits (Either s t) = term_value bits s || term_value bits t
term_value bits (Differ s t) = exclusive_or (term_value bits s) (term_value bits t)

-- whether every input of a term is below a number
abbrev pub is_within : ℕ → Term → Bool
is_within n (Bit bit) = true
is_within n (Input k) = nat_lt k n
is_within n (Inverse t) = is_within n t
is_within n (Both s t) = is_within n s && is_within n t
is_within n (Either s t) = is_within n s && is_within n t
is_within n (Differ s t) = is_within n s && is_within n t

-- whether an input stands in a term
abbrev pub has_input : ℕ → Term → Bool
has_input k (Bit bit) = false
has_input k (Input j) = j == k
has_input k (Inverse t) = has_input k t
has_input k (Both s t) = has_input k s || has_input k t
has_input k (Either s t) = has_input k s || has_input k t
has_input k (Differ s t) = has_input k s || has_input k t

-- the input of a term that is one input and nothing else
abbrev pub lone_input : Term → Option ℕ
lone_input (Input k) = Some k
lone_input _ = None

-- the input of operands that are one input and nothing else
abbrev pub lone_among : List Term → Option ℕ
lone_among (t ∷ []) = lone_input t
lone_among _ = None

-- a term, inverted as many times as the number says
abbrev pub inverse_times : ℕ → Term → Term
inverse_times zero t = t
inverse_times (suc n) t = Inverse (inverse_times n t)

-- operands joined by an operator from the left
abbrev pub join_left : (Term → Term → Term) → Term → List Term → Term
join_left operator t [] = t
join_left operator t (u ∷ us) = join_left operator (operator t u) us

-- the operands of one level, and what the level is of none
abbrev pub join_all : (Term → Term → Term) → Term → List Term → Term
join_all operator none [] = none
join_all operator none (t ∷ ts) = join_left operator t ts

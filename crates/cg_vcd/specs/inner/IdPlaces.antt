-- How the numbers of ids are kept: those of short ids in a table, those of others in a map.
use Rattle.std.specs.Prelude.{◌≡◌, ℕ, zero, suc, ◌+◌, ◌-◌, ◌*◌, ◌&&◌, Bool, nat_le, nat_lt, List, [], ◌∷◌, length, slice_get, slice_index_or, Option, None, Some, if◌then◌else◌}
use Rattle.std.specs.BTreeMap.{BTreeMap, get}
use Rattle.std.specs.Cmp.Lexicographic.{slice_cmp}
use Rattle.std.specs.List.{list_all}
use Rattle.std.specs.Ordering.{nat_cmp}

-- a byte that is printable, and no blank
abbrev pub is_printable : ℕ → Bool
is_printable b = nat_lt 32 b && nat_lt b 127

-- an id that has a place in the table
abbrev pub is_short : List ℕ → Bool
is_short id = nat_le (length id) 3 && list_all is_printable id

-- its place: the number that its bytes are in base 95, the lowest first
abbrev pub place_of : List ℕ → ℕ
place_of [] = 0
place_of (b ∷ bs) = b - 32 + 95 * place_of bs

-- the digit that a byte is, or 0 where there is none
abbrev pub digit_at : List ℕ → ℕ → ℕ
digit_at id at = slice_index_or id at 32 - 32

-- a number that is kept with one more, so that 0 is none
abbrev pub one_less : ℕ → Option ℕ
one_less zero = None
one_less (suc n) = Some n

abbrev pub number_at : List ℕ → ℕ → Option ℕ
number_at short place = one_less (slice_index_or short place 0)

-- the number of an id
abbrev pub lookup : List ℕ → BTreeMap (List ℕ) ℕ → List ℕ → Option ℕ
lookup short long id = if is_short id then number_at short (place_of id) else get (slice_cmp nat_cmp) long id

-- the number of each id is its place in the list
pub record IsTable (ids : List (List ℕ)) (short : List ℕ) (long : BTreeMap (List ℕ) ℕ) : Type 0 where
  pub finds : (i : ℕ) (id : List ℕ) → slice_get ids i ≡ Some id → lookup short long id ≡ Some i
  pub found : (id : List ℕ) (i : ℕ) → lookup short long id ≡ Some i → slice_get ids i ≡ Some id

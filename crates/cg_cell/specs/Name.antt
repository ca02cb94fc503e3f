-- Names of nets, cells and pins.
use Rattle.std.specs.Prelude.{ℕ, Bool, true, false, ◌&&◌, not, ◌==◌, nat_lt, ◌-◌, List, [], ◌∷◌, length, slice_get, Option, None}
use Rattle.std.specs.Prelude.{Some}
use Rattle.std.specs.List.{list_all, list_any}
use Rattle.std.specs.Str.{bytes_eq}

-- a byte that may stand in a name: no blank, no control byte, and not `#`
abbrev pub is_name_byte : ℕ → Bool
is_name_byte byte = nat_lt 32 byte && not (byte == 35)

-- a last byte that a name may have: there is one, and it is not `\`
abbrev pub ends_name : Option ℕ → Bool
ends_name None = false
ends_name (Some last) = not (last == 92)

-- a name: one or more bytes above 32, none of them `#`, the last of them not `\`
abbrev pub is_name : List ℕ → Bool
is_name bytes = ends_name (slice_get bytes (length bytes - 1)) && list_all is_name_byte bytes

-- no two of the names are equal
abbrev pub are_distinct : List (List ℕ) → Bool
are_distinct [] = true
are_distinct (name ∷ names) = not (list_any (bytes_eq name) names) && are_distinct names

-- a name without the byte `=`, so that a word `pin=net` splits behind the pin's name
abbrev pub has_no_equals : List ℕ → Bool
has_no_equals name = list_all (λ byte. not (byte == 61)) name

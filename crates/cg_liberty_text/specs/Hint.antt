-- Hints where in a text the arguments of a group stand.
use Rattle.std.specs.Prelude.{◌≡◌, ◌<◌, ℕ, Bool, true, false, List, [], ◌∷◌, drop}
use Rattle.std.specs.List.{list_any}
use Rattle.std.specs.Str.{bytes_eq}
use Rattle.cg_liberty_text.specs.Argument.{argument_texts}
use Rattle.cg_liberty_text.specs.Token.{tokens}

-- whether texts begin with this one
abbrev pub begin_with : List (List ℕ) → List ℕ → Bool
begin_with [] text = false
begin_with (first ∷ more) text = bytes_eq first text

-- whether the first argument that is read from a place on is this text
abbrev pub stands_at : List ℕ → ℕ → List ℕ → Bool
stands_at bytes place text = begin_with (argument_texts (tokens (drop place bytes))) text

-- a place in the bytes, other than 0, is one of these arguments
abbrev pub IsHint : List (List ℕ) → List ℕ → ℕ → Type 0
IsHint arguments bytes place = (text : List ℕ) → 0 < place → stands_at bytes place text ≡ true →
    list_any (bytes_eq text) arguments ≡ true

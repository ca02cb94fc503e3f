-- The bits of one net and of two.
use Rattle.std.proofs.Common.{◌≡◌, ℕ, ◌<◌, Bool, false, List, [], ◌∷◌, length, slice_get, Option, Some, refl}
use Rattle.std.specs.List.{cons_option}
use Rattle.std.proofs.lemmas.Option.{slice_get-get_or}
use Rattle.cg_netlist.specs.Moment.{bit, values_at}

pub values_two : (nets : List Bool) (a b : ℕ) → a < length nets → b < length nets → values_at nets (a ∷ b ∷ []) ≡ bit nets a ∷ bit nets b ∷ []
values_two nets a b below_a below_b =
    let ea = slice_get-get_or nets a false below_a in
    let eb = slice_get-get_or nets b false below_b in
    go (slice_get nets a) (slice_get nets b) (bit nets a) (bit nets b) ea eb
  where
    go : (o p : Option Bool) (c d : Bool) → o ≡ Some c → p ≡ Some d → cons_option o (cons_option p []) ≡ c ∷ d ∷ []
    go o p c d is it = rw (is, it) refl

pub values_one : (nets : List Bool) (a : ℕ) → a < length nets → values_at nets (a ∷ []) ≡ bit nets a ∷ []
values_one nets a below = go (slice_get nets a) (bit nets a) (slice_get-get_or nets a false below)
  where
    go : (o : Option Bool) (c : Bool) → o ≡ Some c → cons_option o [] ≡ c ∷ []
    go o c is = rw is refl

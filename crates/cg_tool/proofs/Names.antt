-- Names that a netlist has, and where.
use Rattle.std.proofs.Common.{◌≡◌, ◌≢◌, ℕ, zero, suc, ◌+◌, ◌<◌, Bool, true, false, ◌||◌, if◌then◌else◌, List, [], ◌∷◌, length}
use Rattle.std.proofs.Common.{slice_get, Some, nat_eq, refl, sym, ◌∙◌, ap, arith}
use Rattle.std.specs.List.{All, position_from}
use Rattle.std.proofs.lemmas.Bool.{or_parts}
use Rattle.std.proofs.lemmas.List.Elements.{All-cons, All-nil}
use lib.Pointwise.{pointwise}
use Rattle.cg_net.specs.Names.{is_known}
use Rattle.cg_machine.proofs.Started.{all_same}

or_second : (a b : Bool) → b ≡ true → (a || b) ≡ true
or_second true b h = refl
or_second false b h = h

-- a name that is not known is none of the names
pub unknown_apart : (names : List (List ℕ)) (name : List ℕ) → is_known names name ≡ false → All (λ other. other ≢ name) names
unknown_apart [] name unknown = All-nil (λ other. other ≢ name)
unknown_apart (n ∷ names) name unknown =
    let parts = or_parts (pointwise nat_eq name n) (is_known names name) unknown in
    All-cons (λ other. other ≢ name) n names (λ same. let both : false ≡ true = sym parts.0 ∙ (ap (pointwise nat_eq name) same ∙ all_same name) in absurd (cc)) (unknown_apart names name parts.1)

-- one that has a place is known
pub placed_known : (names : List (List ℕ)) (name : List ℕ) (k : ℕ) → slice_get names k ≡ Some name → is_known names name ≡ true
placed_known [] name k is = cc
placed_known (n ∷ names) name zero is = let same : n ≡ name = cc in ap (λ m. pointwise nat_eq name m || is_known names name) same ∙ ap (λ b. b || is_known names name) (all_same name)
placed_known (n ∷ names) name (suc k) is = or_second (pointwise nat_eq name n) (is_known names name) (placed_known names name k is)

-- the first place at which a test passes is one of the list
pub place_within : {A : Type 0} (test : A → Bool) (a : ℕ) (xs : List A) (k : ℕ) → position_from test a xs ≡ Some k → k < a + length xs
place_within test a [] k is = cc
place_within test a (x ∷ xs) k is = go (test x) is (λ found. place_within test (a + 1) xs k found)
  where
    go : (b : Bool) → (if b then Some a else position_from test (a + 1) xs) ≡ Some k → (position_from test (a + 1) xs ≡ Some k → k < a + 1 + length xs) → k < a + length (x ∷ xs)
    go true found later = let same : a ≡ k = cc in omega (arith, same)
    go false found later = let within = later found in omega (arith, within)

pub place_of_list : {A : Type 0} (test : A → Bool) (xs : List A) (k : ℕ) → position_from test 0 xs ≡ Some k → k < length xs
place_of_list test xs k is = let within = place_within test 0 xs k is in omega (arith, within)

-- Numbers that rise.
use Rattle.std.specs.Prelude.{ℕ, suc, ◌≤◌, List, [], ◌∷◌}

-- rising numbers, from a number on
abbrev pub Rises : ℕ → List ℕ → Type 0
Rises a [] = Unit {0}
Rises a (p ∷ ps) = (a ≤ p) × Rises (suc p) ps

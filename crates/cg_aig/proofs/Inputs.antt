-- Literals are seen as their numbers.
use Rattle.std.proofs.Common.{◌≡◌, ℕ, List, [], ◌∷◌, map, refl, ap}

pub numbers_same : (inputs : List ℕ) → map (λ a. a) inputs ≡ inputs
numbers_same [] = refl
numbers_same (a ∷ inputs) = ap (λ (rest : List ℕ). a ∷ rest) (numbers_same inputs)

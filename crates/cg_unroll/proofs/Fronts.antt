-- Fronts of lists, and what is behind them.
use Rattle.std.proofs.Common.{◌≡◌, ℕ, zero, suc, ◌<◌, List, [], ◌∷◌, length, slice_index_or}
use Rattle.std.proofs.Common.{refl, arith}

-- an element is the same whatever stands for a missing one
pub any_default : {X : Type 0} (xs : List X) (i : ℕ) (d e : X) → i < length xs → slice_index_or xs i d ≡ slice_index_or xs i e
any_default [] i d e below = absurd (omega arith)
any_default (x ∷ xs) zero d e below = refl
any_default (x ∷ xs) (suc i) d e below = any_default xs i d e (omega arith)

-- Texts of numbers, one behind the other.
use Rattle.std.proofs.Common.{◌≡◌, ℕ, suc, ◌+◌, List, ◌++◌, refl, add-one, append_assoc}
use Rattle.cg_demo.specs.Pipeline.{each}

-- one number more
pub each-add-one : (n : ℕ) (text : ℕ → List ℕ) → each (n + 1) text ≡ each n text ++ text n
each-add-one n text = rw (add-one n) refl

pub ruleset texts = (append_assoc)

pub ruleset eaches = (each-add-one, append_assoc)

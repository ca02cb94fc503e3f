-- Claims of the first cycle alone.
use Rattle.std.specs.Prelude.{◌≡◌, true, Option, Some, None}
use Rattle.cg_claim.specs.Question.{Before, Side}
use Rattle.cg_claim.specs.Reach.{same_copy}

-- both sides, where there are some, are of the first cycle
abbrev pub IsEarly : Option (Side × Side) → Type 0
IsEarly None = Unit {0}
IsEarly (Some s) = (same_copy s.0.copy Before ≡ true) × (same_copy s.1.copy Before ≡ true)

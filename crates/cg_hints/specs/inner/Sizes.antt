-- The size of a claim.
use Rattle.std.specs.Prelude.{◌≡◌, ℕ, Bool, true, false, Option, None, Some}
use Rattle.cg_unroll.specs.declared.claim.ClaimFault.{ClaimFault}
use Rattle.cg_unroll.specs.declared.claim.ClaimFault.TheVariants.{Limit as NodesLimit, NoMemory, Wide as TooManyLeaves}
use Rattle.cg_hints.specs.declared.claims.Size.{Size}
use Rattle.cg_hints.specs.declared.claims.Size.TheVariants.{Fits, Large, Wide}

-- how many leaves there are, where these are too many
abbrev pub too_many : Size → Option ℕ
too_many Fits = None
too_many (Wide leaves) = Some leaves
too_many Large = None

-- whether there are too many nodes, but not too many leaves
abbrev pub is_large : Size → Bool
is_large Fits = false
is_large (Wide leaves) = false
is_large Large = true

-- the size of a claim that is refused so; want of memory tells none
abbrev pub SizedAs : ClaimFault → Size → Type 0
SizedAs (TooManyLeaves leaves) size = size ≡ Wide leaves
SizedAs (NodesLimit limit) size = size ≡ Large
SizedAs NoMemory size = ⊥

-- When an operation of an and-inverter list may be refused.
use Rattle.std.specs.Prelude.{◌≡◌, ◌≤◌, ◌<◌, ℕ, ◌+◌, length, position, None}
use Rattle.cg_limit.specs.declared.TheConstants.{MOST_CLAIM_NODES}
use Rattle.cg_cell.specs.Domain.{Seen}
use Rattle.cg_limit.specs.declared.Limit.TheVariants.{ClaimNodes}
use Rattle.cg_aig.specs.declared.fault.AigFault.{AigFault}
use Rattle.cg_aig.specs.declared.fault.AigFault.TheVariants.{Limit, NoMemory}
use Rattle.cg_aig.specs.Aig.{in_order, same_pair, simple}

-- A node must be appended for this pair, since none has it.
abbrev pub IsNew : Seen → ℕ × ℕ → Type 0
IsNew s p = position (same_pair p) s.pairs ≡ None

-- Why the node of a pair may be refused: only where it must be appended, at the limit for want of room and below it for want of
-- memory.
abbrev pub PutRefuses : Seen → ℕ × ℕ → AigFault → Type 0
PutRefuses s p NoMemory = IsNew s p × (s.number + length s.pairs < MOST_CLAIM_NODES)
PutRefuses s p (Limit which) = IsNew s p × (MOST_CLAIM_NODES ≤ s.number + length s.pairs) × (which ≡ ClaimNodes)

-- The faults that an `and` may answer: none where an operand or a constant is the answer, and else those of its pair.
abbrev pub AndRefuses : Seen → ℕ → ℕ → AigFault → Type 0
AndRefuses s a b fault = (simple a b ≡ None) × PutRefuses s (in_order a b) fault

-- The fault of a list that would begin with too many leaves.
pub record IsPastLimit (leaves : ℕ) (fault : AigFault) : Type 0 where
  pub limit : fault ≡ Limit ClaimNodes
  pub past : MOST_CLAIM_NODES < leaves

-- What a call that builds a claim answers.
use Rattle.std.specs.Prelude.{◌≡◌, ◌<◌, ◌≤◌, ℕ, map, length, slice_index_or, IsTrue}
use Rattle.cg_aig.specs.Aig.{aig_ops}
use Rattle.cg_limit.specs.declared.Limit.TheVariants.{ClaimNodes}
use Rattle.cg_limit.specs.declared.TheConstants.{MOST_CLAIM_NODES}
use Rattle.cg_machine.specs.Claims.{Target, Shown, Next as NextTarget, Joined}
use Rattle.cg_machine.specs.Machine.{MachineData}
use Rattle.cg_claim.specs.Build.{claim_run, nodes_of}
use Rattle.cg_claim.specs.Leaves.{leaves_of, shown_leaf, width_of}
use Rattle.cg_claim.specs.Question.{Question}
use Rattle.cg_claim.specs.declared.name.ClaimName.{ClaimName}
use Rattle.cg_claim.specs.declared.name.ClaimName.TheVariants.{Idle, Hold, Stable, Output, Next, Enable}
use Rattle.cg_unroll.specs.declared.claim.Claim.{Claim}
use Rattle.cg_unroll.specs.declared.claim.ClaimFault.{ClaimFault}
use Rattle.cg_unroll.specs.declared.claim.ClaimFault.TheVariants.{Wide, Limit, NoMemory}

-- the list, the goal and the leaves are those of the question, and neither its width nor its nodes are too many; the
-- goal is a literal of the list
pub record IsClaim (m : MachineData) (q : Question) (width : ℕ) (claim : Claim) : Type 0 where
  pub list : claim.aig ≡ (claim_run m q).domain
  pub goal : claim.goal ≡ (claim_run m q).answer
  pub leaves : claim.leaves ≡ map shown_leaf (leaves_of m q)
  pub narrow : width_of m q ≤ width
  pub small : nodes_of m q ≤ MOST_CLAIM_NODES
  pub valid : IsTrue (aig_ops.is_valid claim.aig claim.goal)

-- the claim has more leaves than the width; or not, and more leaves and and-nodes than a list may have. Want of memory
-- is free.
abbrev pub IsRefused : MachineData → Question → ℕ → ClaimFault → Type 0
IsRefused m q width (Wide n) = (n ≡ width_of m q) × (width < n)
IsRefused m q width (Limit which) = (which ≡ ClaimNodes) × (width_of m q ≤ width) × (MOST_CLAIM_NODES < nodes_of m q)
IsRefused m q width NoMemory = Unit {0}

-- a name names a target: an output, the next bit of a register, or the joined enable
abbrev pub IsTargetName : MachineData → ClaimName → Type 0
IsTargetName m Idle = ⊥
IsTargetName m (Hold r) = ⊥
IsTargetName m (Stable r) = ⊥
IsTargetName m (Output k) = k < length m.circuit.outputs
IsTargetName m (Next r) = r < length m.circuit.registers
IsTargetName m Enable = Unit {0}

-- the target that a name names; the other names are those of none, and stand for the joined enable
abbrev pub target_of : MachineData → ClaimName → Target
target_of m Idle = Joined
target_of m (Hold r) = Joined
target_of m (Stable r) = Joined
target_of m (Output k) = Shown (slice_index_or m.circuit.outputs k 0)
target_of m (Next r) = NextTarget r
target_of m Enable = Joined

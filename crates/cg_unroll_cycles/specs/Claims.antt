-- What a call that builds a claim over cycles answers.
use Rattle.std.specs.Prelude.{◌≡◌, ◌<◌, ◌≤◌, ℕ, IsTrue}
use Rattle.cg_aig.specs.Aig.{aig_ops}
use Rattle.cg_limit.specs.declared.Limit.TheVariants.{ClaimNodes}
use Rattle.cg_limit.specs.declared.TheConstants.{MOST_CLAIM_NODES}
use Rattle.cg_machine.specs.Machine.{MachineData}
use Rattle.cg_hint_laws.specs.Build.{claim_run, nodes_of}
use Rattle.cg_hint_laws.specs.Leaves.{leaves_of, width_of}
use Rattle.cg_hint_laws.specs.Question.{Question}
use Rattle.cg_unroll.specs.declared.claim.Claim.{Claim}
use Rattle.cg_unroll.specs.declared.claim.ClaimFault.{ClaimFault}
use Rattle.cg_unroll.specs.declared.claim.ClaimFault.TheVariants.{Wide, Limit, NoMemory}

-- the list, the goal and the leaves are those of the question, and neither its width nor its nodes are too many; the
-- goal is a literal of the list
pub record IsCycleClaim (m : MachineData) (q : Question) (width : ℕ) (claim : Claim) : Type 0 where
  pub list : claim.aig ≡ (claim_run m q).domain
  pub goal : claim.goal ≡ (claim_run m q).answer
  pub leaves : claim.leaves ≡ leaves_of m q
  pub narrow : width_of m q ≤ width
  pub small : nodes_of m q ≤ MOST_CLAIM_NODES
  pub valid : IsTrue (aig_ops.is_valid claim.aig claim.goal)

-- the claim has more leaves than the width; or not, and more leaves and and-nodes than a list may have. Want of memory
-- is free.
abbrev pub IsCycleRefused : MachineData → Question → ℕ → ClaimFault → Type 0
IsCycleRefused m q width (Wide n) = (n ≡ width_of m q) × (width < n)
IsCycleRefused m q width (Limit which) = (which ≡ ClaimNodes) × (width_of m q ≤ width) × (MOST_CLAIM_NODES < nodes_of m q)
IsCycleRefused m q width NoMemory = Unit {0}

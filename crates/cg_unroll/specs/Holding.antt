-- The hold claims of one register, one literal after another.
use Rattle.std.specs.Prelude.{◌≡◌, ◌≤◌, ℕ, ◌+◌, Bool, true, List, length, map, slice_index_or, IsTrue}
use Rattle.cg_limit.specs.declared.TheConstants.{MOST_CLAIM_NODES}
use Rattle.cg_cell.specs.Domain.{Keeps, Seen}
use Rattle.cg_aig.specs.Aig.{aig_ops}
use Rattle.cg_net.specs.NetSets.{is_in}
use Rattle.cg_machine.specs.Machine.{MachineData}
use Rattle.cg_claim.specs.Build.{aig_values, before_table, claim_run, leaf_list, nodes_of}
use Rattle.cg_claim.specs.Laws.{goal_bit}
use Rattle.cg_claim.specs.Leaves.{leaves_of, shown_leaf, width_of}
use Rattle.cg_claim.specs.Question.{Question, held_question}
use Rattle.cg_claim.specs.Reach.{before_nets}
use Rattle.cg_unroll.specs.declared.claim.Claim.{Claim}
use Rattle.cg_unroll.specs.Claims.{IsClaim}
use Rattle.cg_unroll.specs.Placing.{IsLiteralTable}

-- the goal has the bits of that of the question, the leaves are the question's, and neither its width nor its nodes are too
-- many; the list may have more nodes than the question's
pub record TellsClaim (m : MachineData) (q : Question) (width : ℕ) (claim : Claim) : Type 0 where
  pub number : claim.aig.number ≡ (claim_run m q).domain.number
  pub bits : (bits : List Bool) → aig_ops.bit claim.aig bits claim.goal ≡ goal_bit m q bits
  pub leaves : claim.leaves ≡ map shown_leaf (leaves_of m q)
  pub narrow : width_of m q ≤ width
  pub small : nodes_of m q ≤ MOST_CLAIM_NODES
  pub valid : IsTrue (aig_ops.is_valid claim.aig claim.goal)

-- the nets of the first copy have these literals, in a list that was built from s
pub record HoldsBefore (m : MachineData) (q : Question) (s t : Seen) (nets : List ℕ) : Type 0 where
  pub table : IsLiteralTable (length m.circuit.names) t nets
  pub at : (y : ℕ) → is_in (before_nets m q) y ≡ true → slice_index_or nets y 0 ≡ (before_table aig_values m q (leaves_of m q) s).at y

-- the claim that was built last, the literals of nets, that of what all goals have in common, and how many and-nodes there are
-- without a goal
pub record Holding : Type 0 where
  pub claim : Claim
  pub nets : List ℕ
  pub differs : ℕ
  pub ands : ℕ

-- a list shows whether the next bit of register r differs from its bit, and has since grown at its end
pub record IsHolding (m : MachineData) (r width : ℕ) (h : Holding) : Type 0 where
  pub list : Seen
  pub held : IsClaim m (held_question r) width (record { aig = list; goal = h.differs; leaves = h.claim.leaves })
  pub nets : HoldsBefore m (held_question r) (leaf_list (width_of m (held_question r))) list h.nets
  pub ands : h.ands ≡ length list.pairs
  pub grown : Keeps aig_ops list h.claim.aig

-- the list has room for one more and-node, or has none but those without a goal
abbrev pub HasRoom : Holding → Type 0
HasRoom h = MOST_CLAIM_NODES ≤ h.claim.aig.number + length h.claim.aig.pairs → length h.claim.aig.pairs ≡ h.ands

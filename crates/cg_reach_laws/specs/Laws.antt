-- What is proved of what a question reaches.
use Rattle.std.specs.Prelude.{◌≡◌, ◌↔◌, ℕ, true, slice_get, Some}
use Rattle.cg_net.specs.NetSets.{is_in}
use Rattle.cg_machine.specs.Machine.{IsMachine, MachineData}
use Rattle.cg_claim.specs.Leaves.{Leaf, leaves_of}
use Rattle.cg_claim.specs.Question.{Before, After, Changed, Net, State, Question}
use Rattle.cg_claim.specs.Reach.{after_nets, after_states, before_nets, before_states, changed_nets, changed_states}
use Rattle.cg_claim.specs.Violates.{SidesFit}
use Rattle.cg_reach_laws.specs.Paths.{IsLeaf, Leads, in_copy}

-- in each copy, the nets and the bits of registers that are reached are those to which paths lead
pub record IsReachedByPaths (m : MachineData) (q : Question) : Type 0 where
  pub before : (y : ℕ) → (is_in (before_nets m q) y ≡ true) ↔ Leads m q (in_copy Before (Net y))
  pub after : (y : ℕ) → (is_in (after_nets m q) y ≡ true) ↔ Leads m q (in_copy After (Net y))
  pub changed : (y : ℕ) → (is_in (changed_nets m q) y ≡ true) ↔ Leads m q (in_copy Changed (Net y))
  pub bits_before : (r : ℕ) → (before_states m q r ≡ true) ↔ Leads m q (in_copy Before (State r))
  pub bits_after : (r : ℕ) → (after_states m q r ≡ true) ↔ Leads m q (in_copy After (State r))
  pub bits_changed : (r : ℕ) → (changed_states m q r ≡ true) ↔ Leads m q (in_copy Changed (State r))

abbrev pub PathsReach : Type 0
PathsReach = (m : MachineData) (q : Question) → IsMachine m → SidesFit m q.sides → IsReachedByPaths m q

-- the leaves of a question, by which its width is counted, are these, each once
pub record LeavesAre (m : MachineData) (q : Question) : Type 0 where
  pub there : (l : Leaf) → IsLeaf m q l → (place : ℕ) × (slice_get (leaves_of m q) place ≡ Some l)
  pub only : (place : ℕ) (l : Leaf) → slice_get (leaves_of m q) place ≡ Some l → IsLeaf m q l
  pub once : (i j : ℕ) (l : Leaf) → slice_get (leaves_of m q) i ≡ Some l → slice_get (leaves_of m q) j ≡ Some l → i ≡ j

abbrev pub LeavesAreLedTo : Type 0
LeavesAreLedTo = (m : MachineData) (q : Question) → IsMachine m → SidesFit m q.sides → LeavesAre m q

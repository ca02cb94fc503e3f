-- What the code that builds a list keeps between its parts.
use Rattle.std.specs.Prelude.{◌≡◌, ◌<◌, ℕ, true, List, length, slice_index_or, IsTrue}
use Rattle.cg_limit.specs.declared.Limit.TheVariants.{ClaimNodes}
use Rattle.cg_limit.specs.declared.TheConstants.{MOST_CLAIM_NODES}
use Rattle.cg_cell.specs.Build.{Builds, Run}
use Rattle.cg_cell.specs.Domain.{AreValid, Keeps, Seen}
use Rattle.cg_aig.specs.Aig.{aig_ops}
use Rattle.cg_aig.specs.declared.fault.AigFault.{AigFault}
use Rattle.cg_aig.specs.declared.fault.AigFault.TheVariants.{Limit, NoMemory}
use Rattle.cg_netlist.specs.Circuit.{LogicCell}
use Rattle.cg_claim.specs.Build.{Table, aig_values, lay, size}
use Rattle.cg_claim.specs.Tables.{SameOn}

-- a run was made from s, and left t and a literal of it
pub record Built (s t : Seen) (v : ℕ) (r : Run) : Type 0 where
  pub builds : Builds r t v
  pub keeps : Keeps aig_ops s t
  pub valid : IsTrue (aig_ops.is_valid t v)

-- a fault on the way to a list: the limit only where that list passes it, and want of memory at any time
abbrev pub MayFail : Seen → AigFault → Type 0
MayFail whole NoMemory = Unit {0}
MayFail whole (Limit which) = (which ≡ ClaimNodes) × (MOST_CLAIM_NODES < size whole)

-- a list with a literal for each net, as a table
abbrev pub table_of : Seen → List ℕ → Table
table_of s literals = record { domain = s; at = λ x. slice_index_or literals x 0 }

-- cells were laid from one list of literals to another
pub record LaysCells (cells : List (LogicCell ℕ)) (s t : Seen) (old new : List ℕ) : Type 0 where
  pub same : SameOn (λ _. true) (table_of t new) (lay aig_values cells (table_of s old))
  pub keeps : Keeps aig_ops s t
  pub valid : AreValid aig_ops t new
  pub long : length new ≡ length old

-- cells are being laid: those that are left lead from here to where all lead from the start
pub record IsLaying (all left : List (LogicCell ℕ)) (s t : Seen) (old now : List ℕ) : Type 0 where
  pub leads : SameOn (λ _. true) (lay aig_values left (table_of t now)) (lay aig_values all (table_of s old))
  pub keeps : Keeps aig_ops s t
  pub valid : AreValid aig_ops t now
  pub long : length now ≡ length old

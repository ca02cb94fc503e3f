-- A copy of the machine, as the program lays it.
use Rattle.std.specs.Prelude.{◌≡◌, ℕ, if◌then◌else◌, List, length, slice_index_or}
use Rattle.cg_cell.specs.Domain.{Keeps, Seen}
use Rattle.cg_aig.specs.Aig.{aig_ops}
use Rattle.cg_aig.specs.declared.fault.AigFault.{AigFault}
use Rattle.cg_netlist.specs.Circuit.{data_inputs}
use Rattle.cg_net.specs.NetSets.{is_in}
use Rattle.cg_netlist_cone.specs.Cone.{cone_of}
use Rattle.cg_netlist_cone.specs.declared.cone.Cone.{Cone}
use Rattle.cg_machine.specs.Machine.{MachineData, walk_of}
use Rattle.cg_claim.specs.Build.{Table, aig_values, lay, reached_cells, start_nets}
use Rattle.cg_claim.specs.Tables.{SameOn}
use Rattle.cg_unroll.specs.Building.{MayFail, table_of}
use Rattle.cg_unroll.specs.Placing.{IsLiteralTable}
use Rattle.cg_claim_reach.specs.Reached.{IsConeOf}

-- the data inputs have these literals, and all other nets 0
abbrev pub HoldsInputs : MachineData → (ℕ → ℕ) → List ℕ → Type 0
HoldsInputs m inputs nets = (y : ℕ) → slice_index_or nets y 0 ≡ (if is_in (data_inputs m.circuit) y then inputs y else 0)

-- the copy of these nets, from literals of its data inputs and of its states
abbrev pub copy_table : MachineData → List ℕ → (ℕ → ℕ) → List ℕ → Seen → Table
copy_table m cone inputs states s =
    lay aig_values (reached_cells m cone)
    (record { domain = s; at = start_nets aig_values m inputs (λ r. slice_index_or states r 0) })

-- the copy of a cone was laid
pub record LaysCopy (m : MachineData) (cone : Cone) (states : List ℕ) (s t : Seen) (old new : List ℕ) : Type 0 where
  pub same : (roots : List ℕ) (inputs : ℕ → ℕ) → IsConeOf m (cone_of (walk_of m) roots) cone → HoldsInputs m inputs old
      → SameOn (is_in (cone_of (walk_of m) roots)) (table_of t new) (copy_table m (cone_of (walk_of m) roots) inputs states s)
  pub keeps : Keeps aig_ops s t
  pub table : IsLiteralTable (length m.circuit.names) t new

-- or a fault came on the way
abbrev pub CopyFails : MachineData → Cone → List ℕ → Seen → List ℕ → AigFault → Type 0
CopyFails m cone states s old fault = (roots : List ℕ) (inputs : ℕ → ℕ) → IsConeOf m (cone_of (walk_of m) roots) cone →
    HoldsInputs m inputs old
    → MayFail (copy_table m (cone_of (walk_of m) roots) inputs states s).domain fault

-- The copies of a machine, as the program holds their literals.
use Rattle.std.specs.Prelude.{ℕ, List, length, slice_index_or}
use Rattle.cg_cell.specs.Build.{Run, build_and, build_xor, chain}
use Rattle.cg_cell.specs.Domain.{Seen}
use Rattle.cg_aig.specs.Aig.{aig_ops, inverse}
use Rattle.cg_machine.specs.Claims.{Literal}
use Rattle.cg_machine.specs.Machine.{MachineData}
use Rattle.cg_claim.specs.Build.{Copies, aig_values, part_run}
use Rattle.cg_claim_reach.specs.declared.asked.Frame.{Frame}
use Rattle.cg_claim_reach.specs.declared.asked.Frame.TheVariants.{Before, After, Changed}
use Rattle.cg_claim_reach.specs.declared.asked.Side.{Side}
use Rattle.cg_unroll.specs.declared.tables.CopyTables.{CopyTables}
use Rattle.cg_unroll.specs.declared.tables.Tables.{Tables}
use Rattle.cg_claim_reach.specs.Asking.{part_of}
use Rattle.cg_unroll.specs.declared.tables.Sources.TheVariants.{Inputs, Registers}
use Rattle.cg_unroll.specs.Placing.{ArePlaced, HoldsLeaves, IsCopy, IsLiteralTable, place_in}
use Rattle.cg_unroll.specs.Sparse.{AreZero}
use Rattle.cg_claim.specs.declared.leaf.Leaf.{Leaf}

-- each copy has a literal of the list for each net and for each register
pub record AreTables (m : MachineData) (s : Seen) (tables : Tables) : Type 0 where
  pub before : IsCopy m s tables.before
  pub after : IsCopy m s tables.after
  pub changed : IsCopy m s tables.changed

-- the leaves of each copy have places among the nets or the registers
pub record AreLeavesPlaced (m : MachineData) (leaves : List Leaf) : Type 0 where
  pub inputs : (copy : ℕ) → ArePlaced (place_in copy Inputs) leaves (length m.circuit.names)
  pub registers : (copy : ℕ) → ArePlaced (place_in copy Registers) leaves (length m.circuit.registers)

-- the literals of leaves stand at their places: the data inputs of the second cycle in both its copies, and its registers
-- apart from its states, which have none yet
pub record Starts (m : MachineData) (leaves : List Leaf) (s : Seen) (tables : Tables) : Type 0 where
  pub before_nets : HoldsLeaves (place_in 0 Inputs) leaves (length m.circuit.names) s tables.before.nets
  pub before_states : HoldsLeaves (place_in 0 Registers) leaves (length m.circuit.registers) s tables.before.states
  pub after_nets : HoldsLeaves (place_in 1 Inputs) leaves (length m.circuit.names) s tables.after.nets
  pub free : HoldsLeaves (place_in 1 Registers) leaves (length m.circuit.registers) s tables.free
  pub zeros : AreZero tables.after.states
  pub after_states : IsLiteralTable (length m.circuit.registers) s tables.after.states
  pub changed_nets : HoldsLeaves (place_in 1 Inputs) leaves (length m.circuit.names) s tables.changed.nets
  pub changed_states : HoldsLeaves (place_in 2 Registers) leaves (length m.circuit.registers) s tables.changed.states

-- the tables of a copy
abbrev pub copy_tables : Tables → Frame → CopyTables
copy_tables tables Before = tables.before
copy_tables tables After = tables.after
copy_tables tables Changed = tables.changed

-- the copies that tables hold, with a list
abbrev pub copies_of : Tables → Seen → Copies
copies_of tables s = record {
  states0 = λ r. slice_index_or tables.before.states r 0;
  nets0 = λ x. slice_index_or tables.before.nets x 0;
  states1 = λ r. slice_index_or tables.after.states r 0;
  nets1 = λ x. slice_index_or tables.after.nets x 0;
  states2 = λ r. slice_index_or tables.changed.states r 0;
  nets2 = λ x. slice_index_or tables.changed.nets x 0;
  domain = s;
}

-- a part of a copy
abbrev pub shown_run : MachineData → List Literal → Tables → Side → Seen → Run
shown_run m E tables side s =
    let copy = copy_tables tables side.frame in
    part_run aig_values m E (λ x. slice_index_or copy.nets x 0) (λ r. slice_index_or copy.states r 0) (part_of side.part) s

-- where the joined enable has this literal, whether it is 0 and two sides differ
abbrev pub sides_run : MachineData → List Literal → Tables → ℕ → Side → Side → Seen → Run
sides_run m E tables joined one other s =
    chain (shown_run m E tables one s) (λ a t.
    chain (shown_run m E tables other t) (λ b u.
    chain (build_xor aig_ops a b u) (λ x v. build_and aig_ops (inverse joined) x v)))

-- What a question reaches, as the program holds it.
use Rattle.std.specs.Prelude.{◌≡◌, ◌<◌, ℕ, List, length, map}
use Rattle.std.specs.List.{All, filter}
use Rattle.cg_netlist.specs.Circuit.{data_inputs}
use Rattle.cg_net.specs.NetSets.{is_in}
use Rattle.cg_netlist.specs.Moment.{values_at}
use Rattle.cg_netlist_cone.specs.declared.cone.Cone.{Cone}
use Rattle.cg_machine.specs.Machine.{MachineData}
use Rattle.cg_claim.specs.Build.{reached_cells}
use Rattle.cg_claim.specs.Leaves.{leaves_of, shown_leaf}
use Rattle.cg_claim.specs.Question.{Question}
use Rattle.cg_claim.specs.Reach.{after_nets, after_states, before_nets, changed_nets, feeds, registers_of}
use Rattle.cg_claim_reach.specs.declared.reached.Reached.{Reached}

-- a cone has the cells whose outputs are among these nets, in walk order, the data inputs that are, and the registers
-- that show their bits at one of them
pub record IsConeOf (m : MachineData) (nets : List ℕ) (cone : Cone) : Type 0 where
  pub within : All (λ k. k < length m.circuit.cells) cone.cells
  pub cells : values_at m.circuit.cells cone.cells ≡ reached_cells m nets
  pub inputs : cone.inputs ≡ filter (is_in nets) (data_inputs m.circuit)
  pub registers : cone.registers ≡ filter (feeds m nets) (registers_of m)

-- the cones of the copies, the registers whose states after the first cycle are reached, and the leaves
pub record IsReached (m : MachineData) (q : Question) (reached : Reached) : Type 0 where
  pub before : IsConeOf m (before_nets m q) reached.before
  pub after : IsConeOf m (after_nets m q) reached.after
  pub changed : IsConeOf m (changed_nets m q) reached.changed
  pub states : reached.states ≡ filter (after_states m q) (registers_of m)
  pub leaves : reached.leaves ≡ map shown_leaf (leaves_of m q)

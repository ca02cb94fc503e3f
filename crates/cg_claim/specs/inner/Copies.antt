-- What is reached in each copy of the machine, and the free bits that its leaves stand for.
use Rattle.std.specs.Prelude.{ℕ, Bool, false, List}
use Rattle.cg_netlist.specs.Circuit.{data_inputs}
use Rattle.cg_netlist.specs.Moment.{bit}
use Rattle.cg_netlist.specs.Nets.{beside}
use Rattle.cg_machine.specs.Machine.{MachineData}
use Rattle.cg_claim.specs.declared.leaf.LeafSource.{LeafSource}
use Rattle.cg_claim.specs.declared.leaf.LeafSource.TheVariants.{Input, Register}
use Rattle.cg_claim.specs.Question.{Copy, Before, After, Changed, Question}
use Rattle.cg_claim.specs.Reach.{after_nets, after_states, before_nets, before_states, changed_nets, changed_states}
use Rattle.cg_claim.specs.Violates.{Free}

-- the nets that are reached in a copy
abbrev pub nets_reached : MachineData → Question → Copy → List ℕ
nets_reached m q Before = before_nets m q
nets_reached m q After = after_nets m q
nets_reached m q Changed = changed_nets m q

-- whether the state of a register is reached in a copy
abbrev pub states_reached : MachineData → Question → Copy → ℕ → Bool
states_reached m q Before = before_states m q
states_reached m q After = after_states m q
states_reached m q Changed = changed_states m q

-- the free bit that a leaf stands for
abbrev pub source_bit : MachineData → Free → Copy → LeafSource → Bool
source_bit m w Before (Input y) = beside false (data_inputs m.circuit) w.x0 y
source_bit m w Before (Register r) = bit w.s0 r
source_bit m w After (Input y) = beside false (data_inputs m.circuit) w.x1 y
source_bit m w After (Register r) = bit w.free r
source_bit m w Changed (Input y) = false
source_bit m w Changed (Register r) = bit w.other r

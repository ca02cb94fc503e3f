-- When bits of a machine violate a claim.
use Rattle.std.specs.Prelude.{◌<◌, Bool, true, not, ◌&&◌, List, length, Option, Some, None}
use Rattle.cg_cell.specs.Gates.{exclusive_or}
use Rattle.cg_netlist.specs.Moment.{bit}
use Rattle.cg_machine.specs.Machine.{IsInputs, IsState, MachineData, next, values}
use Rattle.cg_machine.specs.Claims.{Literal, any_at, followed, mixed}
use Rattle.cg_claim.specs.Question.{Copy, Before, After, Changed, CopyPart, Net, Next, State, Enable, Side, Question}

-- free bits: the state and the inputs of the first cycle, the bits after it of the registers that nothing is said of,
-- the inputs of the second cycle, and the other bits of the registers that may have some
pub record Free : Type 0 where
  pub s0 : List Bool
  pub x0 : List Bool
  pub free : List Bool
  pub x1 : List Bool
  pub other : List Bool

-- states and inputs have as many bits as is asked
pub record IsFree (m : MachineData) (w : Free) : Type 0 where
  pub s0 : IsState m w.s0
  pub x0 : IsInputs m w.x0
  pub x1 : IsInputs m w.x1

-- the state of a copy
abbrev pub state_of : MachineData → Question → Free → Copy → List Bool
state_of m q w Before = w.s0
state_of m q w After = followed m q.follows w.s0 w.x0 w.free
state_of m q w Changed = mixed m q.changes w.other (followed m q.follows w.s0 w.x0 w.free)

-- the inputs of a copy
abbrev pub inputs_of : Free → Copy → List Bool
inputs_of w Before = w.x0
inputs_of w After = w.x1
inputs_of w Changed = w.x1

-- the bits of the nets of a copy
abbrev pub nets_at : MachineData → Question → Free → Copy → List Bool
nets_at m q w copy = values m (state_of m q w copy) (inputs_of w copy)

-- the bit of a part of a cycle
abbrev pub part_bit : MachineData → List Literal → List Bool → List Bool → CopyPart → Bool
part_bit m E nets state (Net y) = bit nets y
part_bit m E nets state (Next r) = next m nets state r
part_bit m E nets state (State r) = bit state r
part_bit m E nets state Enable = any_at nets E

-- the bit of a side
abbrev pub side_bit : MachineData → Question → Free → Side → Bool
side_bit m q w side = part_bit m q.enables (nets_at m q w side.copy) (state_of m q w side.copy) side.part

-- whether the two sides differ
abbrev pub sides_differ : MachineData → Question → Free → Option (Side × Side) → Bool
sides_differ m q w None = true
sides_differ m q w (Some s) = exclusive_or (side_bit m q w s.0) (side_bit m q w s.1)

-- whether free bits violate a claim: the joined enable is 0 in the first cycle, and the sides differ
abbrev pub violates : MachineData → Question → Free → Bool
violates m q w = not (any_at (values m w.s0 w.x0) q.enables) && sides_differ m q w q.sides

-- the registers that a part names are there
abbrev pub CopyPartFits : MachineData → CopyPart → Type 0
CopyPartFits m (Net y) = Unit {0}
CopyPartFits m (Next r) = r < length m.circuit.registers
CopyPartFits m (State r) = r < length m.circuit.registers
CopyPartFits m Enable = Unit {0}

-- and those that the sides name
abbrev pub SidesFit : MachineData → Option (Side × Side) → Type 0
SidesFit m None = Unit {0}
SidesFit m (Some s) = CopyPartFits m s.0.part × CopyPartFits m s.1.part

-- When bits of a machine violate a claim. Its cut does not matter: that only takes nets as given to find out whether some bits do.
use Rattle.std.specs.Prelude.{◌≡◌, ◌<◌, ℕ, zero, suc, Bool, true, false, not, ◌&&◌, if◌then◌else◌, List, map, length, Option, Some, None}
use Rattle.std.specs.List.{All}
use Rattle.cg_cell.specs.Gates.{all_of, any_of, exclusive_or}
use Rattle.cg_net.specs.NetSets.{is_in}
use Rattle.cg_netlist.specs.Circuit.{data_inputs}
use Rattle.cg_netlist.specs.Moment.{bit}
use Rattle.cg_machine.specs.Claims.{Literal, literal_bit}
use Rattle.cg_machine.specs.Machine.{IsInputs, IsState, MachineData, each_register, enable_of, load, next, values}
use Rattle.cg_claim.specs.Question.{CopyPart, Net, Next, State, Enable}
use Rattle.cg_claim.specs.Violates.{CopyPartFits}
use Rattle.cg_claim.specs.form.Leaves.{is_cut}
use Rattle.cg_claim.specs.form.Question.{Changes, Ends, Question, Shows}

-- free bits: the state of the first cycle; the inputs of each cycle; bits of registers in each cycle, which those have there of which
-- nothing is said; and the other bits of the registers that may have some
pub record Free : Type 0 where
  pub state : List Bool
  pub inputs : ℕ → List Bool
  pub given : ℕ → List Bool
  pub other : List Bool

-- state and inputs have as many bits as is asked; `given` and `other` may have any number, and are 0 past their ends
pub record IsFree (m : MachineData) (w : Free) : Type 0 where
  pub state : IsState m w.state
  pub inputs : (i : ℕ) → IsInputs m (w.inputs i)

-- the bit of a register after a cycle
abbrev pub bit_after : MachineData → Question → List Bool → List Bool → List Bool → ℕ → Bool
bit_after m q given nets state r =
    if q.loose r then bit given r else
    if q.follows r then next m nets state r else if load nets (enable_of m r) then bit given r else bit state r

-- the state in cycle i, counted from 0, and the bits of all nets in it
abbrev pub state_at : MachineData → Question → Free → ℕ → List Bool
state_at m q w zero = w.state
state_at m q w (suc i) =
    each_register m (bit_after m q (w.given (suc i)) (values m (state_at m q w i) (w.inputs i)) (state_at m q w i))

abbrev pub nets_at : MachineData → Question → Free → ℕ → List Bool
nets_at m q w i = values m (state_at m q w i) (w.inputs i)

-- the state of the last cycle with other bits in these registers
abbrev pub other_state : MachineData → Question → Free → List ℕ → List Bool
other_state m q w G = each_register m (λ r. if is_in G r then bit w.other r else bit (state_at m q w q.after) r)

-- whether all literals of some term are 1
abbrev pub condition_at : List Bool → List (List Literal) → Bool
condition_at nets terms = any_of (map (λ (term : List Literal). all_of (map (literal_bit (bit nets)) term)) terms)

-- the bit of a part of a cycle
abbrev pub part_bit : MachineData → Question → List Bool → List Bool → CopyPart → Bool
part_bit m q nets state (Net y) = bit nets y
part_bit m q nets state (Next r) = next m nets state r
part_bit m q nets state (State r) = bit state r
part_bit m q nets state Enable = condition_at nets q.condition

-- whether a register changes its bit in a cycle; true where no register is asked for
abbrev pub changes : MachineData → Option ℕ → List Bool → List Bool → Bool
changes m None state inputs = true
changes m (Some r) state inputs = exclusive_or (next m (values m state inputs) state r) (bit state r)

-- whether the last cycle is otherwise
abbrev pub ends_otherwise : MachineData → Question → Free → Ends → Bool
ends_otherwise m q w (Changes register) = changes m register (state_at m q w q.after) (w.inputs q.after)
ends_otherwise m q w (Shows part G) =
    exclusive_or (part_bit m q (nets_at m q w q.after) (state_at m q w q.after) part)
    (part_bit m q (values m (other_state m q w G) (w.inputs q.after)) (other_state m q w G) part)

-- whether free bits violate a claim: the condition is 0 in the first cycle, and the last is otherwise
abbrev pub violates : MachineData → Question → Free → Bool
violates m q w = not (condition_at (nets_at m q w 0) q.condition) && ends_otherwise m q w q.ends

-- the registers that the end names are there
abbrev pub EndsFit : MachineData → Ends → Type 0
EndsFit m (Changes register) = (r : ℕ) → register ≡ Some r → r < length m.circuit.registers
EndsFit m (Shows part G) = CopyPartFits m part

-- a question that can be asked: each term of its condition has a literal, the registers that its end names are there, and no data input
-- is in its cut, since it would be two leaves of one copy
pub record IsAsked (m : MachineData) (q : Question) : Type 0 where
  pub literals : All (λ term. 0 < length term) q.condition
  pub ends : EndsFit m q.ends
  pub apart : (y : ℕ) → is_in (data_inputs m.circuit) y ≡ true → is_cut q.cut y ≡ false

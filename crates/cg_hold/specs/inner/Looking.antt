-- What is looked at of a register, and what cycles show of its literals.
use Rattle.std.specs.Prelude.{◌≡◌, ◌<◌, ℕ, Bool, true, false, List, length, slice_get, Some, None}
use Rattle.cg_cell.specs.Gates.{exclusive_or}
use Rattle.cg_claim.specs.LeafBits.{is_never}
use Rattle.cg_claim.specs.Question.{hold_question}
use Rattle.cg_claim_reach.specs.Reached.{IsConeOf}
use Rattle.cg_hold.specs.inner.Choosing.{IsLiteralOf}
use Rattle.cg_word.specs.Words.{IsWord, LANES, lane}
use Rattle.cg_machine.specs.Claims.{Literal}
use Rattle.cg_machine.specs.Machine.{IsInputs, MachineData, enable_of, next, values}
use Rattle.cg_net.specs.NetSets.{is_in}
use Rattle.cg_netlist.specs.Moment.{bit}
use Rattle.cg_netlist_cone.specs.declared.cone.Cone.{Cone}
use Rattle.cg_stage_list_laws.specs.Supports.{input_cone}

-- a register of the netlist without an enable, the nets of the cone of its inputs, what stands in it, and literals of these nets
pub record IsLook (m : MachineData) (r : ℕ) (nets : List ℕ) (cone : Cone) (literals : List Literal) : Type 0 where
  pub own : r < m.own_registers
  pub free : enable_of m r ≡ None
  pub nets_are : (y : ℕ) → is_in nets y ≡ is_in (input_cone m r) y
  pub within : (y : ℕ) → is_in nets y ≡ true → y < length m.circuit.names
  pub cone_is : IsConeOf m (input_cone m r) cone
  pub literals_of : (k : ℕ) (l : Literal) → slice_get literals k ≡ Some l → IsLiteralOf m r l

-- with some words of the registers, and some inputs in each lane, the nets of the cone of a register's inputs have these words,
-- and the register moves in these lanes
pub record AreConeCycles (m : MachineData) (r : ℕ) (nets : List ℕ) (moves : ℕ) : Type 0 where
  pub state : List ℕ
  pub is_state : length state ≡ length m.circuit.registers
  pub inputs : ℕ → List Bool
  pub are_inputs : (i : ℕ) → IsInputs m (inputs i)
  pub long : length nets ≡ length m.circuit.names
  pub nets_are : (i y : ℕ) → i < LANES → is_in (input_cone m r) y ≡ true → slice_get (lane i nets) y ≡ slice_get (values m (lane i state) (inputs i)) y
  pub moves_are : IsWord moves (λ i. exclusive_or (next m (values m (lane i state) (inputs i)) (lane i state) r) (bit (lane i state) r))

-- there is a mark for each literal, and those that are marked do not hold the register
pub record AreMarked (m : MachineData) (r : ℕ) (literals : List Literal) (marks : List Bool) : Type 0 where
  pub count : length marks ≡ length literals
  pub moved : (k : ℕ) (l : Literal) → slice_get literals k ≡ Some l → slice_get marks k ≡ Some true → is_never m (hold_question l r) ≡ false

-- Cycles of a machine.
use Rattle.std.specs.Prelude.{◌≡◌, ◌<◌, ℕ, Bool, List, length}
use Rattle.cg_hold.specs.inner.Laying.{AreMoves}
use Rattle.cg_word.specs.Words.{LANES, lane}
use Rattle.cg_machine.specs.Machine.{IsInputs, MachineData, values}
use Rattle.cg_hold.specs.declared.cycles.CycleWords.{CycleWords}

-- with some words of the registers, and some inputs in each lane, the nets have these words, and these registers move
pub record AreCycles (m : MachineData) (words : CycleWords) : Type 0 where
  pub state : List ℕ
  pub is_state : length state ≡ length m.circuit.registers
  pub inputs : ℕ → List Bool
  pub are_inputs : (i : ℕ) → IsInputs m (inputs i)
  pub nets : (i : ℕ) → i < LANES → lane i words.nets ≡ values m (lane i state) (inputs i)
  pub moves : AreMoves m state words.nets words.moves

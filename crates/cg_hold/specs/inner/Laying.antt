-- Words of a machine's nets and registers.
use Rattle.std.specs.Prelude.{◌≡◌, ◌<◌, ℕ, List, length, slice_get, slice_index_or, Some}
use Rattle.cg_cell.specs.Gates.{exclusive_or}
use Rattle.cg_claim.specs.Build.{given}
use Rattle.cg_word.specs.Words.{IsWord, LANES, lane, word_not}
use Rattle.cg_machine.specs.Machine.{MachineData, next}
use Rattle.cg_netlist.specs.Circuit.{LogicCell}
use Rattle.cg_netlist.specs.Moment.{bit}
use Rattle.cg_netlist.specs.Nets.{put_cells}

-- the word of a net before cells are laid: any at a data input, what its register shows, and 0 elsewhere
abbrev pub StartsAt : MachineData → List ℕ → ℕ → ℕ → Type 0
StartsAt m state net word = word ≡ given word_not 0 m.circuit (λ _. word) (λ r. slice_index_or state r 0) net

-- the words of all nets before cells are laid
pub record IsStart (m : MachineData) (state words : List ℕ) : Type 0 where
  pub long : length words ≡ length m.circuit.names
  pub each : (net word : ℕ) → slice_get words net ≡ Some word → StartsAt m state net word

-- logic cells were put one after another, in each lane
pub record Lays (cells : List (LogicCell ℕ)) (old new : List ℕ) : Type 0 where
  pub at : (i : ℕ) → i < LANES → lane i new ≡ put_cells cells (lane i old)

-- for each register the lanes in which it takes another bit
pub record AreMoves (m : MachineData) (state nets moves : List ℕ) : Type 0 where
  pub long : length moves ≡ length m.circuit.registers
  pub each : (r word : ℕ) → slice_get moves r ≡ Some word
      → IsWord word (λ i. exclusive_or (next m (lane i nets) (lane i state) r) (bit (lane i state) r))

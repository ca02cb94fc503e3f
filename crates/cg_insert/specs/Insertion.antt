-- What insertion promises.
use Rattle.std.specs.Prelude.{◌≡◌, ℕ, Bool, not, ◌&&◌, ◌||◌, List, [], ◌∷◌, map, slice_get, Option, None, Some}
use Rattle.cg_cell.specs.Cell.{CellData}
use Rattle.cg_netlist.specs.Circuit.{Circuit, RegisterCell}
use Rattle.cg_netlist.specs.History.{IsLawful, IsWaveform, Moment, Tick, outputs_of, rises}
use Rattle.cg_netlist.specs.WellFormed.{IsInNetOrder, IsWellFormed}
use Rattle.cg_insert.specs.Insert.{CanInsert, inserted, own_tick}
use Rattle.cg_machine.specs.Machine.{IsMachine, IsState, MachineData, enable_of, load, values}
use Rattle.cg_machine.specs.Run.{shown_from, states_from, test_shown_from, test_states_from}

-- a register rises where the clock rises and its enable, or the test input, was 1 a moment before
abbrev pub RisesFrom : Circuit → MachineData → Tick → Moment → List Tick → List Moment → Type 0
RisesFrom c m before was [] [] = Unit {0}
RisesFrom c m before was [] (now ∷ history) = ⊥
RisesFrom c m before was (tick ∷ wave) [] = ⊥
RisesFrom c m before was (tick ∷ wave) (now ∷ history) =
    ((r : ℕ) (cell : RegisterCell ℕ ℕ) → slice_get c.registers r ≡ Some cell
    → rises was.nets now.nets cell
    ≡ ((not before.clock && tick.clock)
    && (load (values m was.state (own_tick m before).0.inputs) (enable_of m r) || (own_tick m before).1)))
    × RisesFrom c m tick now wave history

abbrev pub RisesAre : Circuit → MachineData → List Tick → List Moment → Type 0
RisesAre c m [] [] = Unit {0}
RisesAre c m [] (now ∷ history) = ⊥
RisesAre c m (tick ∷ wave) [] = ⊥
RisesAre c m (tick ∷ wave) (now ∷ history) = RisesFrom c m tick now wave history

-- a history has the states and outputs of the machine's run, or of its test run over the bits of the test input
pub record IsRunOf (library : List CellData) (test : Option (List ℕ)) (m : MachineData) (start : List Bool) (wave : List Tick)
    (history : List Moment) : Type 0 where
  pub states : map (λ now. now.state) history ≡ test_states_from m None start (map (own_tick m) wave)
  pub outputs : outputs_of (inserted library test m) history ≡ test_shown_from m None start (map (own_tick m) wave)
  pub edges : RisesAre (inserted library test m) m wave history

abbrev pub InsertionIsRight : Type 0
InsertionIsRight = (library : List CellData) (test : Option (List ℕ)) (m : MachineData) → IsMachine m → CanInsert library test m →
    (start : List Bool) (wave : List Tick) (history : List Moment)
    → IsState m start → IsWaveform (inserted library test m) wave → IsLawful (inserted library test m) start wave history →
    IsRunOf library test m start wave history

-- without a test input it is the run
abbrev pub InsertionIsPlain : Type 0
InsertionIsPlain = (library : List CellData) (m : MachineData) → IsMachine m → CanInsert library None m →
    (start : List Bool) (wave : List Tick) (history : List Moment)
    → IsState m start → IsWaveform (inserted library None m) wave → IsLawful (inserted library None m) start wave history
    → (map (λ now. now.state) history ≡ states_from m None start wave)
    × (outputs_of (inserted library None m) history ≡ shown_from m None start wave)

abbrev pub InsertionIsFormed : Type 0
InsertionIsFormed = (library : List CellData) (test : Option (List ℕ)) (m : MachineData) → IsMachine m → CanInsert library test m →
    IsWellFormed (inserted library test m) × IsInNetOrder (inserted library test m)

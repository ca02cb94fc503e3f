-- What reads the nets of a machine, as far as it is known.
use Rattle.std.specs.Prelude.{◌≡◌, ◌<◌, ◌≤◌, ◌⊎◌, ℕ, true, List, [], length, slice_get, Some}
use Rattle.std.specs.Option.{option_map_or}
use Rattle.cg_netlist.specs.Circuit.{LogicCell}
use Rattle.cg_net.specs.NetSets.{is_in}
use Rattle.cg_machine.specs.Machine.{MachineData, enable_of}
use Rattle.cg_claim.specs.Reach.{next_nets}
use Rattle.cg_claim_reach.specs.declared.tables.Tables.{Tables}

-- the readers of a net, by their numbers; there are none behind the last list
abbrev pub readers_at : List (List ℕ) → ℕ → List ℕ
readers_at lists y = option_map_or (λ l. l) (slice_get lists y) []

-- of the first cells, outputs and registers of a machine each stands with all nets that it reads; more may stand there
pub record Knows (m : MachineData) (f : Tables) : Type 0 where
  pub few_cells : f.cell_count ≤ length m.circuit.cells
  pub few_outputs : f.output_count ≤ length m.circuit.outputs
  pub few_registers : f.register_count ≤ length m.circuit.registers
  pub cells : (k : ℕ) (cell : LogicCell ℕ) (y : ℕ) → k < f.cell_count → slice_get m.circuit.cells k ≡ Some cell →
      is_in cell.inputs y ≡ true → is_in (readers_at f.cells y) k ≡ true
  pub outputs : (k y : ℕ) → k < f.output_count → slice_get m.circuit.outputs k ≡ Some y → is_in (readers_at f.outputs y) k ≡ true
  pub registers : (r y : ℕ) → r < f.register_count → is_in (next_nets m r) y ≡ true → is_in (readers_at f.registers y) r ≡ true

-- n has all that m has under the same numbers, but that these registers may have got this net as their enable
pub record Grows (m n : MachineData) (regs : List ℕ) (net : ℕ) : Type 0 where
  pub cells : (k : ℕ) → k < length m.circuit.cells → slice_get n.circuit.cells k ≡ slice_get m.circuit.cells k
  pub more_cells : length m.circuit.cells ≤ length n.circuit.cells
  pub outputs : n.circuit.outputs ≡ m.circuit.outputs
  pub registers : (r : ℕ) → r < length m.circuit.registers → slice_get n.circuit.registers r ≡ slice_get m.circuit.registers r
  pub more_registers : length m.circuit.registers ≤ length n.circuit.registers
  pub enables : (r e : ℕ) → r < length m.circuit.registers → enable_of n r ≡ Some e →
      (enable_of m r ≡ Some e) ⊎ ((is_in regs r ≡ true) × (e ≡ net))

-- What drives nets from outside the logic cells.
use Rattle.std.specs.Prelude.{◌≡◌, ℕ, Bool, true, false, List, slice_get, nat_eq}
use Rattle.std.specs.List.{list_any}
use Rattle.std.specs.Option.{option_map_or}
use Rattle.cg_machine.specs.Machine.{MachineData}
use Rattle.cg_netlist.specs.Circuit.{data_inputs, shown_nets}
use Rattle.cg_net.specs.NetSets.{is_in}
use Rattle.cg_netlist.specs.declared.driver.Driver.{Driver}
use Rattle.cg_netlist.specs.declared.driver.Driver.TheVariants.{Input, Register}
use Rattle.cg_stage_groups.specs.declared.support.Support.{Support}

-- a driver is a data input, is register k
abbrev pub is_input : Driver → Bool
is_input Input = true
is_input _ = false

abbrev pub is_register : Driver → ℕ → Bool
is_register (Register r inverted) k = nat_eq k r
is_register _ k = false

-- register k shows its bit at a net
abbrev pub shows_at : MachineData → ℕ → ℕ → Bool
shows_at m k y = option_map_or (λ cell. is_in (shown_nets cell) y) (slice_get m.circuit.registers k) false

-- a data input among the nets, and the registers that show their bits at one
pub record IsEdge (m : MachineData) (nets : List ℕ) (s : Support) : Type 0 where
  pub input : s.has_input ≡ list_any (is_in (data_inputs m.circuit)) nets
  pub registers : (k : ℕ) → is_in s.registers k ≡ list_any (shows_at m k) nets

-- A table of what drives each net, as it is filled in: first with data inputs everywhere, then cell by cell, gating cell
-- by gating cell, register by register, and at the clock.
use Rattle.std.specs.Prelude.{◌≡◌, ℕ, false, List, ◌++◌, length, slice_get, Some}
use Rattle.std.specs.Option.{option_to_list}
use Rattle.cg_netlist.specs.Circuit.{Circuit, cell_nets, gater_outputs, register_nets}
use Rattle.cg_net.specs.NetSets.{is_in}
use Rattle.cg_netlist.specs.Drivers.{IsDriver}
use Rattle.cg_netlist.specs.declared.driver.Driver.{Driver}

-- the nets that are still to come behind the registers, behind the gating cells, behind the logic cells, and at first
abbrev pub behind_registers : Circuit → List ℕ
behind_registers c = option_to_list c.clock

abbrev pub behind_gaters : Circuit → List ℕ
behind_gaters c = register_nets c ++ behind_registers c

abbrev pub behind_cells : Circuit → List ℕ
behind_cells c = gater_outputs c ++ behind_gaters c

abbrev pub all_but_inputs : Circuit → List ℕ
all_but_inputs c = cell_nets c ++ behind_cells c

-- the table is right at each net but those that are left
pub record IsTold (c : Circuit) (left : List ℕ) (table : List Driver) : Type 0 where
  pub long : length table ≡ length c.names
  pub right : (net : ℕ) (driver : Driver) → slice_get table net ≡ Some driver → is_in left net ≡ false → IsDriver c net driver

-- What drives the nets of a netlist.
use Rattle.std.specs.Prelude.{◌≡◌, ℕ, true, List, length, slice_get, Some}
use Rattle.cg_netlist.specs.Circuit.{Circuit, GatingCell, LogicCell, RegisterCell, data_inputs}
use Rattle.cg_net.specs.NetSets.{is_in}
use Rattle.cg_netlist.specs.declared.driver.Driver.{Driver}
use Rattle.cg_netlist.specs.declared.driver.Driver.TheVariants.{Input, Clock, Cell, Gater, Register}

-- a net is a data input, the clock, the output of this logic cell or of this gating cell, or an output of this
-- register, which shows its bit or the inverse
abbrev pub IsDriver : Circuit → ℕ → Driver → Type 0
IsDriver c net Input = is_in (data_inputs c) net ≡ true
IsDriver c net Clock = c.clock ≡ Some net
IsDriver c net (Cell k) = (cell : LogicCell ℕ) × (slice_get c.cells k ≡ Some cell) × (cell.output ≡ net)
IsDriver c net (Gater k) = (gater : GatingCell ℕ) × (slice_get c.gaters k ≡ Some gater) × (gater.output ≡ net)
IsDriver c net (Register r inverted) =
    (register : RegisterCell ℕ ℕ) × (place : ℕ) × (slice_get c.registers r ≡ Some register)
    × (slice_get register.outputs place ≡ Some (net, inverted))

-- what drives each net, in the order of the nets
pub record AreDrivers (c : Circuit) (drivers : List Driver) : Type 0 where
  pub long : length drivers ≡ length c.names
  pub each : (net : ℕ) (driver : Driver) → slice_get drivers net ≡ Some driver → IsDriver c net driver

-- When two netlists are V-equal: the same, but for what Verilog does not keep.
use Rattle.std.specs.Prelude.{◌≡◌, ℕ, ◌==◌, Bool, if◌then◌else◌, List, length, map}
use Rattle.std.specs.List.{AllZip}
use Rattle.cg_cell.specs.Cell.{CellData}
use Rattle.cg_netlist.specs.Circuit.{Circuit, LogicCell, RegisterCell, data_inputs}
use Rattle.cg_netlist.specs.Moment.{function_value, values_at}
use Rattle.cg_netlist.specs.declared.parts.LogicFunction.TheVariants.{Cell}

-- Two logic cells are alike in a netlist of n nets: they drive one net; one is a placed cell only if the other is the same
-- placed cell on the same nets; and they have one value, whatever bits the nets have.
pub record AreAlike (n : ℕ) (cell other : LogicCell ℕ) : Type 0 where
  pub output : cell.output ≡ other.output
  pub placed : (placed : CellData) → cell.function ≡ Cell placed → cell ≡ other
  pub other_placed : (placed : CellData) → other.function ≡ Cell placed → cell ≡ other
  pub value : (bits : List Bool) → length bits ≡ n
      → function_value cell.function (values_at bits cell.inputs) ≡ function_value other.function (values_at bits other.inputs)

-- an init as Verilog keeps it: 2, which does not matter, counts as 3, which is not known
abbrev pub kept_init : ℕ → ℕ
kept_init init = if init == 2 then 3 else init

abbrev pub kept : {N K : Type 0} → RegisterCell N K → RegisterCell N K
kept r = record r { init = kept_init r.init }

-- V-equal netlists differ in three things at most: how a cover says its value, whether an init that is not 0 or 1 is 2 or 3,
-- and whether the clock is listed as an input. All else is one and the same, and stands in one order.
pub record AreVEqual (c d : Circuit) : Type 0 where
  pub model : c.model ≡ d.model
  pub names : c.names ≡ d.names
  pub inputs : data_inputs c ≡ data_inputs d
  pub clock : c.clock ≡ d.clock
  pub outputs : c.outputs ≡ d.outputs
  pub cells : AllZip (AreAlike (length c.names)) c.cells d.cells
  pub gaters : c.gaters ≡ d.gaters
  pub registers : map kept c.registers ≡ map kept d.registers

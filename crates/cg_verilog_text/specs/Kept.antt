-- What Verilog keeps of a netlist.
use Rattle.std.specs.Prelude.{ℕ, Bool, not, List, ◌++◌, map, nat_eq, Option}
use Rattle.std.specs.List.{filter}
use Rattle.std.specs.Option.{option_to_list}
use Rattle.cg_net.specs.NetSets.{is_in}
use Rattle.cg_netlist.specs.Circuit.{Circuit, LogicCell}
use Rattle.cg_netlist.specs.declared.parts.LogicFunction.{LogicFunction}
use Rattle.cg_netlist.specs.declared.parts.LogicFunction.TheVariants.{Cover, Cell}
use Rattle.cg_verilog_text.specs.CoverForms.{form_of}
use Rattle.cg_verilog_text.specs.Meaning.{form_cell}
use Rattle.cg_verilog_text.specs.VEqual.{kept}

-- a cover as the form that is written of it; a placed cell as it is
abbrev pub kept_function : {N : Type 0} → (N → N → Bool) → List N → N → LogicFunction → LogicCell N
kept_function same inputs output (Cover cover) = form_cell same output (form_of same inputs cover)
kept_function same inputs output (Cell cell) = record { inputs = inputs; output = output; function = Cell cell }

abbrev pub kept_cell : {N : Type 0} → (N → N → Bool) → LogicCell N → LogicCell N
kept_cell same cell = kept_function same cell.inputs cell.output cell.function

-- the inputs, and behind them the clock where it is none
abbrev pub inputs_and_clock : List ℕ → Option ℕ → List ℕ
inputs_and_clock inputs clock = inputs ++ filter (λ net. not (is_in inputs net)) (option_to_list clock)

-- the netlist that its text says: the clock is an input, covers are forms, and inits are as Verilog keeps them
abbrev pub kept_netlist : Circuit → Circuit
kept_netlist c =
    record c {
      inputs = inputs_and_clock c.inputs c.clock;
      cells = map (kept_cell nat_eq) c.cells;
      registers = map kept c.registers;
    }

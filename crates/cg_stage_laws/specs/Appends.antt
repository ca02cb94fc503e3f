-- A machine with gates and delay registers behind all that it had, and nothing else.
use Rattle.std.specs.Prelude.{◌≡◌, ℕ, List, ◌++◌, map, None}
use Rattle.cg_machine.specs.Added.{HasNames, own_netlist}
use Rattle.cg_machine.specs.Extends.{Extends}
use Rattle.cg_machine.specs.Gates.{AddedGate, gate_cell}
use Rattle.cg_machine.specs.Machine.{IsMachine, MachineData}
use Rattle.cg_netlist.specs.Circuit.{RegisterCell}

-- n is m with gates and registers behind all that m has, and nothing else: the netlist that m was made of and the prefix of the
-- names of added nets are m's, and no register of m has another enable, and none behind them has one
pub record Appends (m n : MachineData) : Type 0 where
  pub netlist : own_netlist n ≡ own_netlist m
  pub prefix : n.prefix ≡ m.prefix
  pub own_cells : n.own_cells ≡ m.own_cells
  pub own_registers : n.own_registers ≡ m.own_registers
  pub more_names : List (List ℕ)
  pub more_gates : List AddedGate
  pub more_registers : List (RegisterCell ℕ ℕ)
  pub names : n.circuit.names ≡ m.circuit.names ++ more_names
  pub gates : n.gates ≡ m.gates ++ more_gates
  pub cells : n.circuit.cells ≡ m.circuit.cells ++ map gate_cell more_gates
  pub registers : n.circuit.registers ≡ m.circuit.registers ++ more_registers
  pub enables : n.enables ≡ m.enables ++ map (λ register. None) more_registers
  pub named : HasNames m → HasNames n

-- n is a machine that has all that m has, in which m's nets show what they show in m; behind that stand gates and delay registers
-- that were added, or none, and nothing else
pub record Keeps (m n : MachineData) : Type 0 where
  pub good : IsMachine n
  pub extends : Extends m n
  pub appends : Appends m n

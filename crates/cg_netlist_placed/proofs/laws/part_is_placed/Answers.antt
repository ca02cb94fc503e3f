use Rattle.cg_netlist_placed.proofs.PlacedFlop.{flop_is_placed}
use Rattle.cg_netlist_placed.proofs.PlacedLogic.{gater_is_placed, logic_is_placed}
use Rattle.cg_netlist_placed.proofs.laws.part_is_placed.Goals as goal

pub returns-clause-logic : goal.returns-clause-logic
returns-clause-logic c = logic_is_placed

pub returns-clause-gater : goal.returns-clause-gater
returns-clause-gater c = gater_is_placed

pub returns-clause-register : goal.returns-clause-register
returns-clause-register c = flop_is_placed

use Rattle.std.proofs.Common.{◌++◌}
use Rattle.std.specs.List.{flat_map}
use Rattle.cg_verilog_out.specs.Writing.{cell_items, flop_items, gater_items}
use Rattle.cg_verilog_out.proofs.LookedAt.{items_behind, items_front}
use Rattle.cg_verilog_out.proofs.refusals.check_parts.Goals as goal

pub returns-in-Ok : goal.returns-in-Ok
returns-in-Ok c =
    let n = c.args.netlist.now in
    items_behind (flat_map (cell_items n.names) n.cells) (flat_map (gater_items n.names) n.gaters ++ flat_map (flop_items n.names) n.registers) c.check_clocked.result c.in-Ok.ensures c.check_clocked.ensures

pub returns-in-Err : goal.returns-in-Err
returns-in-Err c =
    let n = c.args.netlist.now in items_front (flat_map (cell_items n.names) n.cells) (flat_map (gater_items n.names) n.gaters ++ flat_map (flop_items n.names) n.registers) c.in-Err.fault c.in-Err.ensures

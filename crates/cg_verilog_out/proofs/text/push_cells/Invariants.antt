use Rattle.std.proofs.Common.{[], Some, take}
use Rattle.std.specs.List.{flat_map}
use Rattle.cg_verilog_out.specs.Writing.{Writes, cell_items}
use Rattle.cg_verilog_out.specs.inner.Numbering.{left}
use Rattle.cg_verilog_out.specs.inner.OpenTerms.{IsOpen}
use Rattle.cg_verilog_out.proofs.text.push_cells.Given as goal

abbrev pub invariant-cells : goal.invariant-cells
invariant-cells l =
    Writes (flat_map (cell_items l.netlist.names) (take l.number l.netlist.cells)) l.fn.out.items l.out.items (left l.fn.labels) (left l.labels)
    × IsOpen l.netlist.names l.open_term (Some [])

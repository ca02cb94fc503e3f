use Rattle.std.proofs.Common.{◌≡◌, not, None, take}
use Rattle.std.specs.List.{find, flat_map}
use Rattle.cg_verilog_text.specs.HasText.{is_ascii, names_in}
use Rattle.cg_verilog_out.specs.Writing.{cell_items}
use Rattle.cg_verilog_out.proofs.refusals.check_cells.Given as goal

abbrev pub invariant-cells : goal.invariant-cells
invariant-cells l = find (λ name. not (is_ascii name)) (flat_map (λ part. flat_map names_in (cell_items l.netlist.names part)) (take l.number l.netlist.cells)) ≡ None

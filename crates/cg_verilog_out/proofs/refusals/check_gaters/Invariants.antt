use Rattle.std.proofs.Common.{◌≡◌, not, None, take}
use Rattle.std.specs.List.{find, flat_map}
use Rattle.cg_verilog_text.specs.HasText.{is_ascii, names_in}
use Rattle.cg_verilog_out.specs.Writing.{gater_items}
use Rattle.cg_verilog_out.proofs.refusals.check_gaters.Given as goal

abbrev pub invariant-gaters : goal.invariant-gaters
invariant-gaters l = find (λ name. not (is_ascii name)) (flat_map (λ part. flat_map names_in (gater_items l.netlist.names part)) (take l.number l.netlist.gaters)) ≡ None

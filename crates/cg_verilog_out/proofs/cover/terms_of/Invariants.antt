use Rattle.std.proofs.Common.{◌≡◌, [], Some, map, nat_eq, take}
use Rattle.std.specs.List.{filter_map}
use Rattle.cg_verilog_text.specs.CoverForms.{term_of}
use Rattle.cg_verilog_out.specs.inner.OpenTerms.{IsOpen, literal_named}
use Rattle.cg_verilog_out.proofs.cover.terms_of.Given as goal

abbrev pub invariant-rows : goal.invariant-rows
invariant-rows l =
    (l.terms.items ≡ map (map (literal_named l.netlist.names)) (filter_map (term_of nat_eq l.inputs) (take l.number l.rows)))
    × IsOpen l.netlist.names l.open_term (Some [])

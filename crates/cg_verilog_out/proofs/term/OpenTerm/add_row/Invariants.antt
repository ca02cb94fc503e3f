use Rattle.std.proofs.Common.{drop, nat_eq}
use Rattle.cg_verilog_text.specs.CoverForms.{term_of}
use Rattle.cg_verilog_out.specs.inner.OpenTerms.{IsPart}
use Rattle.cg_verilog_out.proofs.term.OpenTerm.add_row.Given as goal

abbrev pub invariant-places : goal.invariant-places
invariant-places l = IsPart l.netlist.names l.self (drop l.at l.inputs) (drop l.at l.row) (term_of nat_eq l.inputs l.row)

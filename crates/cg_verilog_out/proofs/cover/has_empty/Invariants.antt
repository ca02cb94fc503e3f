use Rattle.std.proofs.Common.{◌≡◌, drop}
use Rattle.std.specs.List.{list_any}
use Rattle.cg_verilog_text.specs.CoverForms.{is_empty}
use Rattle.cg_verilog_out.proofs.cover.has_empty.Given as goal

abbrev pub invariant-terms : goal.invariant-terms
invariant-terms l = list_any is_empty (drop l.term-index l.terms) ≡ list_any is_empty l.terms

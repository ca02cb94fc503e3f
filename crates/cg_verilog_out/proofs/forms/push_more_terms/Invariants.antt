use Rattle.std.proofs.Common.{◌≡◌, ◌++◌, drop}
use Rattle.cg_verilog_out.specs.Pieces.{more_terms}
use Rattle.cg_verilog_out.proofs.forms.push_more_terms.Given as goal

abbrev pub invariant-terms : goal.invariant-terms
invariant-terms l = l.out.items ++ more_terms (drop l.term-index l.terms) ≡ l.fn.out.items ++ more_terms l.terms

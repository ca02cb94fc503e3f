use Rattle.std.proofs.Common.{◌≡◌, ◌++◌, drop}
use Rattle.cg_verilog_out.specs.Pieces.{more_literals}
use Rattle.cg_verilog_out.proofs.forms.push_more_literals.Given as goal

abbrev pub invariant-literals : goal.invariant-literals
invariant-literals l = l.out.items ++ more_literals (drop l.literal-index l.literals) ≡ l.fn.out.items ++ more_literals l.literals

use Rattle.std.proofs.Common.{take}
use Rattle.cg_verilog_expression.specs.Terms.{AreKnown}
use Rattle.cg_verilog_expression.proofs.term.table_of.Given as goal

abbrev pub invariant-literals : goal.invariant-literals
invariant-literals l = AreKnown (take l.literal-index l.literals) l.table

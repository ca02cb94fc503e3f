use Rattle.std.proofs.Common.{arith, []}
use Rattle.cg_verilog_out.proofs.CoverLines.{rows_next}
use Rattle.cg_verilog_out.proofs.cover.terms_of.Goals as goal

pub of_row-requires-clause-none : goal.of_row-requires-clause-none
of_row-requires-clause-none c = c.rows.invariant.1

pub rows-preserved : goal.rows-preserved
rows-preserved c = (
  rows_next c.args.netlist.now.names c.args.inputs.now c.args.rows.now c.rows.number c.row.result.now [] _ c.rows.terms.items c.push_term.new.terms.items (omega arith) c.row.ensures c.in_ok-term.ensures.term c.rows.invariant.0 c.in_ok-push_term.ensures,
  c.in_ok-term.ensures.none,
)

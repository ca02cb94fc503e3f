use Rattle.std.proofs.Common.{◌∙◌, take}
use Rattle.cg_verilog.proofs.CoverRows.{rows_of_one}
use Rattle.cg_verilog.proofs.cover.rows_of.Goals as goal

pub push-requires : goal.push-requires
push-requires c =
    rows_of_one c.args.inputs.now (take c.terms.term-index c.args.terms.now) c.as_slice.result.now c.terms.rows c.deref.result.now c.terms.invariant (c.deref.ensures.value ∙ c.in_ok-make_row.ensures)

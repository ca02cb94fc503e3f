use Rattle.cg_stimulus.proofs.Columns.{found_column}
use Rattle.cg_stimulus.proofs.header.column_of.Goals as goal

pub returns : goal.returns
returns c = found_column c.args.names.now c.args.name.now c.find.result c.len.ensures.different c.find.ensures

use Rattle.cg_blif.proofs.reader.read_line.Goals as goal

pub returns-then-is_row : goal.returns-then-is_row
returns-then-is_row c = c.read_row.ensures c.args.library.now

use Rattle.std.proofs.Common.{◌≡◌, ◌==◌, map, take, slice_index_or}
use Rattle.cg_stimulus.proofs.row.bits_of.Given as goal

abbrev pub invariant-loop-column : goal.invariant-loop-column
invariant-loop-column l = l.bits.items ≡ map (λ column. slice_index_or l.word column 0 == 49) (take l.column-index l.header.columns)

use Rattle.std.proofs.Common.{arith, rules, w64}
use Rattle.std.proofs.lemmas.Nat.Bits.{bit_at-trailing_zeros}
use Rattle.cg_edge.proofs.marks.lowest.Goals as goal

pub returns : goal.returns
returns c = let lowest = bit_at-trailing_zeros w64 c.args.word (omega arith) (search rules) in record { low = lowest.0; one = lowest.1; first = lowest.2 }

use Rattle.cg_cell.specs.Bits.{no_pairs}
use Rattle.cg_cell.proofs.BitsEvals.{bits_cover, bits_valid}
use Rattle.cg_cell.proofs.cover.Cover.eval_bits.Goals as goal

pub eval-requires-clause-valid : goal.eval-requires-clause-valid
eval-requires-clause-valid c = bits_valid c.args.bits.now

pub returns : goal.returns
returns c = bits_cover c.args.bits.now c.args.self.now no_pairs c.in-Ok.bit c.in-Ok.ensures.built

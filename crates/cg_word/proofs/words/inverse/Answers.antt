use Rattle.cg_word.proofs.Lanes.{complement}
use Rattle.cg_word.proofs.words.inverse.Goals as goal

pub returns : goal.returns
returns c = complement c.args.word c.ranges.word.fits

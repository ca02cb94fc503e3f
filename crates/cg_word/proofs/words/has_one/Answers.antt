use Rattle.cg_word.proofs.Lanes.{not_zero, some_lane}
use Rattle.cg_word.proofs.words.has_one.Goals as goal

pub returns : goal.returns
returns c = (some_lane c.args.word c.ranges.word.fits, not_zero c.args.word)

use Rattle.cg_cell.specs.Cover.{cover_value}
use Rattle.cg_word.proofs.Lanes.{evaluated}
use Rattle.cg_word.proofs.words.cover_word.Goals as goal

pub returns : goal.returns
returns c = evaluated c.in-Ok.word c.args.inputs.now (cover_value c.args.cover.now) _ _ c.in-Ok.ensures.built

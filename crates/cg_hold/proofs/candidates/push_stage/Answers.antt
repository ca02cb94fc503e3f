use Rattle.std.proofs.Common.{arith}
use Rattle.cg_hold.proofs.Taken.{empty_stage}
use Rattle.cg_hold.proofs.candidates.push_stage.Goals as goal

pub returns-else-not-is_empty : goal.returns-else-not-is_empty
returns-else-not-is_empty c =
    empty_stage c.args.lists.now c.args.literal c.place_of.result c.index-lists-place_of.result c.is_empty.result c.args.stages.now c.place_of.ensures (let e = c.place_of.ensures in omega (arith, e, c.requires)) c.index-lists-place_of.is c.is_empty.ensures.none c.if-not-is_empty.false

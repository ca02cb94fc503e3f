use Rattle.std.proofs.Common.{◌≡◌, slice_index_or, ◌∙◌, ap, subst, bit_and}
use Rattle.cg_hold.proofs.Cycled.{move_seen}
use Rattle.cg_word.specs.Words.{HasOne}
use Rattle.cg_hold.proofs.cycles.Cycles.show_move.Goals as goal

pub returns : goal.returns
returns c = λ shows.
    let word : slice_index_or c.as_slice.result.now c.number.result 0 ≡ slice_index_or c.args.self.now.cycles.moves c.args.reg 0 =
    ap (λ words. slice_index_or words c.number.result 0) c.as_slice.ensures.parts ∙ ap (λ n. slice_index_or c.args.self.now.cycles.moves n 0) c.number.ensures.number in
    move_seen c.args.machine.now c.netlist-netlist.ensures.machine c.args.self.now.cycles c.requires.cycles c.args.literal c.zeros.result c.zeros.ensures c.args.reg c.requires.register
    (subst (λ moves. HasOne (bit_and c.zeros.result moves)) word (c.has_one.ensures.0 shows))

use Rattle.std.proofs.Common.{◌<◌, length, arith}
use Rattle.cg_text.specs.Blanks.{is_line_feed}
use Rattle.cg_text.proofs.Pieces.{cut_at, cut_all}
use Rattle.cg_blif.proofs.lines.cut_line.Goals as goal

pub returns-then-len-text-clause-cut : goal.returns-then-len-text-clause-cut
returns-then-len-text-clause-cut c =
    cut_all is_line_feed c.args.text.now c.first_at-len.result c.first_at-len.ensures.before c.if-len-text.true c.requires

pub returns-clause-cut : goal.returns-clause-cut
returns-clause-cut c =
    let inside : c.first_at-len.result < length c.args.text.now = omega (arith, c.first_at-len.ensures.within) in
    cut_at is_line_feed c.args.text.now c.first_at-len.result c.first_at-len.ensures.before inside (c.first_at-len.ensures.ends inside)

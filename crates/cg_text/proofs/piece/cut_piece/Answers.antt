use Rattle.std.proofs.Common.{◌<◌, length, arith}
use Rattle.cg_text.specs.Blanks.{separates}
use Rattle.cg_text.proofs.Pieces.{cut_at, cut_all}
use Rattle.cg_text.proofs.piece.cut_piece.Goals as goal

pub returns-then-len-text-clause-cut : goal.returns-then-len-text-clause-cut
returns-then-len-text-clause-cut c =
    cut_all (separates c.args.separator) c.args.text.now c.piece_len-len.result c.piece_len-len.ensures.before c.if-len-text.true c.requires

pub returns-clause-cut : goal.returns-clause-cut
returns-clause-cut c =
    let inside : c.piece_len-len.result < length c.args.text.now = omega (arith, c.piece_len-len.ensures.within) in
    cut_at (separates c.args.separator) c.args.text.now c.piece_len-len.result c.piece_len-len.ensures.before inside (c.piece_len-len.ensures.ends inside)

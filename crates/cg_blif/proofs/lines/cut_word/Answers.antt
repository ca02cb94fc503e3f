use Rattle.std.proofs.Common.{◌<◌, length, arith}
use Rattle.cg_text.specs.Blanks.{is_blank}
use Rattle.cg_text.specs.declared.blanks.Blanks.TheVariants.{Controls}
use Rattle.cg_text.proofs.Pieces.{cut_at, cut_all}
use Rattle.cg_blif.proofs.ReadLemmas.{before_blank, without_blank}
use Rattle.cg_blif.proofs.lines.cut_word.Goals as goal

pub returns-then-len-line-clause-cut : goal.returns-then-len-line-clause-cut
returns-then-len-line-clause-cut c =
    cut_all (is_blank Controls) c.args.line.now c.first_blank-len.result c.first_blank-len.ensures.before c.if-len-line.true c.requires.some

pub returns-then-len-line-clause-word : goal.returns-then-len-line-clause-word
returns-then-len-line-clause-word c = without_blank c.args.line.now c.first_blank-len.result c.if-len-line.true c.first_blank-len.ensures.before c.requires.read

pub returns-clause-cut : goal.returns-clause-cut
returns-clause-cut c =
    let inside : c.first_blank-len.result < length c.args.line.now = omega (arith, c.first_blank-len.ensures.within) in
    cut_at (is_blank Controls) c.args.line.now c.first_blank-len.result c.first_blank-len.ensures.before inside (c.first_blank-len.ensures.ends inside)

pub returns-clause-word : goal.returns-clause-word
returns-clause-word c = before_blank c.args.line.now c.first_blank-len.result c.first_blank-len.ensures.before c.requires.read

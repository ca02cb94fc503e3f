use Rattle.std.proofs.Common.{◌≡◌, [], Option, Err, sym, ap, ◌∙◌, subst}
use Rattle.cg_blif_text.specs.LogicalLines.{text_lines}
use Rattle.cg_blif_text.specs.Telling.{tell_lines}
use Rattle.cg_blif_text.specs.declared.fault.BlifFault.{BlifFault}
use Rattle.cg_blif.specs.Hearing.{Hears}
use Rattle.cg_blif_text.specs.OpenCovers.{CoverSoFar}
use Rattle.cg_blif_text.specs.LinesLeft.{closed_said}
use Rattle.cg_blif.specs.Resuming.{IsFaultOf, left_of}
use Rattle.cg_blif.proofs.ReadingLemmas.{end_refused, fault_along, unnamed_at}
use Rattle.cg_blif.proofs.reader.hear_lines.Goals as goal

pub returns-in-Err-BadLine : goal.returns-in-Err-BadLine
returns-in-Err-BadLine c =
    let library = c.args.library.now in
    fault_along (left_of library c.lines.reading c.lines.lines) (tell_lines library (text_lines c.args.text.now)) c.close_at.result c.lines.invariant.left
    (c.close_at.ensures library c.lines.lines (unnamed_at c.lines.lines c.in-Err-BadLine.field-0 _ (cc) c.in-Err-BadLine.ensures.bad))

pub returns : goal.returns
returns c =
    let library = c.args.library.now in
    let r = c.lines.reading in
    let made = tell_lines library (text_lines c.args.text.now) in
    let cover : c.take-cover.result ≡ r.cover = cc in
    let none_left = rw c.in-Ok-None.field-0-is at c.in-Ok-None.ensures.line in
    let ended : left_of library r [] ≡ made = ap (left_of library r) (sym none_left.0) ∙ c.lines.invariant.left in
    let F : BlifFault → Type 0 = λ fault. IsFaultOf made fault in
    let H : Option CoverSoFar → Type 0 = λ o. Hears r.builder c.close.new.builder (closed_said r.builder.said o) (Err c.in-Err-close.refusal) in
    subst F (sym c.at_line-in-Err-close.ensures) (end_refused library r c.lines.invariant.at c.close.new.builder made c.in-Err-close.refusal ended (subst H cover c.in-Err-close.ensures))

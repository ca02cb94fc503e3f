use Rattle.std.proofs.Common.{◌≡◌, Option, Err, sym, ap, ◌∙◌, subst}
use Rattle.cg_blif_text.specs.declared.fault.BlifFault.{BlifFault}
use Rattle.cg_blif.specs.Hearing.{Hears}
use Rattle.cg_blif_text.specs.OpenCovers.{CoverSoFar}
use Rattle.cg_blif_text.specs.LinesLeft.{closed_said}
use Rattle.cg_blif.specs.Resuming.{IsFaultOf, left_of}
use Rattle.cg_blif.proofs.ReadingLemmas.{close_fails, unnamed_fails}
use Rattle.cg_blif.proofs.reader.close_at.Goals as goal

pub returns-in-Ok : goal.returns-in-Ok
returns-in-Ok c = λ library lines line.
    let r = c.args.reading.now in
    let cover : c.take-cover.result ≡ r.cover = cc in
    unnamed_fails library r c.requires c.close.new.builder.said c.args.number lines (ap (closed_said r.builder.said) (sym cover) ∙ c.in-Ok.ensures.2) line

pub returns-in-Err : goal.returns-in-Err
returns-in-Err c = λ library lines line.
    let r = c.args.reading.now in
    let cover : c.take-cover.result ≡ r.cover = cc in
    let F : BlifFault → Type 0 = λ fault. IsFaultOf (left_of library r lines) fault in
    let H : Option CoverSoFar → Type 0 = λ o. Hears r.builder c.close.new.builder (closed_said r.builder.said o) (Err c.in-Err.refusal) in
    subst F (sym c.at_line.ensures) (close_fails library r c.requires c.close.new.builder c.args.number lines c.in-Err.refusal (subst H cover c.in-Err.ensures) line)

use Rattle.std.proofs.Common.{◌≡◌, Option, Some, sym, ap, ◌∙◌, subst}
use Rattle.cg_blif_text.specs.OpenCovers.{CoverSoFar}
use Rattle.cg_blif_text.specs.LinesLeft.{closed_said}
use Rattle.cg_blif.specs.Resuming.{IsFresh}
use Rattle.cg_blif.proofs.ReadingLemmas.{fresh_row, row_fails, row_taken}
use Rattle.cg_blif.proofs.reader.Reading.read_row.Goals as goal

pub returns-then-branch : goal.returns-then-branch
returns-then-branch c = λ library.
    let r = c.args.self.now in
    let some : r.cover ≡ Some c.in-Some.cover = cc in
    let F : Option CoverSoFar → Type 0 = λ o. IsFresh r.place r.builder o in
    let with = rw (c.if-branch.true, c.deref.ensures.value) at c.in_ok-read_row-in-Some.ensures in (
      (c.requires.at.0, fresh_row r.place r.builder r.builder c.in-Some.cover (Some c.read_row.new.self) (subst F some c.requires.at.1)),
      λ number later. row_taken library r c.requires.at c.args.buffers.now.words.items number later c.requires.row c.in-Some.cover c.read_row.new.self some c.requires.named with,
    )

pub returns-in_ok-close-in-Some : goal.returns-in_ok-close-in-Some
returns-in_ok-close-in-Some c = λ library number later.
    let r = c.args.self.now in
    let some : r.cover ≡ Some c.in-Some.cover = cc in
    let without = rw (c.if-branch.false, c.deref.ensures.value) at c.in_ok-read_row-in-Some.ensures in
    row_fails library r c.requires.at c.args.buffers.now.words.items number later c.requires.row c.in-Some.cover c.close.new.builder.said some c.requires.named without.0
    (ap (λ (p : CoverSoFar). closed_said r.builder.said (Some p)) (sym without.1) ∙ c.in_ok-close-in-Some.ensures.2)

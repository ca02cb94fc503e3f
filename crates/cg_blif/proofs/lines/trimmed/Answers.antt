use Rattle.std.proofs.Common.{arith, sym, ap, ◌∙◌, subst}
use Rattle.std.specs.List.{AllPass}
use Rattle.cg_blif.specs.Physical.{is_read, without_end}
use Rattle.cg_blif.proofs.ReadLemmas.{front_passes}
use Rattle.cg_blif.proofs.Trimmed.{without_end_kept, without_end_more}
use Rattle.cg_blif.proofs.lines.trimmed.Goals as goal

pub blanks-smaller : goal.blanks-smaller
blanks-smaller c = omega (arith, c.in-Some.ensures.cases.1)

pub blanks-preserved : goal.blanks-preserved
blanks-preserved c = record {
  trimmed =
      sym (without_end_more c.in-Some.front.now c.in-Some.last.now (sym c.is_trailing.ensures ∙ c.if-not-is_trailing.false))
      ∙ (sym (ap without_end c.in-Some.ensures.cases.0) ∙ c.blanks.invariant.trimmed);
  read = front_passes is_read c.in-Some.front.now c.in-Some.last.now (subst (AllPass is_read) c.in-Some.ensures.cases.0 c.blanks.invariant.read);
}

pub returns-then-not-is_trailing-clause-trimmed : goal.returns-then-not-is_trailing-clause-trimmed
returns-then-not-is_trailing-clause-trimmed c =
    c.in-Some.ensures.cases.0 ∙ (sym (without_end_kept c.in-Some.front.now c.in-Some.last.now (sym c.is_trailing.ensures ∙ c.if-not-is_trailing.true))
    ∙ (sym (ap without_end c.in-Some.ensures.cases.0) ∙ c.blanks.invariant.trimmed))

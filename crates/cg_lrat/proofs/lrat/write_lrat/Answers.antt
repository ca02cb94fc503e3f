use Rattle.std.proofs.Common.{◌≡◌, ◌++◌, ◌∷◌, [], refl, sym, subst, ◌∙◌, append_assoc, arith}
use Rattle.cg_text.specs.Written.{joined}
use Rattle.cg_lrat.specs.LratText.{LratText, lrat_text, step_words, counted}
use Rattle.cg_lrat.specs.Views.{shown}
use Rattle.cg_formula.proofs.Pushed.{line_more, lines_pushed}
use Rattle.cg_lrat.proofs.LratWritten.{lrat_written}
use Rattle.cg_lrat.proofs.lrat.write_lrat.Goals as goal

pub loop-place-preserved : goal.loop-place-preserved
loop-place-preserved c =
    let so_far = c.loop-place.text.items in
    let step = shown c.at.result in
    line_more step_words [] so_far (so_far ++ joined (step_words step)) c.push_step.new.text.items c.args.log.now.steps c.loop-place.place step
    c.at.ensures.step c.loop-place.invariant refl (c.in_ok-push_step.ensures ∙ sym (append_assoc so_far (joined (step_words step)) (10 ∷ [])))

pub returns-clause-written : goal.returns-clause-written
returns-clause-written c =
    lines_pushed step_words [] c.loop-place.text.items c.args.log.now.steps c.loop-place.place (omega (arith, c.len-place-end.ensures.count)) c.loop-place.invariant

pub returns-clause-again : goal.returns-clause-again
returns-clause-again c =
    let log = c.args.log.now in
    let written : c.loop-place.text.items ≡ lrat_text log =
    lines_pushed step_words [] c.loop-place.text.items log.steps c.loop-place.place (omega (arith, c.len-place-end.ensures.count)) c.loop-place.invariant in
    subst (λ text. LratText text (counted log)) (sym written) (lrat_written log c.requires)

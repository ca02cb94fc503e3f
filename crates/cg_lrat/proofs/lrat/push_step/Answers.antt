use Rattle.std.proofs.Common.{[], ◌∷◌, lit<}
use Rattle.std.specs.Fmt.{decimal}
use Rattle.cg_lrat.specs.LratText.{body_words, step_words}
use Rattle.cg_lrat.specs.Views.{shown}
use Rattle.cg_formula.proofs.Pushed.{more_pushed, line_pushed}
use Rattle.cg_lrat.proofs.LratWritten.{some_body}
use Rattle.cg_lrat.proofs.lrat.push_step.Goals as goal

pub returns : goal.returns
returns c =
    let step = shown c.args.step in
    line_pushed c.args.text.now.items c.push_body.new.text.items c.push-2.new.self.items (step_words step)
    (more_pushed c.args.text.now.items c.push_number.new.text.items c.push.new.self.items c.push_body.new.text.items (decimal step.id ∷ []) (body_words step.body)
    (lit< tt) (some_body step.body) c.in_ok-push_number.ensures c.in_ok-push.ensures.items c.in_ok-push_body.ensures)
    c.in_ok-push-2.ensures.items

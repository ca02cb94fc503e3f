use Rattle.std.proofs.Common.{◌≡◌, ◌++◌, ◌∷◌, ap, ◌∙◌}
use Rattle.std.specs.Fmt.{decimal}
use Rattle.std.specs.Prelude.{codes}
use Rattle.std.proofs.lemmas.Result.{on_ok_weaker}
use Rattle.cg_plan_text.specs.inner.Spaced.{spaced}
use Rattle.cg_register_text.specs.Words.{stage_outcome}
use Rattle.cg_register_text.proofs.LineLemmas.{tried_pieces}
use Rattle.cg_register_text.proofs.line.push_tried_stage.Goals as goal

pub returns : goal.returns
returns c =
    let text = c.args.text.now.items in
    let number = c.args.number in
    let words = stage_outcome c.args.told.now number in
    let one : c.push_word.new.text.items ≡ text ++ 32 ∷ codes "tried" = c.in_ok-push_word.ensures in
    let two : c.push_word-2.new.text.items ≡ (text ++ 32 ∷ codes "tried") ++ 32 ∷ codes "stage" = c.in_ok-push_word-2.ensures ∙ ap (λ l. l ++ 32 ∷ codes "stage") one in
    let three : c.push_count.new.text.items ≡ ((text ++ 32 ∷ codes "tried") ++ 32 ∷ codes "stage") ++ 32 ∷ decimal number = c.in_ok-push_count.ensures ∙ ap (λ l. l ++ 32 ∷ decimal number) two in
    on_ok_weaker c.push_stage_outcome.result (λ is. is ∙ (ap (λ l. l ++ spaced words) three ∙ tried_pieces text (codes "stage") number words)) c.push_stage_outcome.ensures

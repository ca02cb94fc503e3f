use Rattle.std.proofs.Common.{◌≡◌, None, Ok, Err, Some, Result, rules, sym, ap, ◌∙◌, subst}
use Rattle.cg_blif_text.specs.Meaning.{meant}
use Rattle.cg_blif_text.specs.declared.statement.Place.{Place}
use Rattle.cg_blif_text.specs.LinesLeft.{closed_said}
use Rattle.cg_blif.specs.Resuming.{Resumes, is_model, misplaced}
use Rattle.cg_blif.specs.declared.fault.Refusal.{Refusal}
use Rattle.cg_blif.proofs.ReadingLemmas.{in_place, line_fails, meant_bounded, out_of_place, say_fails, say_taken}
use Rattle.cg_blif.proofs.reader.Reading.read_command.Goals as goal

pub returns-in-Some : goal.returns-in-Some
returns-in-Some c = λ number later.
    let r = c.args.self.now in
    let words = c.args.words.items in
    let cover : c.take-cover.result ≡ r.cover = cc in
    let said : closed_said r.builder.said r.cover ≡ Ok c.close.new.builder.said = ap (closed_said r.builder.said) (sym cover) ∙ c.in_ok-close.ensures.2 in
    let where_it_is : misplaced r.place (is_model (meant words)) ≡ Some c.in-Some.cause =
    ap (λ m. misplaced r.place (is_model m)) (sym c.in_ok-meaning.ensures) ∙ (sym (c.misplaced.ensures ∙ ap (misplaced r.place) c.is_model.ensures) ∙ c.in-Some.is) in
    line_fails c.args.library.now r c.requires.at words number later c.requires.command c.close.new.builder.said c.in-Some.cause said (out_of_place r.place (meant words) c.in-Some.cause where_it_is)

pub say-requires-clause-bounds : goal.say-requires-clause-bounds
say-requires-clause-bounds c = meant_bounded c.args.words.items c.in-Ok.statement (sym c.in_ok-meaning.ensures ∙ c.in-Ok.is)

pub returns-in_err-self-in-Ok : goal.returns-in_err-self-in-Ok
returns-in_err-self-in-Ok c =
    let r = c.args.self.now in
    let words = c.args.words.items in
    let cover : c.take-cover.result ≡ r.cover = cc in
    let said : closed_said r.builder.said r.cover ≡ Ok c.close.new.builder.said = ap (closed_said r.builder.said) (sym cover) ∙ c.in_ok-close.ensures.2 in
    let well_placed : misplaced r.place (is_model (meant words)) ≡ None =
    ap (λ m. misplaced r.place (is_model m)) (sym c.in_ok-meaning.ensures) ∙ (sym (c.misplaced.ensures ∙ ap (misplaced r.place) c.is_model.ensures) ∙ c.in_default.is) in
    let means = in_place r.place (meant words) well_placed ∙ (sym c.in_ok-meaning.ensures ∙ c.in-Ok.is) in
    let same : c.from_residual-in_err-self-in-Ok.result ≡ Err c.in_err-self-in-Ok.field-0.0 = search rules in
    let P : Result (Unit {0}) Refusal → Type 0 = λ x. Resumes c.args.library.now r (record { place = c.next_place-self.result; builder = c.say.new.builder; cover = c.take-cover.new.self }) words x in
    subst P (sym same) (say_fails c.args.library.now r c.requires.at words c.requires.command c.close.new.builder c.in_ok-close.ensures.1 said c.in-Ok.statement means c.say.new.builder
    (record { place = c.next_place-self.result; builder = c.say.new.builder; cover = c.take-cover.new.self }) c.in_err-self-in-Ok.field-0.0 c.in_err-self-in-Ok.ensures)

pub returns-in_ok-self-in-Ok : goal.returns-in_ok-self-in-Ok
returns-in_ok-self-in-Ok c =
    let r = c.args.self.now in
    let words = c.args.words.items in
    let cover : c.take-cover.result ≡ r.cover = cc in
    let said : closed_said r.builder.said r.cover ≡ Ok c.close.new.builder.said = ap (closed_said r.builder.said) (sym cover) ∙ c.in_ok-close.ensures.2 in
    let well_placed : misplaced r.place (is_model (meant words)) ≡ None =
    ap (λ m. misplaced r.place (is_model m)) (sym c.in_ok-meaning.ensures) ∙ (sym (c.misplaced.ensures ∙ ap (misplaced r.place) c.is_model.ensures) ∙ c.in_default.is) in
    let means = in_place r.place (meant words) well_placed ∙ (sym c.in_ok-meaning.ensures ∙ c.in-Ok.is) in
    let P : Place → Type 0 = λ p. Resumes c.args.library.now r (record { place = p; builder = c.say.new.builder; cover = c.in_ok-self-in-Ok.field-0 }) words (Ok tt) in
    subst P (sym c.next_place-self.ensures) (say_taken c.args.library.now r c.requires.at words c.requires.command c.close.new.builder c.in_ok-close.ensures.1 said c.in-Ok.statement means c.say.new.builder c.in_ok-self-in-Ok.field-0 c.in_ok-self-in-Ok.ensures)

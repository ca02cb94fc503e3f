use Rattle.std.proofs.Common.{◌≡◌, ◌<◌, Some, length, ap, sym, ◌∙◌, arith}
use Rattle.std.specs.List.{slice_get}
use Rattle.std.proofs.lemmas.Option.{slice_get-get_or}
use Rattle.cg_lrat.specs.declared.log.Body.{Body}
use Rattle.cg_lrat.specs.declared.log.Step.{Step}
use Rattle.cg_lrat.specs.inner.StepList.{body_by, part}
use Rattle.cg_lrat.specs.Views.{body_shown}
use Rattle.cg_lrat.proofs.StepLists.{long_as_places, place_within, step_at}
use Rattle.cg_lrat.proofs.step_list.StepList.at.Goals as goal

pub body_in-requires : goal.body_in-requires
body_in-requires c =
    let lits = c.self.inside.lits.items in
    let ids = c.self.inside.ids.items in
    let places = c.self.inside.places.items in
    let at = c.index-at.result.now in
    let long : length c.args.self.now ≡ length places = sym (ap length c.self.view_is) ∙ long_as_places lits ids places in
    let within : c.args.place < length places = omega (arith, c.requires, long) in
    let is : slice_get places c.args.place ≡ Some at = slice_get-get_or places c.args.place at within ∙ ap Some (sym c.index-at.ensures) in
    rw (c.as_slice.ensures.value, c.as_slice-2.ensures.value) (place_within (length lits) (length ids) places c.args.place at c.self.invariant is)

pub returns : goal.returns
returns c =
    let lits = c.self.inside.lits.items in
    let ids = c.self.inside.ids.items in
    let places = c.self.inside.places.items in
    let at = c.index-at.result.now in
    let long : length c.args.self.now ≡ length places = sym (ap length c.self.view_is) ∙ long_as_places lits ids places in
    let within : c.args.place < length places = omega (arith, c.requires, long) in
    let is : slice_get places c.args.place ≡ Some at = slice_get-get_or places c.args.place at within ∙ ap Some (sym c.index-at.ensures) in
    let body : body_shown c.body_in.result ≡ body_by at.adds (part lits at.lits) (part ids at.ids) =
    c.body_in.ensures
    ∙ ap (λ ls. body_by at.adds (part ls at.lits) (part c.as_slice-2.result.now at.ids)) c.as_slice.ensures.value
    ∙ ap (λ is. body_by at.adds (part lits at.lits) (part is at.ids)) c.as_slice-2.ensures.value in
    let whole : Body → Step = λ body. record { line = at.line; id = at.id; body = body } in
    rw (← c.self.view_is) (record { step = step_at lits ids places c.args.place at is ∙ ap (λ body. Some (whole body)) (sym body) })

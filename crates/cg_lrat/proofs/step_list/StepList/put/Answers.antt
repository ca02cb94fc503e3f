use Rattle.std.proofs.Common.{◌≡◌, ◌+◌, ◌++◌, ap, ◌∙◌, length, length-append, arith}
use Rattle.cg_lrat.specs.declared.step_list.Span.{Span}
use Rattle.cg_lrat.specs.declared.step_list.Place.{Place}
use Rattle.cg_lrat.specs.inner.StepList.{IsWithin}
use Rattle.cg_lrat.proofs.GrownLog.{all_pushed}
use Rattle.cg_lrat.proofs.StepLists.{more_lits, more_ids, within_longer, step_put, on_err}
use Rattle.cg_lrat.proofs.step_list.StepList.put.Goals as goal

pub returns-in_err-extend_from_slice-2-clause-same :
    goal.returns-in_err-extend_from_slice-2-clause-same
returns-in_err-extend_from_slice-2-clause-same c =
    let lits = c.self.inside.lits.items in
    let ids = c.self.inside.ids.items in
    let places = c.self.inside.places.items in
    on_err c.from_residual-in_err-extend_from_slice-2.result _ (
    rw (c.in_ok-extend_from_slice.ensures.items, c.in_err-extend_from_slice-2.ensures.items, ← c.self.view_is)
    (more_lits lits c.args.lits.now ids (length ids) places c.self.invariant)
    )

pub invariant_of-self-in_err-push : goal.invariant_of-self-in_err-push
invariant_of-self-in_err-push c =
    let lits = c.self.inside.lits.items in
    let ids = c.self.inside.ids.items in
    let more = c.args.lits.now in
    let hints = c.args.ids.now in
    let places = c.self.inside.places.items in
    let long : length (lits ++ more) ≡ length lits + length more = length-append lits more in
    let wide : length (ids ++ hints) ≡ length ids + length hints = length-append ids hints in
    rw (c.in_ok-extend_from_slice.ensures.items, c.in_ok-extend_from_slice-2.ensures.items, c.in_err-push.ensures.items)
    (within_longer (length lits) (length ids) (length (lits ++ more)) (length (ids ++ hints)) places (omega (arith, long)) (omega (arith, wide)) c.self.invariant)

pub returns-in_err-push-clause-same : goal.returns-in_err-push-clause-same
returns-in_err-push-clause-same c =
    let lits = c.self.inside.lits.items in
    let ids = c.self.inside.ids.items in
    let more = c.args.lits.now in
    let hints = c.args.ids.now in
    let places = c.self.inside.places.items in
    on_err c.from_residual-in_err-push.result _ (
    rw (c.in_ok-extend_from_slice.ensures.items, c.in_ok-extend_from_slice-2.ensures.items, c.in_err-push.ensures.items, ← c.self.view_is)
    (more_lits lits more (ids ++ hints) (length ids) places c.self.invariant ∙ more_ids lits ids hints (length lits) places c.self.invariant)
    )

pub invariant_of-self-2 : goal.invariant_of-self-2
invariant_of-self-2 c =
    let lits = c.self.inside.lits.items in
    let ids = c.self.inside.ids.items in
    let more = c.args.lits.now in
    let hints = c.args.ids.now in
    let places = c.self.inside.places.items in
    let long : length (lits ++ more) ≡ length lits + length more = length-append lits more in
    let wide : length (ids ++ hints) ≡ length ids + length hints = length-append ids hints in
    let all = within_longer (length lits) (length ids) (length (lits ++ more)) (length (ids ++ hints)) places (omega (arith, long)) (omega (arith, wide)) c.self.invariant in
    let lits_from : c.in_ok-lits_span.lits_span.from ≡ c.len.result = ap (λ (s : Span). s.from) c.in_ok-lits_span.ensures in
    let lits_to : c.in_ok-lits_span.lits_span.to ≡ c.len.result + length more = ap (λ (s : Span). s.to) c.in_ok-lits_span.ensures in
    let ids_from : c.in_ok-ids_span.ids_span.from ≡ c.len-2.result = ap (λ (s : Span). s.from) c.in_ok-ids_span.ensures in
    let ids_to : c.in_ok-ids_span.ids_span.to ≡ c.len-2.result + length hints = ap (λ (s : Span). s.to) c.in_ok-ids_span.ensures in
    let high : c.len.result ≡ length lits = omega (arith, c.len.ensures) in
    let far : c.len-2.result ≡ length ids = omega (arith, c.len-2.ensures) in
    rw (c.in_ok-extend_from_slice.ensures.items, c.in_ok-extend_from_slice-2.ensures.items, c.in_ok-push.ensures.items)
    (all_pushed (IsWithin (length (lits ++ more)) (length (ids ++ hints))) places _ all (record {
      lits = record { ordered = omega (arith, lits_from, lits_to); within = omega (arith, lits_to, high, long) };
      ids = record { ordered = omega (arith, ids_from, ids_to); within = omega (arith, ids_to, far, wide) };
    }))

pub returns-clause-added : goal.returns-clause-added
returns-clause-added c =
    let lits = c.self.inside.lits.items in
    let ids = c.self.inside.ids.items in
    let more = c.args.lits.now in
    let hints = c.args.ids.now in
    let places = c.self.inside.places.items in
    let place : Place = record { line = c.args.line; id = c.args.id; lits = c.in_ok-lits_span.lits_span; ids = c.in_ok-ids_span.ids_span; adds = c.args.adds } in
    let high : c.len.result ≡ length lits = omega (arith, c.len.ensures) in
    let far : c.len-2.result ≡ length ids = omega (arith, c.len-2.ensures) in
    rw (c.in_ok-extend_from_slice.ensures.items, c.in_ok-extend_from_slice-2.ensures.items, c.in_ok-push.ensures.items, ← c.self.view_is)
    (step_put lits more ids hints places place c.self.invariant (record {
      lits_from = ap (λ (s : Span). s.from) c.in_ok-lits_span.ensures ∙ high;
      lits_to = ap (λ (s : Span). s.to) c.in_ok-lits_span.ensures ∙ ap (λ n. n + length more) high;
      ids_from = ap (λ (s : Span). s.from) c.in_ok-ids_span.ensures ∙ far;
      ids_to = ap (λ (s : Span). s.to) c.in_ok-ids_span.ensures ∙ ap (λ n. n + length hints) far;
    }))

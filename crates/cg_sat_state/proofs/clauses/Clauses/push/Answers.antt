use Rattle.std.proofs.Common.{◌≡◌, ◌+◌, ◌∷◌, [], ◌++◌, ◌∙◌, Some, refl, ap, length, length-append, arith}
use Rattle.cg_sat_state.specs.declared.clauses.Span.{Span}
use Rattle.cg_sat_state.specs.inner.Arena.{held, store_of}
use Rattle.cg_sat_state.proofs.Arena.{ordered, range_last, store_longer, within_longer, within_pushed, store_pushed, on_err}
use Rattle.cg_sat_state.proofs.clauses.Clauses.push.Goals as goal

pub returns-in_err-push-clause-same : goal.returns-in_err-push-clause-same
returns-in_err-push-clause-same c =
    let lits = c.self.inside.lits.items in
    let spans = c.self.inside.spans.items in
    let kept : store_of (lits ++ c.args.lits.now) spans ≡ store_of lits spans = store_longer lits c.args.lits.now spans c.self.invariant in
    on_err c.from_residual-in_err-push.result _ (rw (c.in_ok-append.ensures.added, c.in_err-push.ensures.items, ← c.self.view_is) kept)

pub invariant_of-self-2 : goal.invariant_of-self-2
invariant_of-self-2 c =
    let lits = c.self.inside.lits.items in
    let more = c.args.lits.now in
    let long : length (lits ++ more) ≡ length lits + length more = length-append lits more in
    let all = within_longer (length lits) (length (lits ++ more)) c.self.inside.spans.items (omega (arith, long)) c.self.invariant in
    let low : c.len.result ≡ length lits = omega (arith, c.len.ensures) in
    rw (c.in_ok-append.ensures.added, c.in_ok-push.ensures.items, c.in_ok-span.ensures, low) (within_pushed (length (lits ++ more)) c.self.inside.spans.items _ all
    (record { within = omega (arith, long) }))

pub returns-clause-added : goal.returns-clause-added
returns-clause-added c =
    let lits = c.self.inside.lits.items in
    let more = c.args.lits.now in
    let spans = c.self.inside.spans.items in
    let low : c.len.result ≡ length lits = omega (arith, c.len.ensures) in
    let span : Span = record { from = length lits; to = length lits + length more } in
    let last : held (lits ++ more) span ≡ Some more = rw (ordered (length lits) (length lits + length more) (omega arith)) (ap Some (range_last lits more (length lits + length more) refl)) in
    let whole : store_of (lits ++ more) (spans ++ span ∷ []) ≡ store_of lits spans ++ Some more ∷ [] =
    store_pushed (lits ++ more) spans span ∙ ap (λ cs. cs ++ held (lits ++ more) span ∷ []) (store_longer lits more spans c.self.invariant) ∙ ap (λ h. store_of lits spans ++ h ∷ []) last in
    rw (c.in_ok-append.ensures.added, c.in_ok-push.ensures.items, c.in_ok-span.ensures, low, ← c.self.view_is) whole

pub invariant_of-self-in_err-push : goal.invariant_of-self-in_err-push
invariant_of-self-in_err-push c =
    let lits = c.self.inside.lits.items in
    let more = c.args.lits.now in
    let long : length (lits ++ more) ≡ length lits + length more = length-append lits more in
    rw (c.in_ok-append.ensures.added, c.in_err-push.ensures.items) (within_longer (length lits) (length (lits ++ more)) c.self.inside.spans.items (omega (arith, long)) c.self.invariant)

pub returns-in_err-append-clause-same : goal.returns-in_err-append-clause-same
returns-in_err-append-clause-same c =
    let front = c.in_err-append.ensures.some in
    on_err c.from_residual-in_err-append.result _ (rw (front.1, ← c.self.view_is) (store_longer c.self.inside.lits.items front.0 c.self.inside.spans.items c.self.invariant))

use Rattle.std.proofs.Common.{◌≡◌, ℕ, ◌<◌, None, Some, MatchOption, false, slice_get, ap, sym, ◌∙◌, subst, arith, rules, length, get_or}
use Rattle.std.proofs.lemmas.Option.{get_or_from_slice_get, slice_get-get_or, slice_get_within}
use Rattle.cg_net.specs.Names.{is_known}
use Rattle.cg_net.specs.inner.NamePlaces.{IsPlaced, net_place}
use Rattle.cg_net.proofs.NamesInOrder.{kept_place, named_at, not_named, not_placed}
use Rattle.cg_net.proofs.names.OrderedNames.find.Goals as goal
use Rattle.cg_net.proofs.names.OrderedNames.find.Goals.{else-place-len-via-then-place-len+else-number, else-place-len-via-else-place-len}

pub returns-in_err-number : goal.returns-in_err-number
returns-in_err-number c =
    let i = c.self.inside in
    let none : c.from_residual.result ≡ None = search rules in
    let unknown = subst (λ names. is_known names c.args.name.now ≡ false) c.self.view_is (not_named i.names i.order.items i.places.items c.self.invariant c.args.name.now c.in_err-number.ensures) in
    subst (λ found. MatchOption found (is_known c.args.self.now c.args.name.now ≡ false) (λ i. slice_get c.args.self.now i ≡ Some c.args.name.now)) (sym none) unknown

pub index-requires : goal.index-requires
index-requires c =
    let i = c.self.inside in
    let below = slice_get_within i.names c.in_ok-number.number c.args.name.now c.in_ok-number.ensures in
    omega (arith, below, c.self.invariant.long, i.places.ok.0)

pub returns-then-number : goal.returns-then-number
returns-then-number c =
    let i = c.self.inside in
    let number : ℕ = c.in_ok-number.number in
    let place : ℕ = c.index.result.now in
    let low : place < length i.order.items = omega (arith, c.if-place-len.true, c.len.ensures, i.order.ok.0) in
    let read : ℕ = c.index-then-place-len.result.now in
    let is : get_or i.order.items place read ≡ number = omega (arith, c.index-then-place-len.ensures, c.number.ensures.number, c.if-number.true) in
    let at : slice_get i.order.items place ≡ Some number = slice_get-get_or i.order.items place read low ∙ ap Some is in
    subst (λ names. slice_get names place ≡ Some c.args.name.now) c.self.view_is
    (named_at i.names i.order.items i.places.items c.self.invariant place number c.args.name.now at c.in_ok-number.ensures)

-- the net does not stand at the place that is kept for it
elsewhere : (c : goal.Joined-else-place-len) → IsPlaced c.self.inside.order.items c.self.inside.places.items c.in_ok-number.number → ⊥
elsewhere c there =
    let i = c.self.inside in
    let number : ℕ = c.in_ok-number.number in
    let place : ℕ = c.index.result.now in
    let below = slice_get_within i.names number c.args.name.now c.in_ok-number.ensures in
    let is : place ≡ net_place i.places.items number = kept_place i.places.items number place (omega (arith, below, c.self.invariant.long)) c.index.ensures in
    let at : slice_get i.order.items place ≡ Some number = ap (slice_get i.order.items) is ∙ there in
    let low = slice_get_within i.order.items place number at in
    elim c.else-place-len.branch [
      | else-place-len-via-else-place-len w ↦ omega (arith, w.if-place-len.false, c.len.ensures, i.order.ok.0, low)
      | else-place-len-via-then-place-len+else-number w ↦ omega (arith, w.if-number.false, w.number.ensures.number, w.index-then-place-len.ensures, get_or_from_slice_get i.order.items place number w.index-then-place-len.result.now at)
    ]

pub returns-else-place-len : goal.returns-else-place-len
returns-else-place-len c =
    let i = c.self.inside in
    subst (λ names. is_known names c.args.name.now ≡ false) c.self.view_is
    (not_placed i.names i.order.items i.places.items c.self.invariant c.in_ok-number.number c.args.name.now c.in_ok-number.ensures (elsewhere c))

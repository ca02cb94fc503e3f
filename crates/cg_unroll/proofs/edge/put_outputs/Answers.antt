use Rattle.std.proofs.Common.{◌≡◌, ◌<◌, ◌+◌, ℕ, Bool, List, Some, get_or, length, slice_get, slice_set, take, sym, ◌∙◌, ap, subst}
use Rattle.std.proofs.Common.{arith}
use Rattle.std.proofs.lemmas.Option.{slice_get-get_or}
use Rattle.cg_unroll.specs.inner.Filling.{AgreesAt, IsValid, Puts, shown_of}
use Rattle.cg_unroll.proofs.Filling.{firsts, outputs_more, puts_none, take_firsts}
use Rattle.cg_unroll.proofs.Fronts.{any_default}
use Rattle.cg_unroll.proofs.edge.put_outputs.Goals as goal
use Rattle.cg_unroll.proofs.edge.put_outputs.Goals.{then-inverted, else-inverted}

pub loop-k-init : goal.loop-k-init
loop-k-init c = puts_none (AgreesAt c.args.outputs.now c.args.state) (IsValid c.args.state) c.args.literals.now

pub loop-k-preserved : goal.loop-k-preserved
loop-k-preserved c =
    let outputs : List (ℕ × Bool) = c.args.outputs.now in
    let k : ℕ = c.loop-k.k in
    let state : ℕ = c.args.state in
    let o : ℕ × Bool = get_or outputs k c.index-outputs-k.result in
    let p : ℕ × Bool = get_or outputs k c.index-outputs-k-in-loop-k.result in
    let same : o ≡ p = any_default outputs k c.index-outputs-k.result c.index-outputs-k-in-loop-k.result c.loop-k-test.true in
    let at : slice_get outputs k ≡ Some (c.number.result, o.1) = slice_get-get_or outputs k c.index-outputs-k.result c.loop-k-test.true ∙ ap (λ n. Some (n, o.1)) (sym c.number.ensures.number) in
    let low = c.requires k c.index-outputs-k.result c.loop-k-test.true in
    let below : c.number.result < length c.loop-k.literals = omega (arith, low, c.number.ensures.number, c.loop-k.invariant.long) in
    let value : c.if-inverted.shown ≡ shown_of state o.1 = elim c.if-inverted.branch [
      | then-inverted w ↦ w.shown-is ∙ (w.not-shown.ensures.number ∙ sym (ap (shown_of state) (ap (λ (z : ℕ × Bool). z.1) same ∙ w.if-inverted.true)))
      | else-inverted w ↦ w.shown-is ∙ sym (ap (shown_of state) (ap (λ (z : ℕ × Bool). z.1) same ∙ w.if-inverted.false))
    ] in
    subst (Puts (AgreesAt outputs state) (IsValid state) (take (k + 1) (firsts outputs)) c.args.literals.now)
    (sym (c.in_ok-put.ensures.put ∙ ap (slice_set c.loop-k.literals c.number.result) value))
    (outputs_more outputs state k c.number.result o.1 c.args.literals.now c.loop-k.literals at below c.loop-k.invariant)

pub returns-clause-put : goal.returns-clause-put
returns-clause-put c = subst (λ l. Puts (AgreesAt c.args.outputs.now c.args.state) (IsValid c.args.state) l c.args.literals.now c.loop-k.literals) (take_firsts c.args.outputs.now c.loop-k.k c.loop-k-test.false) c.loop-k.invariant

use Rattle.std.proofs.Common.{◌≡◌, ◌==◌, ◌<◌, ℕ, List, ◌++◌, ◌∷◌, [], if◌then◌else◌, sym, ◌∙◌, ap, subst, arith}
use Rattle.std.specs.Int.Bits.{bit_or}
use Rattle.std.proofs.lemmas.List.{get_or_read}
use Rattle.cg_hold_widths.specs.inner.Masks.{AreTouched, mask_at}
use Rattle.cg_hold_widths.proofs.Touching.{added_none, added_touched}
use Rattle.cg_hold_widths.proofs.masks.Masks.add.Goals as goal

pub returns-then-bits-eq0 : goal.returns-then-bits-eq0
returns-then-bits-eq0 c = added_none c.args.self.now c.args.net c.args.bits (omega (arith, c.if-bits-eq0.true))

pub invariant_of-self-2 : goal.invariant_of-self-2
invariant_of-self-2 c =
    let masks : List ℕ = c.reach.new.masks.items in
    let touched : List ℕ = c.self.inside.touched.items in
    let net : ℕ = c.number-place.result in
    let more : List ℕ = c.touch.new.touched.items in
    let read : c.index-mask.result.now ≡ mask_at masks net = get_or_read masks net c.index-mask.result.now c.in_ok-reach.ensures.reaches c.index-mask.ensures 0 in
    let noted : more ≡ (if mask_at masks net == 0 then touched ++ net ∷ [] else touched) =
    c.in_ok-touch.ensures.touched ∙ (ap (λ n. if n == 0 then touched ++ c.args.net ∷ [] else touched) read ∙ ap (λ y. if mask_at masks net == 0 then touched ++ y ∷ [] else touched) (sym c.number-place.ensures.number)) in
    subst (λ n. AreTouched (Rattle.std.proofs.Common.slice_set masks net (bit_or n c.args.bits)) more) (sym read)
    (added_touched c.self.inside.masks.items masks touched more net c.args.bits c.self.invariant c.reach.ensures.same c.in_ok-reach.ensures.reaches (omega (arith, c.if-bits-eq0.false)) noted)

use Rattle.std.proofs.Common.{[], ◌≡◌, ◌++◌, ◌∷◌, true, false, slice_set, sym, ◌∙◌, ap, subst}
use Rattle.cg_net.specs.NetSets.{is_in, with_net}
use Rattle.cg_net.specs.Marks.{AreMarked, is_marked}
use Rattle.cg_net.proofs.NetSetLemmas.{mark_at, marked_more, with_net-new}
use Rattle.cg_net.proofs.net_set.NetSet.insert.Goals as goal

pub invariant_of-self-2 : goal.invariant_of-self-2
invariant_of-self-2 c =
    let nets = c.self.inside.nets.items in
    let pushed = c.in_ok-push.ensures.items ∙ ap (λ n. nets ++ n ∷ []) (sym c.number-place.ensures.number) in
    subst (AreMarked (slice_set c.reach.new.marks.items c.number-place.result true)) (sym pushed)
    (marked_more c.self.inside.marks.items c.reach.new.marks.items nets c.number-place.result c.self.invariant c.reach.ensures.same c.in_ok-reach.ensures.reaches)

pub returns : goal.returns
returns c =
    let nets = c.self.inside.nets.items in
    let place = c.number-place.result in
    let unmarked : is_marked c.reach.new.marks.items place ≡ c.index.result.now = mark_at c.reach.new.marks.items place c.index.result.now c.in_ok-reach.ensures.reaches c.index.ensures in
    let new : is_in nets place ≡ false = sym (c.self.invariant place) ∙ (sym (c.reach.ensures.same place) ∙ (unmarked ∙ c.if-index.false)) in
    let is : with_net nets c.args.net ≡ nets ++ c.args.net ∷ [] = with_net-new nets c.args.net (ap (is_in nets) (sym c.number-place.ensures.number) ∙ new) in
    record { put = c.in_ok-push.ensures.items ∙ (sym is ∙ ap (λ ns. with_net ns c.args.net) c.self.view_is); same = tt }

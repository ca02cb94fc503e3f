use Rattle.std.proofs.Common.{◌≡◌, ◌+◌, ◌∷◌, suc, Some, drop, slice_get, refl, sym, ◌∙◌, ap, subst, arith}
use Rattle.std.proofs.lemmas.Option.{slice_get_read}
use Rattle.std.proofs.lemmas.List.{drop_all}
use Rattle.cg_net.proofs.TableLemmas.{drop_cons}
use Rattle.cg_net.proofs.Members.{member_at}
use Rattle.cg_hold_widths.proofs.Touching.{ClearedLeft, cleared_all, cleared_first, cleared_less}
use Rattle.cg_hold_widths.proofs.masks.clear_all.Goals as goal

pub bounds-masks-number : goal.bounds-masks-number
bounds-masks-number c =
    let nets = c.args.touched.now in
    let i = c.loop-net.net-index in
    let at : slice_get nets i ≡ Some c.number.result = slice_get_read nets _ i c.net-item.result refl c.loop-net-test.true c.net-item.is ∙ ap (λ n. Some n) (sym c.number.ensures.number) in
    c.loop-net.invariant.within c.number.result (member_at nets i c.number.result at)

pub loop-net-init : goal.loop-net-init
loop-net-init c = cleared_first c.args.masks.now c.args.touched.now c.requires

pub loop-net-preserved : goal.loop-net-preserved
loop-net-preserved c =
    let nets = c.args.touched.now in
    let i = c.loop-net.net-index in
    let net = c.number.result in
    let at : slice_get nets i ≡ Some net = slice_get_read nets _ i c.net-item.result refl c.loop-net-test.true c.net-item.is ∙ ap (λ n. Some n) (sym c.number.ensures.number) in
    let next : i + 1 ≡ suc i = omega arith in
    let front : drop i nets ≡ net ∷ drop (i + 1) nets = drop_cons nets i net at ∙ ap (λ k. net ∷ drop k nets) (sym next) in
    cleared_less nets c.loop-net.masks net (drop (i + 1) nets) (member_at nets i net at) (subst (ClearedLeft nets c.loop-net.masks) front c.loop-net.invariant)

pub returns : goal.returns
returns c = cleared_all c.args.touched.now c.loop-net.masks (drop c.loop-net.net-index c.args.touched.now) (drop_all c.loop-net.net-index c.args.touched.now (omega (arith, c.loop-net-test.false))) c.loop-net.invariant

use Rattle.std.proofs.Common.{◌≡◌, ◌+◌, ◌∷◌, suc, Some, drop, slice_get, refl, sym, ◌∙◌, ap, subst, arith}
use Rattle.std.proofs.lemmas.Option.{slice_get_read}
use Rattle.std.proofs.lemmas.List.{drop_all}
use Rattle.cg_net.proofs.TableLemmas.{drop_cons}
use Rattle.cg_net.proofs.Members.{member_at}
use Rattle.cg_net.proofs.NetSetLemmas.{MarkedLeft, marked_first, marked_less, unmarked_all}
use Rattle.cg_net.proofs.net_set.unmark.Goals as goal

pub bounds-marks-number : goal.bounds-marks-number
bounds-marks-number c =
    let nets = c.args.nets.now in
    let i = c.loop-net.net-index in
    let at : slice_get nets i ≡ Some c.number.result = slice_get_read nets _ i c.net-item.result refl c.loop-net-test.true c.net-item.is ∙ ap (λ n. Some n) (sym c.number.ensures.number) in
    c.loop-net.invariant.within c.number.result (member_at nets i c.number.result at)

pub loop-net-init : goal.loop-net-init
loop-net-init c = marked_first c.args.marks.now c.args.nets.now c.requires

pub loop-net-preserved : goal.loop-net-preserved
loop-net-preserved c =
    let nets = c.args.nets.now in
    let i = c.loop-net.net-index in
    let net = c.number.result in
    let at : slice_get nets i ≡ Some net = slice_get_read nets _ i c.net-item.result refl c.loop-net-test.true c.net-item.is ∙ ap (λ n. Some n) (sym c.number.ensures.number) in
    let next : i + 1 ≡ suc i = omega arith in
    let front : drop i nets ≡ net ∷ drop (i + 1) nets = drop_cons nets i net at ∙ ap (λ k. net ∷ drop k nets) (sym next) in
    marked_less nets c.loop-net.marks net (drop (i + 1) nets) (member_at nets i net at) (subst (MarkedLeft nets c.loop-net.marks) front c.loop-net.invariant)

pub returns : goal.returns
returns c = unmarked_all c.args.nets.now c.loop-net.marks (drop c.loop-net.net-index c.args.nets.now) (drop_all c.loop-net.net-index c.args.nets.now (omega (arith, c.loop-net-test.false))) c.loop-net.invariant

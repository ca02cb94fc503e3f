use Rattle.std.proofs.Common.{◌≡◌, ◌+◌, ◌<◌, ◌≤◌, ℕ, Bool, List, length, map, not, take, if◌then◌else◌, slice_get, Some, refl, sym}
use Rattle.std.proofs.Common.{subst, ap, ◌∙◌, arith}
use Rattle.std.specs.Option.{option_map}
use Rattle.std.proofs.lemmas.List.{length-map, take_all}
use Rattle.std.proofs.lemmas.Option.{slice_get-get_or, slice_get-map}
use Rattle.cg_netlist.specs.Moment.{values_at}
use Rattle.cg_net.proofs.Members.{All-member, member_at}
use Rattle.cg_edge.specs.inner.Keeping.{SameBut}
use Rattle.cg_edge.proofs.Chained.{same_set}
use Rattle.cg_edge.proofs.Puts.{same_none, shown_more}
use Rattle.cg_edge.proofs.put.put_shown.Goals as goal

pub put_given-requires-clause-given : goal.put_given-requires-clause-given
put_given-requires-clause-given c =
    let xs : List ℕ = map (λ (o : ℕ × Bool). o.0) c.args.outputs.now in
    let o : ℕ × Bool = c.loop-net-item.result in
    let i : ℕ = c.loop-net.net-index in
    let at : slice_get xs i ≡ Some o.0 = slice_get-map (λ (o : ℕ × Bool). o.0) c.args.outputs.now i ∙ ap (option_map (λ (o : ℕ × Bool). o.0)) (slice_get-get_or c.args.outputs.now i o c.loop-net-test.true ∙ ap (λ y. Some y) (sym c.loop-net-item.is)) in
    c.requires.given o.0 (member_at xs i o.0 at)

pub put_given-requires-clause-net : goal.put_given-requires-clause-net
put_given-requires-clause-net c =
    let xs : List ℕ = map (λ (o : ℕ × Bool). o.0) c.args.outputs.now in
    let o : ℕ × Bool = c.loop-net-item.result in
    let i : ℕ = c.loop-net.net-index in
    let at : slice_get xs i ≡ Some o.0 = slice_get-map (λ (o : ℕ × Bool). o.0) c.args.outputs.now i ∙ ap (option_map (λ (o : ℕ × Bool). o.0)) (slice_get-get_or c.args.outputs.now i o c.loop-net-test.true ∙ ap (λ y. Some y) (sym c.loop-net-item.is)) in
    let below = All-member (λ x. x < length c.args.nets.now) xs o.0 c.requires.within (member_at xs i o.0 at) in
    omega (arith, below, c.loop-net.auto.nets)

pub loop-net-init : goal.loop-net-init
loop-net-init c = (refl, same_none (map (λ (o : ℕ × Bool). o.0) c.args.outputs.now) c.args.nets.now, c.requires.marked, refl)

pub loop-net-preserved : goal.loop-net-preserved
loop-net-preserved c =
    let xs : List ℕ = map (λ (o : ℕ × Bool). o.0) c.args.outputs.now in
    let f : ℕ × Bool → Bool = λ o. if o.1 then not c.args.bit else c.args.bit in
    let o : ℕ × Bool = c.loop-net-item.result in
    let i : ℕ = c.loop-net.net-index in
    let cur : List Bool = c.loop-net.nets in
    let here : slice_get c.args.outputs.now i ≡ Some o = slice_get-get_or c.args.outputs.now i o c.loop-net-test.true ∙ ap (λ y. Some y) (sym c.loop-net-item.is) in
    let at : slice_get xs i ≡ Some o.0 = slice_get-map (λ (o : ℕ × Bool). o.0) c.args.outputs.now i ∙ ap (option_map (λ (o : ℕ × Bool). o.0)) here in
    let shown : slice_get (map f c.args.outputs.now) i ≡ Some c.shown.result = slice_get-map f c.args.outputs.now i ∙ (ap (option_map f) here ∙ ap (λ y. Some y) (sym c.shown.ensures)) in
    let below : o.0 < length cur = let low = All-member (λ x. x < length c.args.nets.now) xs o.0 c.requires.within (member_at xs i o.0 at) in omega (arith, low, c.loop-net.auto.nets) in (
      subst (λ nets. values_at nets (take (i + 1) xs) ≡ take (i + 1) (map f c.args.outputs.now)) (sym c.put_given.ensures.nets) (shown_more cur xs (map f c.args.outputs.now) i o.0 c.shown.result c.requires.once below at shown c.loop-net.invariant.0),
      subst (SameBut xs c.args.nets.now) (sym c.put_given.ensures.nets) (same_set xs c.args.nets.now cur o.0 c.shown.result c.loop-net.invariant.1 (member_at xs i o.0 at)),
      c.put_given.ensures.marked,
      c.put_given.ensures.long ∙ c.loop-net.invariant.3,
    )

pub returns : goal.returns
returns c =
    let xs : List ℕ = map (λ (o : ℕ × Bool). o.0) c.args.outputs.now in
    let f : ℕ × Bool → Bool = λ o. if o.1 then not c.args.bit else c.args.bit in
    let i : ℕ = c.loop-net.net-index in
    let all : length c.args.outputs.now ≤ i = c.loop-net-test.false in
    record {
      shown = sym (ap (values_at c.loop-net.nets) (take_all i xs (omega (arith, all, length-map c.args.outputs.now (λ (o : ℕ × Bool). o.0))))) ∙ (c.loop-net.invariant.0 ∙ take_all i (map f c.args.outputs.now) (omega (arith, all, length-map c.args.outputs.now f)));
      same = c.loop-net.invariant.1;
      marked = c.loop-net.invariant.2;
      long = c.loop-net.invariant.3;
    }

use Rattle.std.proofs.Common.{◌≡◌, ◌<◌, ℕ, Some, length, slice_get, slice_index_or, sym, subst, arith}
use Rattle.std.proofs.lemmas.Option.{slice_get-get_or}
use Rattle.cg_net.proofs.Members.{member_at}
use Rattle.cg_hold.proofs.ConeStarted.{start_one}
use Rattle.cg_hold.specs.inner.Laying.{StartsAt}
use Rattle.cg_hold.proofs.cone_cycles.start_cone.Goals as goal

pub bounds-words-number : goal.bounds-words-number
bounds-words-number c =
    let nets = c.args.look.now.nets.now in
    let i = c.loop-place.place in
    let net : ℕ = slice_index_or nets i 0 in
    let at : slice_get nets i ≡ Some net = slice_get-get_or nets i 0 c.loop-place-test.true in
    let below = c.requires.look.within net (member_at nets i net at) in
    omega (arith, below, c.requires.words, c.loop-place.auto.words)

pub start_word-word-requires-clause-net : goal.start_word-word-requires-clause-net
start_word-word-requires-clause-net c =
    let nets = c.args.look.now.nets.now in
    let i = c.loop-place.place in
    let net : ℕ = slice_index_or nets i 0 in
    let at : slice_get nets i ≡ Some net = slice_get-get_or nets i 0 c.loop-place-test.true in
    let below = c.requires.look.within net (member_at nets i net at) in
    subst (λ n. n < length c.args.look.now.search.now.machine.now.circuit.names) (sym c.new.ensures) below

pub bounds-words-number-in-loop-place : goal.bounds-words-number-in-loop-place
bounds-words-number-in-loop-place c =
    let nets = c.args.look.now.nets.now in
    let i = c.loop-place.place in
    let net : ℕ = slice_index_or nets i 0 in
    let at : slice_get nets i ≡ Some net = slice_get-get_or nets i 0 c.loop-place-test.true in
    let below = c.requires.look.within net (member_at nets i net at) in
    omega (arith, below, c.requires.words, c.loop-place.auto.words)

pub loop-place-preserved : goal.loop-place-preserved
loop-place-preserved c =
    let nets = c.args.look.now.nets.now in
    let i = c.loop-place.place in
    let net : ℕ = slice_index_or nets i 0 in
    let at : slice_get nets i ≡ Some net = slice_get-get_or nets i 0 c.loop-place-test.true in
    let below = c.requires.look.within net (member_at nets i net at) in
    start_one c.args.look.now.search.now.machine.now c.args.state.now nets c.loop-place.words i net c.start_word-word.result at (omega (arith, below, c.requires.words, c.loop-place.auto.words)) (subst (λ n. StartsAt c.args.look.now.search.now.machine.now c.args.state.now n c.start_word-word.result) c.new.ensures c.start_word-word.ensures) c.loop-place.invariant

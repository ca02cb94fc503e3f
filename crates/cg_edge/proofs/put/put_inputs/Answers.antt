use Rattle.std.proofs.Common.{◌≡◌, ◌+◌, ◌<◌, ℕ, Bool, List, length, take, Some, slice_get, slice_index_or, false, sym, subst, ap}
use Rattle.std.proofs.Common.{◌∙◌, arith}
use Rattle.std.proofs.lemmas.Option.{slice_get-get_or}
use Rattle.cg_netlist.specs.Circuit.{data_inputs}
use Rattle.cg_netlist.specs.Moment.{values_at}
use Rattle.cg_netlist.proofs.Given.{data_given}
use Rattle.cg_net.proofs.Members.{member_at}
use Rattle.cg_edge.specs.inner.Keeping.{SameBut}
use Rattle.cg_edge.proofs.Chained.{same_set}
use Rattle.cg_edge.proofs.Facts.{data_no_cell, distinct_data, given_net}
use Rattle.cg_edge.proofs.Puts.{shown_more}
use Rattle.cg_edge.proofs.put.put_inputs.Goals as goal

pub put_given-requires-clause-given : goal.put_given-requires-clause-given
put_given-requires-clause-given c =
    let n = c.args.netlist.now in
    let x : ℕ = c.index-places-k.result in
    let at : slice_get (data_inputs n) c.loop-k.k ≡ Some x = ap (λ xs. slice_get xs c.loop-k.k) (sym c.data_inputs-places.ensures) ∙ (slice_get-get_or c.data_inputs-places.result.now c.loop-k.k x c.loop-k-test.true ∙ ap (λ y. Some y) (sym c.index-places-k.is)) in
    data_no_cell n c.requires.netlist.well_formed x (member_at (data_inputs n) c.loop-k.k x at)

pub put_given-requires-clause-net : goal.put_given-requires-clause-net
put_given-requires-clause-net c =
    let n = c.args.netlist.now in
    let x : ℕ = c.index-places-k.result in
    let at : slice_get (data_inputs n) c.loop-k.k ≡ Some x = ap (λ xs. slice_get xs c.loop-k.k) (sym c.data_inputs-places.ensures) ∙ (slice_get-get_or c.data_inputs-places.result.now c.loop-k.k x c.loop-k-test.true ∙ ap (λ y. Some y) (sym c.index-places-k.is)) in
    let below = given_net n c.requires.netlist.well_formed (length c.loop-k.nets) (c.loop-k.auto.nets ∙ c.requires.nets) x (data_given n x (member_at (data_inputs n) c.loop-k.k x at)) in
    omega (arith, below)

pub loop-k-preserved : goal.loop-k-preserved
loop-k-preserved c =
    let n = c.args.netlist.now in
    let wanted : List ℕ = data_inputs n in
    let cur : List Bool = c.loop-k.nets in
    let k : ℕ = c.loop-k.k in
    let x : ℕ = c.index-places-k.result in
    let b : Bool = slice_index_or c.args.inputs.now k false in
    let at : slice_get wanted k ≡ Some x = ap (λ xs. slice_get xs k) (sym c.data_inputs-places.ensures) ∙ (slice_get-get_or c.data_inputs-places.result.now k x c.loop-k-test.true ∙ ap (λ y. Some y) (sym c.index-places-k.is)) in
    let below : x < length cur = given_net n c.requires.netlist.well_formed (length cur) (c.loop-k.auto.nets ∙ c.requires.nets) x (data_given n x (member_at wanted k x at)) in
    let given : slice_get c.args.inputs.now k ≡ Some b = slice_get-get_or c.args.inputs.now k false (omega (arith, c.requires.inputs, ap length c.data_inputs-places.ensures, c.loop-k-test.true)) in (
      subst (λ nets. values_at nets (take (k + 1) wanted) ≡ take (k + 1) c.args.inputs.now) (sym c.put_given.ensures.nets) (shown_more cur wanted c.args.inputs.now k x b (distinct_data n c.requires.netlist.well_formed) below at given c.loop-k.invariant.0),
      subst (SameBut wanted c.args.nets.now) (sym c.put_given.ensures.nets) (same_set wanted c.args.nets.now cur x b c.loop-k.invariant.1 (member_at wanted k x at)),
      c.put_given.ensures.marked,
      c.put_given.ensures.long ∙ c.loop-k.invariant.3,
    )

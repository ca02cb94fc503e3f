use Rattle.std.proofs.Common.{◌≡◌, ◌+◌, ℕ, List, Option, Some, length, slice_get, take, ap, sym, ◌∙◌, subst, arith}
use Rattle.std.proofs.lemmas.List.{length-set}
use Rattle.std.proofs.lemmas.Option.{slice_get-get_or}
use Rattle.cg_netlist.specs.Chains.{gater_order}
use Rattle.cg_extract.proofs.Taking.{can_take, taken_more, written}
use Rattle.cg_extract.specs.inner.Taking.{CanTake, IsSoFar, IsTaken, taken_into}
use Rattle.cg_extract.proofs.extract.lift.Goals as goal

pub take-requires : goal.take-requires
take-requires c =
    let netlist = c.args.netlist.now in
    let k : ℕ = c.loop-k.k in
    let id : ℕ = c.index.result.now in
    let at : slice_get (gater_order netlist.gaters) k ≡ Some id =
    ap (λ ks. slice_get ks k) (sym c.in_ok-order.ensures) ∙ (slice_get-get_or c.in_ok-order.order.items k id (omega (arith, c.loop-k-test.true, c.len-k-end.ensures)) ∙ ap Some (sym c.index.ensures)) in
    subst (λ table. CanTake netlist c.loop-k.machine table id) (sym c.deref_mut.ensures.value)
    (can_take netlist c.args.machine.now.prefix c.requires.can k id c.loop-k.machine c.loop-k.enables.items at c.loop-k.invariant)

pub loop-k-preserved : goal.loop-k-preserved
loop-k-preserved c =
    let netlist = c.args.netlist.now in
    let k : ℕ = c.loop-k.k in
    let id : ℕ = c.index.result.now in
    let old : List (Option ℕ) = c.loop-k.enables.items in
    let at : slice_get (gater_order netlist.gaters) k ≡ Some id =
    ap (λ ks. slice_get ks k) (sym c.in_ok-order.ensures) ∙ (slice_get-get_or c.in_ok-order.order.items k id (omega (arith, c.loop-k-test.true, c.len-k-end.ensures)) ∙ ap Some (sym c.index.ensures)) in
    let is : IsTaken netlist c.loop-k.machine old id c.take.new.machine c.take.new.enables =
    subst (λ table. IsTaken netlist c.loop-k.machine table id c.take.new.machine c.take.new.enables) c.deref_mut.ensures.value c.in_ok-take.ensures in
    let same : length c.take.new.enables ≡ length old = ap length is.put ∙ length-set old is.gater.output (Some (taken_into netlist c.loop-k.machine old is.gater).net) in
    subst (IsSoFar netlist c.args.machine.now.prefix (take (k + 1) (gater_order netlist.gaters)) c.take.new.machine) (sym (written c.loop-k.enables.len c.take.new.enables old same c.loop-k.enables.ok.0))
    (taken_more netlist c.args.machine.now.prefix c.requires.can k id c.loop-k.machine c.take.new.machine old c.take.new.enables at c.loop-k.invariant is)

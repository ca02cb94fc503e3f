use Rattle.std.proofs.Common.{◌≡◌, ◌&&◌, ℕ, Some, List, nat_eq, length, slice_get, sym, ◌∙◌, ap, arith}
use Rattle.std.proofs.lemmas.Bool.{or_left}
use Rattle.std.proofs.lemmas.Option.{slice_get-get_or, slice_get_within}
use Rattle.cg_netlist.specs.Circuit.{Circuit}
use Rattle.cg_net.specs.NetSets.{is_in}
use Rattle.cg_claim_reach.specs.Fanout.{readers_at}
use Rattle.cg_claim_reach.proofs.Noting.{noted_more, noted_one}
use Rattle.cg_claim_reach.proofs.Targeting.{few_outputs}
use Rattle.cg_claim_reach.proofs.learn.learn_outputs.Goals as goal

pub overflow_cast-k : goal.overflow_cast-k
overflow_cast-k c =
    let m = c.args.machine.now in
    let same : c.outputs-outputs.result.now ≡ m.circuit.outputs = c.outputs-outputs.ensures ∙ ap (λ (n : Circuit). n.outputs) c.netlist-netlist.ensures.netlist in
    omega (arith, few_outputs m c.netlist-netlist.ensures.machine, c.loop-k-test.true, ap (λ (l : List ℕ). length l) same)

pub loop-k-preserved : goal.loop-k-preserved
loop-k-preserved c =
    let m = c.args.machine.now in
    let same : c.outputs-outputs.result.now ≡ m.circuit.outputs = c.outputs-outputs.ensures ∙ ap (λ (n : Circuit). n.outputs) c.netlist-netlist.ensures.netlist in
    let net : ℕ = c.index-outputs-k.result in
    let at : slice_get m.circuit.outputs c.loop-k.k ≡ Some net = ap (λ (l : List ℕ). slice_get l c.loop-k.k) (sym same) ∙ (slice_get-get_or c.outputs-outputs.result.now c.loop-k.k net c.loop-k-test.true ∙ ap Some (sym c.index-outputs-k.is)) in
    record {
      kept = λ y k there. c.in_ok-note.ensures y k ∙ or_left (is_in (readers_at c.loop-k.readers y) k) (nat_eq y net && nat_eq k c.loop-k.k) (c.loop-k.invariant.kept y k there);
      noted = noted_more (λ k y. slice_get m.circuit.outputs k ≡ Some y) c.loop-k.readers c.note.new.self c.args.first c.loop-k.k
          (λ y k there. c.in_ok-note.ensures y k ∙ or_left (is_in (readers_at c.loop-k.readers y) k) (nat_eq y net && nat_eq k c.loop-k.k) there)
          (noted_one m.circuit.outputs c.loop-k.readers c.note.new.self c.loop-k.k net at c.in_ok-note.ensures) c.loop-k.invariant.noted;
    }

pub returns-clause-noted : goal.returns-clause-noted
returns-clause-noted c = λ k y from at.
    let m = c.args.machine.now in
    let same : c.outputs-outputs.result.now ≡ m.circuit.outputs = c.outputs-outputs.ensures ∙ ap (λ (n : Circuit). n.outputs) c.netlist-netlist.ensures.netlist in
    c.loop-k.invariant.noted k y from (omega (arith, slice_get_within m.circuit.outputs k y at, c.loop-k-test.false, ap (λ (l : List ℕ). length l) same)) at

use Rattle.std.proofs.Common.{◌++◌, [], ℕ, List, ◌∙◌, ap, arith}
use Rattle.std.specs.List.{filter}
use Rattle.cg_net.specs.NetSets.{is_in}
use Rattle.cg_claim_reach.specs.Fanout.{readers_at}
use Rattle.cg_claim_reach.specs.inner.Spreading.{is_output_marked}
use Rattle.cg_claim_reach.proofs.Filtering.{flat_on}
use Rattle.cg_claim_reach.proofs.Targeting.{outputs_are}
use Rattle.cg_claim_reach.proofs.targets.outputs_found.Goals as goal

pub loop-place-preserved : goal.loop-place-preserved
loop-place-preserved c =
    flat_on (λ y. filter (is_output_marked c.args.machine.now (is_in c.args.found.now)) (readers_at c.args.readers.now y)) c.args.found.now [] c.loop-place.numbers.items c.push_outputs_at.new.numbers.items c.loop-place.place c.net.result c.net.ensures
    (c.in_ok-push_outputs_at.ensures ∙ ap (λ (l : List ℕ). c.loop-place.numbers.items ++ filter (is_output_marked c.args.machine.now (is_in c.args.found.now)) l) c.of.ensures) c.loop-place.invariant

pub returns : goal.returns
returns c =
    outputs_are c.args.machine.now c.args.found.now c.args.readers.now c.loop-place.place (omega (arith, c.loop-place-test.false, c.len-place-end.ensures)) c.loop-place.numbers.items c.ascending.result.items c.requires c.loop-place.invariant c.ascending.ensures

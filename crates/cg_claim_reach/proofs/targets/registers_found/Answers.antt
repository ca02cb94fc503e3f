use Rattle.std.proofs.Common.{◌++◌, ℕ, List, ◌∙◌, ap, arith}
use Rattle.std.specs.List.{filter}
use Rattle.cg_net.specs.NetSets.{is_in}
use Rattle.cg_claim_reach.specs.Fanout.{readers_at}
use Rattle.cg_claim_reach.specs.inner.Spreading.{is_register_marked}
use Rattle.cg_claim_reach.proofs.Filtering.{flat_on}
use Rattle.cg_claim_reach.proofs.Targeting.{registers_are}
use Rattle.cg_claim_reach.proofs.targets.registers_found.Goals as goal

pub loop-place-preserved : goal.loop-place-preserved
loop-place-preserved c =
    flat_on (λ y. filter (is_register_marked c.args.machine.now (is_in c.args.found.now) (is_in c.args.set.now.keys)) (readers_at c.args.readers.now y)) c.args.found.now
    (filter (is_register_marked c.args.machine.now (is_in c.args.found.now) (is_in c.args.set.now.keys)) c.args.regs.now) c.loop-place.numbers.items c.push_registers_at-in-loop-place.new.numbers.items c.loop-place.place c.net.result c.net.ensures
    (c.in_ok-push_registers_at-2.ensures ∙ ap (λ (l : List ℕ). c.loop-place.numbers.items ++ filter (is_register_marked c.args.machine.now (is_in c.args.found.now) (is_in c.args.set.now.keys)) l) c.of.ensures) c.loop-place.invariant

pub returns : goal.returns
returns c =
    registers_are c.args.machine.now c.args.found.now c.args.readers.now c.loop-place.place (omega (arith, c.loop-place-test.false, c.len-place-end.ensures)) c.args.regs.now c.args.set.now.keys c.loop-place.numbers.items c.ascending.result.items
    c.requires.readers c.requires.set c.loop-place.invariant c.ascending.ensures

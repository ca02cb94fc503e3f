use Rattle.cg_aig.specs.Aig.{aig_ops}
use Rattle.cg_cell.proofs.Building.{keeps_then}
use Rattle.std.proofs.Common.{◌≡◌, ◌+◌, ℕ, sym, subst, arith}
use Rattle.std.proofs.lemmas.Result.{err_from_is_err_and}
use Rattle.cg_machine.specs.Machine.{MachineData}
use Rattle.cg_hint_laws.specs.Question.{Question}
use Rattle.cg_unroll.proofs.Building.{fails_longer}
use Rattle.cg_unroll_cycles.specs.inner.Laid.{HoldsCycle, asked_by, built_cycle}
use Rattle.cg_unroll_cycles.proofs.Wholes.{cycle_fits}
use Rattle.cg_unroll_cycles.proofs.build.lay_later.Goals as goal

pub returns-in_err-lay_cycle-clause-failed : goal.returns-in_err-lay_cycle-clause-failed
returns-in_err-lay_cycle-clause-failed c =
    let m : MachineData = c.args.unrolling.now.machine.now in
    let q : Question = asked_by c.args.unrolling.now in
    let passed = err_from_is_err_and c.from_residual.result c.from_residual.ensures.1 in
    rw (passed.1, passed.2) (λ s holds.
    fails_longer (built_cycle m q s (0 + 1)).domain (built_cycle m q s q.after).domain c.in_err-lay_cycle.field-0.0 (cycle_fits m q s (0 + 1) (omega (arith, c.requires.after))) (c.in_err-lay_cycle.ensures.failed s holds))

pub returns-in_err-lay_cycle-2-clause-failed : goal.returns-in_err-lay_cycle-2-clause-failed
returns-in_err-lay_cycle-2-clause-failed c =
    let m : MachineData = c.args.unrolling.now.machine.now in
    let q : Question = asked_by c.args.unrolling.now in
    let i : ℕ = c.loop-behind.behind in
    let passed = err_from_is_err_and c.from_residual-in_err-lay_cycle-2.result c.from_residual-in_err-lay_cycle-2.ensures.1 in
    rw (passed.1, passed.2) (λ s holds.
    fails_longer (built_cycle m q s (i + 1)).domain (built_cycle m q s q.after).domain c.in_err-lay_cycle-2.field-0.0 (cycle_fits m q s (i + 1) (omega (arith, c.loop-behind-test.true)))
    (c.in_err-lay_cycle-2.ensures.failed s (subst (HoldsCycle m q s i c.loop-behind.aig) (sym c.swap.ensures.x_after) (c.loop-behind.invariant.laid s holds))))

pub returns-clause-laid : goal.returns-clause-laid
returns-clause-laid c = λ s holds.
    let m : MachineData = c.args.unrolling.now.machine.now in
    let q : Question = asked_by c.args.unrolling.now in
    let low = c.loop-behind.auto.behind-end c.requires.after in
    let e : c.loop-behind.behind ≡ q.after = omega (arith, low, c.loop-behind-test.false) in
    subst (λ n. HoldsCycle m q s n c.loop-behind.aig c.loop-behind.tables.last) e (c.loop-behind.invariant.laid s holds)

pub loop-behind-preserved : goal.loop-behind-preserved
loop-behind-preserved c =
    let m : MachineData = c.args.unrolling.now.machine.now in
    let q : Question = asked_by c.args.unrolling.now in
    let i : ℕ = c.loop-behind.behind in
    record {
      first = c.loop-behind.invariant.first;
      keeps = keeps_then aig_ops _ _ _ c.loop-behind.invariant.keeps c.in_ok-lay_cycle-2.ensures.keeps;
      last = c.in_ok-lay_cycle-2.ensures.tables;
      laid = λ s holds. c.in_ok-lay_cycle-2.ensures.laid s (subst (HoldsCycle m q s i c.loop-behind.aig) (sym c.swap.ensures.x_after) (c.loop-behind.invariant.laid s holds));
    }

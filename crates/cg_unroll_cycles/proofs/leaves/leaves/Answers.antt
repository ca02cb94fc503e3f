use Rattle.std.proofs.Common.{◌≡◌, ◌+◌, ◌++◌, ℕ, arith, sym, ◌∙◌, subst}
use Rattle.std.specs.List.{flat_map, range_with_len}
use Rattle.cg_machine.specs.Machine.{MachineData}
use Rattle.cg_hint_laws.specs.Leaves.{leaves_at}
use Rattle.cg_hint_laws.specs.Question.{Question}
use Rattle.cg_hint_laws.specs.Reach.{asked_of}
use Rattle.cg_unroll_cycles.specs.Asking.{question_of}
use Rattle.cg_unroll_cycles.specs.declared.reached.CycleReach.{CycleReach}
use Rattle.cg_unroll_cycles.specs.inner.Reached.{IsReachOf}
use Rattle.cg_unroll_cycles.proofs.CycleLeaves.{first_then, later_pushed}
use Rattle.cg_unroll_cycles.proofs.Reaching.{cycle_number}
use Rattle.cg_unroll_cycles.proofs.leaves.leaves.Goals as goal

pub loop-before-preserved : goal.loop-before-preserved
loop-before-preserved c =
    let m : MachineData = c.args.machine.now in
    let q : Question = question_of c.args.question.now in
    let i : ℕ = c.loop-before.before in
    let cycle : CycleReach = c.cycle_at-cycle.result.now in
    let reached : IsReachOf m (asked_of m q (i + 1)) cycle = cycle_number m q c.args.cycles.now (i + 1) cycle c.requires (omega (arith, c.loop-before-test.true)) c.cycle_at-cycle.ensures in
    later_pushed m q i cycle (leaves_at m q 0) c.loop-before.leaves.items c.push_inputs.new.leaves.items c.as_slice.result.now reached c.as_slice.ensures.parts c.in_ok-push_inputs.ensures c.loop-before.invariant

pub returns : goal.returns
returns c =
    let m : MachineData = c.args.machine.now in
    let q : Question = question_of c.args.question.now in
    let all : c.loop-before.before ≡ q.after = omega (arith, c.loop-before-test.false, c.loop-before.auto.before-end) in
    (c.from_vec.ensures ∙ c.loop-before.invariant)
    ∙ subst (λ n. leaves_at m q 0 ++ flat_map (leaves_at m q) (range_with_len 1 n) ≡ flat_map (leaves_at m q) (range_with_len 0 (q.after + 1))) (sym all) (sym (first_then (leaves_at m q) q.after))

use Rattle.std.proofs.Common.{◌≡◌, sym, subst, arith}
use Rattle.std.proofs.lemmas.Result.{err_from_is_err_and}
use Rattle.cg_cell.specs.Build.{Run}
use Rattle.cg_cell.specs.Domain.{Seen}
use Rattle.cg_cell.proofs.Building.{keeps_then}
use Rattle.cg_aig.specs.Aig.{aig_ops}
use Rattle.cg_machine.specs.Machine.{MachineData}
use Rattle.cg_claim.specs.Build.{aig_values}
use Rattle.cg_hint_laws.specs.Build.{goal_run, question_run}
use Rattle.cg_hint_laws.specs.Question.{Question}
use Rattle.cg_unroll.specs.Building.{MayFail}
use Rattle.cg_unroll.specs.Placing.{IsCopy}
use Rattle.cg_unroll.specs.declared.tables.CopyTables.{CopyTables}
use Rattle.cg_cell.specs.Build.{Builds}
use Rattle.cg_unroll.proofs.Building.{fails_longer, if_err, if_ok}
use Rattle.cg_unroll.proofs.Sides.{copy_later}
use Rattle.cg_unroll_cycles.specs.inner.Laid.{AgreesWith, HoldsCycle, asked_by, built_cycle, cycle_of}
use Rattle.cg_unroll_cycles.proofs.CyclesBuilt.{goal_is}
use Rattle.cg_unroll_cycles.proofs.Wholes.{cycle_whole}
use Rattle.cg_unroll_cycles.proofs.build.build_claim.Goals as goal

pub returns-in_err-lay_first-clause-failed : goal.returns-in_err-lay_first-clause-failed
returns-in_err-lay_first-clause-failed c =
    let m : MachineData = c.args.unrolling.now.machine.now in
    let q : Question = asked_by c.args.unrolling.now in
    let s : Seen = c.args.aig.now in
    let passed = err_from_is_err_and c.from_residual.result c.from_residual.ensures.1 in
    rw (passed.1, passed.2) (fails_longer (built_cycle m q s 0).domain (question_run aig_values m q s).domain c.in_err-lay_first.field-0.0 (cycle_whole m q s 0 (omega arith)) c.in_err-lay_first.ensures.failed)

pub returns-then-unrolling-eq0-clause-built : goal.returns-then-unrolling-eq0-clause-built
returns-then-unrolling-eq0-clause-built c =
    let m : MachineData = c.args.unrolling.now.machine.now in
    let q : Question = asked_by c.args.unrolling.now in
    let s : Seen = c.args.aig.now in
    let t : Seen = c.lay_first.new.aig in
    let first : CopyTables = c.lay_first.new.first in
    let holds : HoldsCycle m q s 0 t first = c.in_ok-lay_first.ensures.laid in
    let is : goal_run aig_values m q (cycle_of first t) (cycle_of first t) ≡ question_run aig_values m q s =
    goal_is m q c.requires.unrolling.asked s t first first holds.agrees (subst (λ n. HoldsCycle m q s n t first) (sym c.if-unrolling-eq0.true) holds) in
    if_ok _ _ c.goal_literal.result (λ goal h. record {
      builds = subst (λ (r : Run). Builds r c.goal_literal.new.aig goal) is h.builds;
      keeps = keeps_then aig_ops s t c.goal_literal.new.aig c.in_ok-lay_first.ensures.keeps h.keeps;
      valid = h.valid;
    }) c.goal_literal.ensures.built

pub returns-then-unrolling-eq0-clause-failed : goal.returns-then-unrolling-eq0-clause-failed
returns-then-unrolling-eq0-clause-failed c =
    let m : MachineData = c.args.unrolling.now.machine.now in
    let q : Question = asked_by c.args.unrolling.now in
    let s : Seen = c.args.aig.now in
    let t : Seen = c.lay_first.new.aig in
    let first : CopyTables = c.lay_first.new.first in
    let holds : HoldsCycle m q s 0 t first = c.in_ok-lay_first.ensures.laid in
    let is : goal_run aig_values m q (cycle_of first t) (cycle_of first t) ≡ question_run aig_values m q s =
    goal_is m q c.requires.unrolling.asked s t first first holds.agrees (subst (λ n. HoldsCycle m q s n t first) (sym c.if-unrolling-eq0.true) holds) in
    if_err _ _ c.goal_literal.result (λ fault h. subst (λ (r : Run). MayFail r.domain fault) is h) c.goal_literal.ensures.failed

pub returns-in_err-lay_later-clause-failed : goal.returns-in_err-lay_later-clause-failed
returns-in_err-lay_later-clause-failed c =
    let m : MachineData = c.args.unrolling.now.machine.now in
    let q : Question = asked_by c.args.unrolling.now in
    let s : Seen = c.args.aig.now in
    let passed = err_from_is_err_and c.from_residual-in_err-lay_later.result c.from_residual-in_err-lay_later.ensures.1 in
    rw (passed.1, passed.2) (fails_longer (built_cycle m q s q.after).domain (question_run aig_values m q s).domain c.in_err-lay_later.field-0.0 (cycle_whole m q s q.after (omega arith))
    (c.in_err-lay_later.ensures.failed s c.in_ok-lay_first.ensures.laid))

pub goal_literal-requires-2-clause-first : goal.goal_literal-requires-2-clause-first
goal_literal-requires-2-clause-first c =
    let m : MachineData = c.args.unrolling.now.machine.now in
    subst (IsCopy m c.lay_later.new.aig) (sym c.in_ok-lay_later.ensures.first) (copy_later m c.lay_first.new.aig c.lay_later.new.aig c.lay_first.new.first c.in_ok-lay_later.ensures.keeps c.in_ok-lay_first.ensures.tables)

pub returns-clause-built : goal.returns-clause-built
returns-clause-built c =
    let m : MachineData = c.args.unrolling.now.machine.now in
    let q : Question = asked_by c.args.unrolling.now in
    let s : Seen = c.args.aig.now in
    let t : Seen = c.lay_first.new.aig in
    let u : Seen = c.lay_later.new.aig in
    let first : CopyTables = c.lay_later.new.tables.first in
    let last : CopyTables = c.lay_later.new.tables.last in
    let agrees : AgreesWith m q 0 (built_cycle m q s 0) first = subst (AgreesWith m q 0 (built_cycle m q s 0)) (sym c.in_ok-lay_later.ensures.first) c.in_ok-lay_first.ensures.laid.agrees in
    let is : goal_run aig_values m q (cycle_of first u) (cycle_of last u) ≡ question_run aig_values m q s =
    goal_is m q c.requires.unrolling.asked s u first last agrees (c.in_ok-lay_later.ensures.laid s c.in_ok-lay_first.ensures.laid) in
    if_ok _ _ c.goal_literal-2.result (λ goal h. record {
      builds = subst (λ (r : Run). Builds r c.goal_literal-2.new.aig goal) is h.builds;
      keeps = keeps_then aig_ops s u c.goal_literal-2.new.aig (keeps_then aig_ops s t u c.in_ok-lay_first.ensures.keeps c.in_ok-lay_later.ensures.keeps) h.keeps;
      valid = h.valid;
    }) c.goal_literal-2.ensures.built

pub returns-clause-failed : goal.returns-clause-failed
returns-clause-failed c =
    let m : MachineData = c.args.unrolling.now.machine.now in
    let q : Question = asked_by c.args.unrolling.now in
    let s : Seen = c.args.aig.now in
    let u : Seen = c.lay_later.new.aig in
    let first : CopyTables = c.lay_later.new.tables.first in
    let last : CopyTables = c.lay_later.new.tables.last in
    let agrees : AgreesWith m q 0 (built_cycle m q s 0) first = subst (AgreesWith m q 0 (built_cycle m q s 0)) (sym c.in_ok-lay_later.ensures.first) c.in_ok-lay_first.ensures.laid.agrees in
    let is : goal_run aig_values m q (cycle_of first u) (cycle_of last u) ≡ question_run aig_values m q s =
    goal_is m q c.requires.unrolling.asked s u first last agrees (c.in_ok-lay_later.ensures.laid s c.in_ok-lay_first.ensures.laid) in
    if_err _ _ c.goal_literal-2.result (λ fault h. subst (λ (r : Run). MayFail r.domain fault) is h) c.goal_literal-2.ensures.failed

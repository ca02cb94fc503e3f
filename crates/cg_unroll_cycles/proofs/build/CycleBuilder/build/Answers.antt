use Rattle.std.proofs.Common.{◌≡◌, length, refl, ◌∙◌, ap, subst, arith}
use Rattle.std.proofs.lemmas.Result.{err_from_is_err_and}
use Rattle.cg_machine.specs.Machine.{MachineData}
use Rattle.cg_claim.specs.Build.{aig_values, leaf_list}
use Rattle.cg_hint_laws.specs.Build.{question_run}
use Rattle.cg_hint_laws.specs.Leaves.{width_of}
use Rattle.cg_hint_laws.specs.Question.{Question}
use Rattle.cg_unroll.specs.Building.{MayFail}
use Rattle.cg_unroll_cycles.specs.inner.Laid.{asked_by}
use Rattle.cg_unroll_cycles.proofs.Wholes.{leaves_past}
use Rattle.cg_unroll_cycles.proofs.build.CycleBuilder.build.Goals as goal

pub returns-then-leaves-clause-failed : goal.returns-then-leaves-clause-failed
returns-then-leaves-clause-failed c =
    let m : MachineData = c.args.unrolling.now.machine.now in
    let q : Question = asked_by c.args.unrolling.now in
    let wide : c.len-leaves.result ≡ width_of m q = c.len-leaves.ensures.count ∙ ap length c.requires.reached.leaves in
    (refl, omega (arith, c.if-leaves.true, wide, leaves_past m q (leaf_list (width_of m q))))

pub returns-in_err-self-clause-failed : goal.returns-in_err-self-clause-failed
returns-in_err-self-clause-failed c =
    let m : MachineData = c.args.unrolling.now.machine.now in
    let q : Question = asked_by c.args.unrolling.now in
    let wide : c.len-leaves.result ≡ width_of m q = c.len-leaves.ensures.count ∙ ap length c.requires.reached.leaves in
    let list : c.clear.new.self ≡ leaf_list (width_of m q) = c.in_ok-clear.ensures.cleared ∙ ap leaf_list wide in
    let passed = err_from_is_err_and c.from_residual-in_err-self.result c.from_residual-in_err-self.ensures.1 in
    rw (passed.1, passed.2) (subst (λ u. MayFail (question_run aig_values m q u).domain c.in_err-self.field-0.0) list c.in_err-self.ensures.failed)

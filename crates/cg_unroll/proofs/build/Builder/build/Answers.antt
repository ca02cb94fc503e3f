use Rattle.std.proofs.Common.{◌≡◌, length, Err, IfErr, rules, refl, sym, ◌∙◌, ap, subst, arith}
use Rattle.std.proofs.lemmas.List.{length-map}
use Rattle.cg_aig.specs.declared.fault.AigFault.{AigFault}
use Rattle.cg_claim.specs.Build.{aig_values, claim_run, leaf_list, question_run}
use Rattle.cg_claim.specs.Leaves.{leaves_of, shown_leaf, width_of}
use Rattle.cg_claim.specs.Question.{Question}
use Rattle.cg_machine.specs.Machine.{MachineData}
use Rattle.cg_claim_reach.specs.Asking.{question_of}
use Rattle.cg_unroll.specs.Building.{MayFail}
use Rattle.cg_unroll.proofs.Stages.{leaves_past}
use Rattle.cg_unroll.proofs.build.Builder.build.Goals as goal

pub returns-then-leaves-clause-failed : goal.returns-then-leaves-clause-failed
returns-then-leaves-clause-failed c =
    let m : MachineData = c.args.machine.now in
    let q : Question = question_of c.args.asked.now in
    let wide : c.len-leaves.result ≡ width_of m q = c.len-leaves.ensures.count ∙ (ap length c.requires.reached.leaves ∙ length-map (leaves_of m q) shown_leaf) in
    (refl, omega (arith, c.if-leaves.true, wide, leaves_past m q (leaf_list (width_of m q))))

pub returns-in_err-self-clause-failed : goal.returns-in_err-self-clause-failed
returns-in_err-self-clause-failed c =
    let m : MachineData = c.args.machine.now in
    let q : Question = question_of c.args.asked.now in
    let wide : c.len-leaves.result ≡ width_of m q = c.len-leaves.ensures.count ∙ (ap length c.requires.reached.leaves ∙ length-map (leaves_of m q) shown_leaf) in
    let fault : AigFault = c.in_err-self.field-0.0 in
    let is : c.from_residual-in_err-self.result ≡ Err fault = search rules in
    let list : c.clear.new.self ≡ leaf_list (width_of m q) = c.in_ok-clear.ensures.cleared ∙ ap leaf_list wide in
    subst (λ r. IfErr r (λ f. MayFail (claim_run m q).domain f)) (sym is)
    (subst (λ u. MayFail (question_run aig_values m q u).domain fault) list c.in_err-self.ensures.failed)

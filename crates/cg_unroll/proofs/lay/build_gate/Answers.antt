use Rattle.std.proofs.Common.{ℕ, List, length, IfErr, IfOk, sym, subst}
use Rattle.cg_cell.specs.Build.{build_and, build_or}
use Rattle.cg_cell.specs.declared.fit.FitKind.TheVariants.{And2, Or2}
use Rattle.cg_cell.proofs.RunsGrow.{grows_or}
use Rattle.cg_aig.specs.Aig.{aig_ops}
use Rattle.cg_aig.proofs.RunsFit.{aig_growing}
use Rattle.cg_machine.specs.Gates.{HasInputs}
use Rattle.cg_unroll.specs.Building.{Built, MayFail}
use Rattle.cg_unroll.proofs.Building.{built_of, if_err, if_ok, stops_fails}
use Rattle.cg_unroll.proofs.Gating.{and_built, and_fails, and_pins, gate_term, or_pins, same_built, same_fails}
use Rattle.cg_unroll.proofs.lay.build_gate.Goals as goal

pub returns-in-And2-clause-built : goal.returns-in-And2-clause-built
returns-in-And2-clause-built c =
    let ins : List ℕ = c.args.inputs.now in
    let a : ℕ = c.index-inputs-0-in-And2.result in
    let b : ℕ = c.index-inputs-1.result in
    let fits : HasInputs And2 (length ins) = subst (λ k. HasInputs k (length ins)) c.in-And2.is c.requires.fits in
    subst (λ k. IfOk c.and.result (λ v. Built c.args.aig.now c.and.new.self v (gate_term k ins c.args.aig.now))) (sym c.in-And2.is)
    (if_ok _ _ c.and.result (λ v h. same_built c.args.aig.now c.and.new.self v (gate_term And2 ins c.args.aig.now) (build_and aig_ops a b c.args.aig.now) (and_pins ins a b c.args.aig.now fits c.index-inputs-0-in-And2.is c.index-inputs-1.is) h)
    (and_built c.args.aig.now c.and.new.self a b c.and.result c.and.ensures.made c.and.ensures.stands))

pub returns-in-And2-clause-failed : goal.returns-in-And2-clause-failed
returns-in-And2-clause-failed c =
    let ins : List ℕ = c.args.inputs.now in
    let a : ℕ = c.index-inputs-0-in-And2.result in
    let b : ℕ = c.index-inputs-1.result in
    let fits : HasInputs And2 (length ins) = subst (λ k. HasInputs k (length ins)) c.in-And2.is c.requires.fits in
    subst (λ k. IfErr c.and.result (λ fault. MayFail (gate_term k ins c.args.aig.now).domain fault)) (sym c.in-And2.is)
    (if_err _ _ c.and.result (λ fault h. same_fails (gate_term And2 ins c.args.aig.now) (build_and aig_ops a b c.args.aig.now) fault (and_pins ins a b c.args.aig.now fits c.index-inputs-0-in-And2.is c.index-inputs-1.is)
    (and_fails c.args.aig.now a b fault h)) c.and.ensures.refused)

pub returns-in-Or2-clause-built : goal.returns-in-Or2-clause-built
returns-in-Or2-clause-built c =
    let ins : List ℕ = c.args.inputs.now in
    let a : ℕ = c.index-inputs-0-in-Or2.result in
    let b : ℕ = c.index-inputs-1-in-Or2.result in
    let fits : HasInputs Or2 (length ins) = subst (λ k. HasInputs k (length ins)) c.in-Or2.is c.requires.fits in
    subst (λ k. IfOk c.or.result (λ v. Built c.args.aig.now c.or.new.self v (gate_term k ins c.args.aig.now))) (sym c.in-Or2.is)
    (if_ok _ _ c.or.result (λ v h. same_built c.args.aig.now c.or.new.self v (gate_term Or2 ins c.args.aig.now) (build_or aig_ops a b c.args.aig.now) (or_pins ins a b c.args.aig.now fits c.index-inputs-0-in-Or2.is c.index-inputs-1-in-Or2.is)
    (built_of c.args.aig.now c.or.new.self v (build_or aig_ops a b c.args.aig.now) _ h)) c.or.ensures.built)

pub returns-in-Or2-clause-failed : goal.returns-in-Or2-clause-failed
returns-in-Or2-clause-failed c =
    let ins : List ℕ = c.args.inputs.now in
    let a : ℕ = c.index-inputs-0-in-Or2.result in
    let b : ℕ = c.index-inputs-1-in-Or2.result in
    let fits : HasInputs Or2 (length ins) = subst (λ k. HasInputs k (length ins)) c.in-Or2.is c.requires.fits in
    subst (λ k. IfErr c.or.result (λ fault. MayFail (gate_term k ins c.args.aig.now).domain fault)) (sym c.in-Or2.is)
    (if_err _ _ c.or.result (λ fault h. same_fails (gate_term Or2 ins c.args.aig.now) (build_or aig_ops a b c.args.aig.now) fault (or_pins ins a b c.args.aig.now fits c.index-inputs-0-in-Or2.is c.index-inputs-1-in-Or2.is)
    (stops_fails c.args.aig.now c.or.new.self (build_or aig_ops a b c.args.aig.now) fault (grows_or aig_ops aig_growing c.args.aig.now a b) h)) c.or.ensures.stopped)

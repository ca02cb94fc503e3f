use Rattle.std.proofs.Common.{◌≡◌, ◌<◌, ℕ, List, Some, length, slice_get, slice_index_or, IsTrue, sym, ◌∙◌, ap, subst, arith}
use Rattle.std.specs.List.{flat_map}
use Rattle.std.proofs.lemmas.Option.{slice_get-get_or}
use Rattle.cg_cell.specs.Domain.{AreValid}
use Rattle.cg_cell.proofs.Evals.{valid_at}
use Rattle.cg_aig.specs.Aig.{aig_ops}
use Rattle.cg_unroll.specs.inner.Filling.{AgreesWithAll, Puts, nets_shown}
use Rattle.cg_unroll.proofs.Filling.{puts_none, registers_more}
use Rattle.cg_unroll.proofs.edge.put_registers.Goals as goal
use Rattle.cg_claim_reach.proofs.Filtering.{take_whole}

pub loop-k-init : goal.loop-k-init
loop-k-init c = puts_none (AgreesWithAll c.args.machine.now (λ r. slice_index_or c.args.states.now r 0)) (λ s. AreValid aig_ops s c.args.states.now) c.args.literals.now

pub loop-k-preserved : goal.loop-k-preserved
loop-k-preserved c =
    let registers : List ℕ = c.args.registers.now in
    let states : List ℕ = c.args.states.now in
    let k : ℕ = c.loop-k.k in
    let r : ℕ = c.index-registers-k.result in
    let at : slice_get registers k ≡ Some r = slice_get-get_or registers k r c.loop-k-test.true ∙ ap Some (sym c.index-registers-k.is) in
    let low : r < length c.args.machine.now.circuit.registers = subst (λ n. n < length c.args.machine.now.circuit.registers) (sym c.index-registers-k.is) (c.requires.registers k r c.loop-k-test.true) in
    let below : r < length states = omega (arith, low, c.requires.states) in
    let is : c.get-state.result ≡ slice_index_or states r 0 = c.get-state.ensures ∙ ap (λ n. slice_index_or states n 0) c.number.ensures.number in
    registers_more c.args.machine.now registers states k r c.get-state.result c.args.literals.now c.loop-k.literals c.put_register.new.literals at is
    (λ s valid. subst (λ a. IsTrue (aig_ops.is_valid s a)) (sym is) (valid_at aig_ops s states r valid below))
    c.loop-k.invariant c.in_ok-put_register.ensures.put

pub returns-clause-put : goal.returns-clause-put
returns-clause-put c =
    subst (λ l. Puts (AgreesWithAll c.args.machine.now (λ r. slice_index_or c.args.states.now r 0)) (λ s. AreValid aig_ops s c.args.states.now) (flat_map (nets_shown c.args.machine.now) l) c.args.literals.now c.loop-k.literals)
    (take_whole c.args.registers.now c.loop-k.k (omega (arith, c.loop-k-test.false))) c.loop-k.invariant

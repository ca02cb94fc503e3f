use Rattle.std.proofs.Common.{◌≡◌, ◌<◌, ◌+◌, ℕ, suc, List, ◌∷◌, Some, drop, length, slice_get, slice_set, sym, ◌∙◌, ap, subst, arith}
use Rattle.std.proofs.lemmas.Option.{slice_get-get_or}
use Rattle.std.proofs.lemmas.Result.{err_from_is_err_and}
use Rattle.cg_machine.specs.Machine.{MachineData}
use Rattle.cg_net.proofs.TableLemmas.{drop_cons}
use Rattle.cg_claim.specs.form.Build.{Cycle}
use Rattle.cg_unroll_cycles.specs.inner.Laid.{IsLayingNext, cycle_of}
use Rattle.cg_unroll_cycles.proofs.NextLaid.{next_fails, next_on}
use Rattle.cg_unroll_cycles.proofs.cycle.put_next.Goals as goal

pub returns-in_err-next-clause-failed : goal.returns-in_err-next-clause-failed
returns-in_err-next-clause-failed c =
    let m : MachineData = c.args.machine.now in
    let cycle : Cycle = cycle_of c.args.before.now c.args.aig.now in
    let all : List ℕ = c.args.registers.now in
    let k : ℕ = c.loop-k.k in
    let r : ℕ = c.index-registers-k.result in
    let at : slice_get all k ≡ Some r = slice_get-get_or all k r c.loop-k-test.true ∙ ap Some (sym c.index-registers-k.is) in
    let left : drop k all ≡ r ∷ drop (suc k) all = drop_cons all k r at in
    let passed = err_from_is_err_and c.from_residual.result c.from_residual.ensures.1 in
    rw (passed.1, passed.2) (next_fails m cycle all (drop (suc k) all) r c.args.aig.now c.loop-k.aig c.args.states.now c.loop-k.states
    (subst (λ l. IsLayingNext m cycle all l c.args.aig.now c.loop-k.aig c.args.states.now c.loop-k.states) left c.loop-k.invariant)
    c.in_err-next.field-0.0 c.in_err-next.ensures.failed)

pub loop-k-preserved : goal.loop-k-preserved
loop-k-preserved c =
    let m : MachineData = c.args.machine.now in
    let cycle : Cycle = cycle_of c.args.before.now c.args.aig.now in
    let all : List ℕ = c.args.registers.now in
    let k : ℕ = c.loop-k.k in
    let r : ℕ = c.index-registers-k.result in
    let at : slice_get all k ≡ Some r = slice_get-get_or all k r c.loop-k-test.true ∙ ap Some (sym c.index-registers-k.is) in
    let left : drop k all ≡ r ∷ drop (suc k) all = drop_cons all k r at in
    let low : r < length m.circuit.registers = subst (λ n. n < length m.circuit.registers) (sym c.index-registers-k.is) (c.requires.registers k r c.loop-k-test.true) in
    let below : r < length c.loop-k.states = omega (arith, low, c.requires.states.long, c.loop-k.invariant.long) in
    let e : suc k ≡ k + 1 = omega arith in
    subst (λ n. IsLayingNext m cycle all (drop n all) c.args.aig.now c.next_literal.new.aig c.args.states.now c.put.new.self) e
    (subst (IsLayingNext m cycle all (drop (suc k) all) c.args.aig.now c.next_literal.new.aig c.args.states.now) (sym (c.in_ok-put.ensures.put ∙ ap (λ n. slice_set c.loop-k.states n c.in_ok-next.next) c.number.ensures.number))
    (next_on m cycle all (drop (suc k) all) r c.args.aig.now c.loop-k.aig c.args.states.now c.loop-k.states
    (subst (λ l. IsLayingNext m cycle all l c.args.aig.now c.loop-k.aig c.args.states.now c.loop-k.states) left c.loop-k.invariant)
    c.next_literal.new.aig c.in_ok-next.next below c.in_ok-next.ensures.built))

use Rattle.std.proofs.Common.{◌≡◌, ◌<◌, ◌+◌, ℕ, suc, List, [], ◌∷◌, Some, drop, length, slice_get, slice_index_or, slice_set, sym}
use Rattle.std.proofs.Common.{◌∙◌, ap, subst, arith}
use Rattle.std.proofs.lemmas.Option.{slice_get-get_or}
use Rattle.std.proofs.lemmas.Result.{err_from_is_err_and}
use Rattle.cg_cell.proofs.Evals.{valid_then}
use Rattle.cg_aig.specs.Aig.{aig_ops}
use Rattle.cg_net.proofs.Members.{member_at}
use Rattle.cg_machine.specs.Machine.{MachineData}
use Rattle.cg_unroll.specs.inner.States.{IsLayingStates}
use Rattle.cg_net.proofs.TableLemmas.{drop_cons}
use Rattle.cg_unroll.proofs.StatesLaid.{states_end, states_fail, states_on, states_start}
use Rattle.cg_unroll.proofs.states.put_states.Goals as goal
use Rattle.cg_claim_reach.proofs.Marking.{drop_whole}

pub loop-k-init : goal.loop-k-init
loop-k-init c = states_start c.args.machine.now (λ x. slice_index_or c.args.sources.now.nets.now x 0) (λ r. slice_index_or c.args.sources.now.own.now r 0) (λ r. slice_index_or c.args.sources.now.free.now r 0) c.args.registers.now c.args.aig.now c.args.states.now c.requires.valid_states

pub state_literal-requires-clause-valid_own : goal.state_literal-requires-clause-valid_own
state_literal-requires-clause-valid_own c = valid_then aig_ops c.args.aig.now c.loop-k.aig c.args.sources.now.own.now c.loop-k.invariant.keeps c.requires.valid_own

pub state_literal-requires-clause-valid_free : goal.state_literal-requires-clause-valid_free
state_literal-requires-clause-valid_free c = valid_then aig_ops c.args.aig.now c.loop-k.aig c.args.sources.now.free.now c.loop-k.invariant.keeps c.requires.valid_free

pub state_literal-requires-clause-valid_nets : goal.state_literal-requires-clause-valid_nets
state_literal-requires-clause-valid_nets c = valid_then aig_ops c.args.aig.now c.loop-k.aig c.args.sources.now.nets.now c.loop-k.invariant.keeps c.requires.valid_nets

pub returns-in_err-put-clause-failed : goal.returns-in_err-put-clause-failed
returns-in_err-put-clause-failed c =
    let passed = err_from_is_err_and c.from_residual-in_err-put.result c.from_residual-in_err-put.ensures.1 in
    rw (passed.1, passed.2 ∙ c.in_err-put.ensures.failed) (λ q tells. tt)

pub returns-clause-laid : goal.returns-clause-laid
returns-clause-laid c =
    let m : MachineData = c.args.machine.now in
    let nets : ℕ → ℕ = λ x. slice_index_or c.args.sources.now.nets.now x 0 in
    let own : ℕ → ℕ = λ r. slice_index_or c.args.sources.now.own.now r 0 in
    let free : ℕ → ℕ = λ r. slice_index_or c.args.sources.now.free.now r 0 in
    let none : drop c.loop-k.k c.args.registers.now ≡ [] = drop_whole c.args.registers.now c.loop-k.k (omega (arith, c.loop-k-test.false)) in
    states_end m nets own free c.args.registers.now c.args.aig.now c.loop-k.aig c.args.states.now c.loop-k.states
    (subst (λ l. IsLayingStates m nets own free c.args.registers.now l c.args.aig.now c.loop-k.aig c.args.states.now c.loop-k.states) none c.loop-k.invariant)

pub returns-in_err-state-clause-failed : goal.returns-in_err-state-clause-failed
returns-in_err-state-clause-failed c =
    let m : MachineData = c.args.machine.now in
    let nets : ℕ → ℕ = λ x. slice_index_or c.args.sources.now.nets.now x 0 in
    let own : ℕ → ℕ = λ r. slice_index_or c.args.sources.now.own.now r 0 in
    let free : ℕ → ℕ = λ r. slice_index_or c.args.sources.now.free.now r 0 in
    let all : List ℕ = c.args.registers.now in
    let k : ℕ = c.loop-k.k in
    let r : ℕ = c.index-registers-k.result in
    let at : slice_get all k ≡ Some r = slice_get-get_or all k r c.loop-k-test.true ∙ ap Some (sym c.index-registers-k.is) in
    let left : drop k all ≡ r ∷ drop (suc k) all = drop_cons all k r at in
    let passed = err_from_is_err_and c.from_residual.result c.from_residual.ensures.1 in
    rw (passed.1, passed.2) (states_fail m nets own free all (drop (suc k) all) r c.args.aig.now c.loop-k.aig c.args.states.now c.loop-k.states (member_at all k r at)
    (subst (λ l. IsLayingStates m nets own free all l c.args.aig.now c.loop-k.aig c.args.states.now c.loop-k.states) left c.loop-k.invariant)
    c.in_err-state.field-0.0 c.in_err-state.ensures.failed)

pub loop-k-preserved : goal.loop-k-preserved
loop-k-preserved c =
    let m : MachineData = c.args.machine.now in
    let nets : ℕ → ℕ = λ x. slice_index_or c.args.sources.now.nets.now x 0 in
    let own : ℕ → ℕ = λ r. slice_index_or c.args.sources.now.own.now r 0 in
    let free : ℕ → ℕ = λ r. slice_index_or c.args.sources.now.free.now r 0 in
    let all : List ℕ = c.args.registers.now in
    let k : ℕ = c.loop-k.k in
    let r : ℕ = c.index-registers-k.result in
    let at : slice_get all k ≡ Some r = slice_get-get_or all k r c.loop-k-test.true ∙ ap Some (sym c.index-registers-k.is) in
    let left : drop k all ≡ r ∷ drop (suc k) all = drop_cons all k r at in
    let low : r < length m.circuit.registers = subst (λ n. n < length m.circuit.registers) (sym c.index-registers-k.is) (c.requires.registers k r c.loop-k-test.true) in
    let below : r < length c.loop-k.states = omega (arith, low, c.requires.states, c.loop-k.invariant.long) in
    let e : suc k ≡ k + 1 = omega arith in
    subst (λ n. IsLayingStates m nets own free all (drop n all) c.args.aig.now c.state_literal.new.aig c.args.states.now c.put.new.self) e
    (subst (IsLayingStates m nets own free all (drop (suc k) all) c.args.aig.now c.state_literal.new.aig c.args.states.now) (sym (c.in_ok-put.ensures.put ∙ ap (λ n. slice_set c.loop-k.states n c.in_ok-state.state) c.number.ensures.number))
    (states_on m nets own free all (drop (suc k) all) r c.args.aig.now c.loop-k.aig c.args.states.now c.loop-k.states (member_at all k r at)
    (subst (λ l. IsLayingStates m nets own free all l c.args.aig.now c.loop-k.aig c.args.states.now c.loop-k.states) left c.loop-k.invariant)
    c.state_literal.new.aig c.in_ok-state.state below c.in_ok-state.ensures.built))

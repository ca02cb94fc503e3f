use Rattle.std.proofs.Common.{◌≡◌, ◌<◌, ◌+◌, ℕ, suc, true, false, List, [], ◌∷◌, ◌++◌, Some, length, nat_eq, slice_get}
use Rattle.std.proofs.Common.{slice_index_or, slice_set, take, IsTrue, refl, sym, ◌∙◌, ap, subst, arith, inl, inr}
use Rattle.std.proofs.lemmas.Bool.{both_ways, cases_Bool, eq-eqb, eqb-true}
use Rattle.std.proofs.lemmas.List.{get_or-set_same, get_or-set_other}
use Rattle.std.proofs.lemmas.Option.{slice_get-get_or}
use Rattle.std.proofs.Math.ListN.{length-set}
use Rattle.cg_cell.proofs.Evals.{valid_at}
use Rattle.cg_aig.specs.Aig.{aig_ops}
use Rattle.cg_unroll.specs.inner.States.{Carries}
use Rattle.cg_net.proofs.TableLemmas.{take_end}
use Rattle.cg_unroll.proofs.Laying.{valid_set}
use Rattle.cg_unroll.proofs.StatesLaid.{carry_keeps, carry_more, carry_takes, so_far}
use Rattle.cg_unroll.proofs.states.carry_states.Goals as goal
use Rattle.cg_unroll.proofs.states.carry_states.Goals.{then-number-eq0+in_ok-put, else-number-eq0}

pub loop-k-preserved : goal.loop-k-preserved
loop-k-preserved c =
    let registers : List ℕ = c.args.registers.now in
    let states : List ℕ = c.args.states.now in
    let old : List ℕ = c.args.others.now in
    let now : List ℕ = c.loop-k.others in
    let k : ℕ = c.loop-k.k in
    let r : ℕ = c.index-registers-k.result in
    let place : ℕ = c.number-place.result in
    let is : place ≡ r = c.number-place.ensures.number in
    let at : slice_get registers k ≡ Some r = slice_get-get_or registers k r c.loop-k-test.true ∙ ap Some (sym c.index-registers-k.is) in
    let low : r < length states = subst (λ n. n < length states) (sym c.index-registers-k.is) (c.requires.registers k r c.loop-k-test.true) in
    let room : r < length old = subst (λ n. n < length old) (sym c.index-registers-k.is) (c.requires.others k r c.loop-k-test.true) in
    let below : r < length now = omega (arith, room, c.loop-k.invariant.long) in
    let e : suc k ≡ k + 1 = omega arith in
    let more : take k registers ++ r ∷ [] ≡ take (k + 1) registers = sym (take_end registers k r at) ∙ ap (λ n. take n registers) e in
    let here : c.number.result ≡ so_far (take k registers) r (slice_index_or old r 0) (slice_index_or states r 0) =
    c.number.ensures ∙ (c.get.ensures ∙ (ap (λ n. slice_index_or now n 0) is ∙ c.loop-k.invariant.at r)) in
    subst (λ l. Carries l states old c.if-number-eq0.others) more (elim c.if-number-eq0.branch [
      | then-number-eq0+in_ok-put w ↦
          let v : ℕ = w.get-then-number-eq0.result in
          let v_is : v ≡ slice_index_or states r 0 = w.get-then-number-eq0.ensures ∙ ap (λ n. slice_index_or states n 0) is in
          let new : c.if-number-eq0.others ≡ slice_set now r v = w.others-is ∙ (w.in_ok-put.ensures.put ∙ ap (λ n. slice_set now n v) is) in
          let none : nat_eq (so_far (take k registers) r (slice_index_or old r 0) (slice_index_or states r 0)) 0 ≡ true = eq-eqb (so_far (take k registers) r (slice_index_or old r 0) (slice_index_or states r 0)) 0 (sym here ∙ w.if-number-eq0.true) in
          subst (Carries (take k registers ++ r ∷ []) states old) (sym new) (record {
            at = carry_more (take k registers) r old states now (slice_set now r v) c.loop-k.invariant.at
                (λ x other. get_or-set_other now r x v 0 (λ same. both_ways (nat_eq x r) other (eq-eqb x r same)))
                (get_or-set_same now r v 0 below ∙ (v_is ∙ carry_takes (take k registers) r (slice_index_or old r 0) (slice_index_or states r 0) none));
            valid = λ s states_valid old_valid. valid_set s now r v (c.loop-k.invariant.valid s states_valid old_valid) (subst (λ a. IsTrue (aig_ops.is_valid s a)) (sym v_is) (valid_at aig_ops s states r states_valid low));
            long = length-set now r v ∙ c.loop-k.invariant.long;
          })
      | else-number-eq0 w ↦
          let some : nat_eq (so_far (take k registers) r (slice_index_or old r 0) (slice_index_or states r 0)) 0 ≡ false =
          elim (cases_Bool (nat_eq (so_far (take k registers) r (slice_index_or old r 0) (slice_index_or states r 0)) 0)) [
            | inl zero ↦ absurd (w.if-number-eq0.false (here ∙ eqb-true (so_far (take k registers) r (slice_index_or old r 0) (slice_index_or states r 0)) 0 zero))
            | inr other ↦ other
          ] in
          subst (Carries (take k registers ++ r ∷ []) states old) (sym w.others-is) (record {
            at = carry_more (take k registers) r old states now now c.loop-k.invariant.at (λ x other. refl)
                (c.loop-k.invariant.at r ∙ carry_keeps (take k registers) r (slice_index_or old r 0) (slice_index_or states r 0) some);
            valid = c.loop-k.invariant.valid;
            long = c.loop-k.invariant.long;
          })
    ])

use Rattle.std.proofs.Common.{◌≡◌, ◌≤◌, List, length, sym, ◌∙◌, ap, subst, arith}
use Rattle.std.proofs.lemmas.List.{length-map}
use Rattle.std.proofs.lemmas.Result.{err_from_is_err_and}
use Rattle.cg_limit.specs.declared.TheConstants.{MOST_CLAIM_NODES}
use Rattle.cg_cell.specs.Domain.{Seen}
use Rattle.cg_claim.specs.Build.{size}
use Rattle.cg_claim.specs.declared.leaf.Leaf.{Leaf}
use Rattle.cg_claim.specs.Leaves.{leaves_of, shown_leaf, width_of}
use Rattle.cg_claim_reach.specs.Asking.{question_of}
use Rattle.cg_unroll.proofs.FewLeaves.{few_leaves}
use Rattle.cg_unroll.proofs.Refusals.{fails_refused}
use Rattle.cg_unroll.proofs.build.Builder.build_narrow.Goals as goal

pub overflow_cast-result : goal.overflow_cast-result
overflow_cast-result c =
    let m = c.args.machine.now in
    let q = question_of c.args.asked.now in
    let count : c.len-count.result ≡ width_of m q = c.len-count.ensures.count ∙ (ap (λ (l : List Leaf). length l) c.requires.reached.leaves ∙ length-map (leaves_of m q) shown_leaf) in
    omega (arith, few_leaves m c.netlist-netlist.ensures.machine q, count)

pub returns-then-count-width-clause-refused : goal.returns-then-count-width-clause-refused
returns-then-count-width-clause-refused c =
    let m = c.args.machine.now in
    let q = question_of c.args.asked.now in
    let count : c.len-count.result ≡ width_of m q = c.len-count.ensures.count ∙ (ap (λ (l : List Leaf). length l) c.requires.reached.leaves ∙ length-map (leaves_of m q) shown_leaf) in
    (count, omega (arith, c.if-count-width.true))

pub returns-in_err-build-clause-refused : goal.returns-in_err-build-clause-refused
returns-in_err-build-clause-refused c =
    let m = c.args.machine.now in
    let q = question_of c.args.asked.now in
    let count : c.len-count.result ≡ width_of m q = c.len-count.ensures.count ∙ (ap (λ (l : List Leaf). length l) c.requires.reached.leaves ∙ length-map (leaves_of m q) shown_leaf) in
    let passed = err_from_is_err_and c.from_residual.result c.from_residual.ensures.1 in
    rw (passed.1, passed.2) (fails_refused m q c.args.width c.in_err-build.field-0.0 (omega (arith, c.if-count-width.false, count)) c.in_err-build.ensures.failed)

pub returns-clause-claim : goal.returns-clause-claim
returns-clause-claim c =
    let m = c.args.machine.now in
    let q = question_of c.args.asked.now in
    let count : c.len-count.result ≡ width_of m q = c.len-count.ensures.count ∙ (ap (λ (l : List Leaf). length l) c.requires.reached.leaves ∙ length-map (leaves_of m q) shown_leaf) in
    record {
      list = sym c.in_ok-build.ensures.built.left;
      goal = sym c.in_ok-build.ensures.built.answered;
      leaves = c.requires.reached.leaves;
      narrow = omega (arith, c.if-count-width.false, count);
      small = subst (λ (s : Seen). size s ≤ MOST_CLAIM_NODES) (sym c.in_ok-build.ensures.built.left) c.leaves-leaves.ensures.well_formed.small;
      valid = c.in_ok-build.ensures.valid;
    }

use Rattle.std.proofs.Common.{◌≡◌, List, ◌++◌, map, ◌∙◌, ap}
use Rattle.cg_claim.specs.declared.leaf.Leaf.{Leaf}
use Rattle.cg_claim.specs.Leaves.{leaves_at, shown_leaf}
use Rattle.cg_claim.specs.Question.{Before, After, Changed}
use Rattle.cg_claim_reach.specs.Asking.{question_of}
use Rattle.cg_claim_reach.proofs.LeavesReached.{before_leaves, leaves_whole}
use Rattle.cg_claim_reach.proofs.leaves.leaves.Goals as goal

pub returns : goal.returns
returns c =
    let m = c.args.machine.now in
    let q = question_of c.args.asked.now in
    let B : List Leaf = map shown_leaf (leaves_at m q Before) in
    let A : List Leaf = map shown_leaf (leaves_at m q After) in
    let C : List Leaf = map shown_leaf (leaves_at m q Changed) in
    let L : List Leaf = c.in_ok-leaves.leaves.items in
    let before : c.push_registers.new.leaves.items ≡ L ++ B =
    before_leaves m q c.args.before.now L c.push_inputs.new.leaves.items c.push_registers.new.leaves.items c.as_slice.result.now c.as_slice-2.result.now
    c.requires.before c.as_slice.ensures.parts (c.as_slice-2.ensures.parts ∙ c.in_ok-registers.ensures) c.in_ok-push_inputs.ensures c.in_ok-push_registers.ensures in
    c.from_vec.ensures ∙ (c.in_ok-push_changed.ensures ∙ (ap (λ (l : List Leaf). l ++ C) (c.in_ok-push_after.ensures ∙ ap (λ (l : List Leaf). l ++ A) (before ∙ ap (λ (l : List Leaf). l ++ B) c.in_ok-leaves.ensures.items)) ∙ leaves_whole m q))

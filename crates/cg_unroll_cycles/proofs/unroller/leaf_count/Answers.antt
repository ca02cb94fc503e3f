use Rattle.std.proofs.Common.{◌≡◌, ◌<◌, ◌≤◌, length, rules, ◌∙◌, ap, arith}
use Rattle.cg_hint_laws.specs.Leaves.{width_of}
use Rattle.cg_unroll_cycles.specs.Asking.{question_of}
use Rattle.cg_unroll_cycles.proofs.CycleLeaves.{few_leaves}
use Rattle.cg_unroll_cycles.proofs.unroller.leaf_count.Goals as goal

pub overflow_cast-result : goal.overflow_cast-result
overflow_cast-result c =
    let m = c.args.machine.now in
    let q = question_of c.args.question.now in
    let count : c.len.result ≡ width_of m q = c.len.ensures.count ∙ ap length c.requires.leaves in
    let small : q.after < 256 = search rules in
    let few : width_of m q ≤ 285212672 = few_leaves m q c.netlist-netlist.ensures.machine small in
    omega (arith, few, count)

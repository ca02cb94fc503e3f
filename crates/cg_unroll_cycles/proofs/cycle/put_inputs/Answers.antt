use Rattle.std.proofs.Common.{◌≡◌, ◌<◌, List, slice_get, sym, ◌∙◌, ap, subst}
use Rattle.cg_claim.specs.declared.leaf.Leaf.{Leaf}
use Rattle.cg_machine.specs.Machine.{MachineData}
use Rattle.cg_hint_laws.specs.Leaves.{leaves_of}
use Rattle.cg_hint_laws.specs.Question.{Question}
use Rattle.cg_unroll_cycles.specs.inner.Laid.{asked_by}
use Rattle.cg_unroll_cycles.proofs.LeafLiterals.{inputs_placed}
use Rattle.cg_unroll_cycles.proofs.cycle.put_inputs.Goals as goal

pub put_leaves-requires-clause-placed : goal.put_leaves-requires-clause-placed
put_leaves-requires-clause-placed c = λ j y l at placed.
    let m : MachineData = c.args.unrolling.now.machine.now in
    let q : Question = asked_by c.args.unrolling.now in
    let is : c.as_slice-leaves.result.now ≡ leaves_of m q = c.as_slice-leaves.ensures.parts ∙ c.requires.unrolling.reached.leaves in
    subst (λ n. y < n) (sym c.nets-places.ensures) (inputs_placed m c.netlist-netlist.ensures.machine q c.args.cycle j y l (sym (ap (λ (ls : List Leaf). slice_get ls j) is) ∙ at) placed)

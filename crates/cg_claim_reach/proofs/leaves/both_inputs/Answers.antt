use Rattle.std.proofs.Common.{ℕ, List, ◌++◌, ◌∙◌, ap, subst}
use Rattle.cg_netlist.specs.Circuit.{Circuit, data_inputs}
use Rattle.cg_netlist.specs.inner.Rising.{Rises}
use Rattle.cg_netlist_cone.proofs.ConeEdge.{data_rises}
use Rattle.cg_claim_reach.proofs.RisingInputs.{both_inputs_are}
use Rattle.cg_claim_reach.proofs.leaves.both_inputs.Goals as goal

pub returns : goal.returns
returns c = λ nets more is its.
    let m = c.args.machine.now in
    let rises : Rises 0 (data_inputs m.circuit) = subst (λ (n : Circuit). Rises 0 (data_inputs n)) c.netlist-netlist.ensures.netlist (data_rises c.netlist-netlist.result.now c.nets-nets.ensures.netlist.in_order) in
    let first = c.in_ok-push_numbers.ensures ∙ (ap (λ (l : List ℕ). l ++ c.as_slice.result.now) c.new-numbers.ensures.items ∙ c.as_slice.ensures.parts) in
    let numbers = c.in_ok-push_numbers-2.ensures ∙ ap (λ (l : List ℕ). l ++ c.as_slice-2.result.now) first in
    both_inputs_are m c.netlist-netlist.ensures.machine nets more c.args.one.now.inputs c.as_slice-2.result.now c.push_numbers-2.new.numbers.items is.inputs (c.as_slice-2.ensures.parts ∙ its.inputs) numbers rises c.in_ok-inputs.inputs.items
    (λ n within. c.in_ok-inputs.ensures ∙ (c.deref.ensures.value ∙ c.ascending.ensures n within))

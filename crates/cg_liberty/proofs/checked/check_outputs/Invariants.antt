use Rattle.std.proofs.Common.{◌≡◌, ◌++◌, drop}
use Rattle.cg_liberty.specs.inner.Checked.{outputs_checked}
use Rattle.cg_liberty.specs.Kinds.{output_texts, state_names}
use Rattle.cg_liberty.proofs.checked.check_outputs.Given as goal

abbrev pub invariant-ports : goal.invariant-ports
invariant-ports l = outputs_checked (l.names.inputs.now ++ state_names l.names.states.now) (output_texts (drop l.port-index l.ports)) ≡ outputs_checked (l.names.inputs.now ++ state_names l.names.states.now) (output_texts l.ports)

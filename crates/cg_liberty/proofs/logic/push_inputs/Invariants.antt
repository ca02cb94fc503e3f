use Rattle.std.proofs.Common.{◌≡◌, ◌++◌, drop}
use Rattle.cg_liberty.specs.Kinds.{input_names}
use Rattle.cg_liberty.proofs.logic.push_inputs.Given as goal

abbrev pub invariant-ports : goal.invariant-ports
invariant-ports l = l.names ++ input_names (drop l.port-index l.ports) ≡ l.fn.names ++ input_names l.ports

use Rattle.std.specs.Prelude.{false}
use Rattle.cg_netlist.specs.Wiring.{named}
use Rattle.cg_netlist_parts.proofs.part_laws.said_by_own_parts.Goals as goal
use Rattle.cg_netlist_parts.proofs.SaidByItsParts.{none_left, says_own}
use Rattle.cg_netlist_parts.proofs.TakenFromNetlist.{taken_own}

pub returns-clause-own : goal.returns-clause-own
returns-clause-own c = λ netlist is outputs_once.
    (taken_own netlist (λ r. false) is outputs_once (none_left (named netlist)), says_own netlist (λ r. false) is outputs_once (none_left (named netlist)))

pub returns-clause-left_out : goal.returns-clause-left_out
returns-clause-left_out c = λ netlist leaves is outputs_once left. (taken_own netlist leaves is outputs_once left, says_own netlist leaves is outputs_once left)

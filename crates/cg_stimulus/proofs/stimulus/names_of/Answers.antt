use Rattle.std.proofs.Common.{◌<◌, length, nat_eq, sym, subst}
use Rattle.std.specs.List.{All, IsDistinct}
use Rattle.cg_stimulus.proofs.InputsNamed.{inputs_within, inputs_once}
use Rattle.cg_stimulus.proofs.stimulus.names_of.Goals as goal

pub names_at-requires-clause-nets : goal.names_at-requires-clause-nets
names_at-requires-clause-nets c = subst (All (λ net. net < length c.args.netlist.now.names)) (sym c.data_inputs.ensures) (inputs_within c.args.netlist.now c.nets.ensures.netlist)

pub names_at-requires-clause-once : goal.names_at-requires-clause-once
names_at-requires-clause-once c = subst (IsDistinct nat_eq) (sym c.data_inputs.ensures) (inputs_once c.args.netlist.now c.nets.ensures.netlist)

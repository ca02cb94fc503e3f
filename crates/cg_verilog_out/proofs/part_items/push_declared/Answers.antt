use Rattle.std.proofs.Common.{ap, subst}
use Rattle.cg_netlist.specs.View.{kind_seen, register_seen}
use Rattle.cg_netlist.specs.WellFormed.{FitsKind}
use Rattle.cg_verilog_out.proofs.WithinNetlist.{register_fits, register_nets}
use Rattle.cg_verilog_out.proofs.part_items.push_declared.Goals as goal

pub push_shown-requires-clause-nets : goal.push_shown-requires-clause-nets
push_shown-requires-clause-nets c = register_nets c.args.netlist.now c.requires.netlist c.args.id (register_seen c.register-register.result) c.register-register.ensures

pub push_shown-requires-clause-fits : goal.push_shown-requires-clause-fits
push_shown-requires-clause-fits c =
    subst (λ kind. FitsKind kind (register_seen c.register-register.result)) (ap kind_seen c.in-Plain.is)
    (register_fits c.args.netlist.now c.requires.netlist c.args.id (register_seen c.register-register.result) c.register-register.ensures).kind

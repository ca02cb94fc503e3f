use Rattle.std.proofs.Common.{ap, subst}
use Rattle.cg_netlist.specs.View.{kind_seen, register_seen}
use Rattle.cg_netlist.specs.WellFormed.{FitsKind}
use Rattle.cg_verilog_out.proofs.WithinNetlist.{register_fits, register_nets}
use Rattle.cg_verilog_out.proofs.part_items.push_register.Goals as goal

pub push_plain-requires-clause-nets : goal.push_plain-requires-clause-nets
push_plain-requires-clause-nets c = register_nets c.args.netlist.now c.requires.netlist c.args.id (register_seen c.register-register.result) c.register-register.ensures

pub push_plain-requires-clause-fits : goal.push_plain-requires-clause-fits
push_plain-requires-clause-fits c =
    subst (λ kind. FitsKind kind (register_seen c.register-register.result)) (ap kind_seen c.in-Plain.is)
    (register_fits c.args.netlist.now c.requires.netlist c.args.id (register_seen c.register-register.result) c.register-register.ensures).kind

pub push_flop-requires-clause-nets : goal.push_flop-requires-clause-nets
push_flop-requires-clause-nets c = register_nets c.args.netlist.now c.requires.netlist c.args.id (register_seen c.register-register.result) c.register-register.ensures

pub push_flop-requires-clause-places : goal.push_flop-requires-clause-places
push_flop-requires-clause-places c = (register_fits c.args.netlist.now c.requires.netlist c.args.id (register_seen c.register-register.result) c.register-register.ensures).pins

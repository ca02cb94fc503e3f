use Rattle.std.proofs.Common.{ap, subst}
use Rattle.cg_netlist.specs.View.{kind_seen, register_seen}
use Rattle.cg_netlist.specs.WellFormed.{FitsKind}
use Rattle.cg_net.specs.Names.{net_name}
use Rattle.cg_netlist.specs.declared.parts.RegisterKind.TheVariants.{Plain, Flop}
use Rattle.cg_blif_out.proofs.WholeText.{if_ok}
use Rattle.cg_blif_out.proofs.WithinNetlist.{register_fits, register_nets, register_said}
use Rattle.cg_blif_out.proofs.text.register_statement.Goals as goal

pub plain_statement-requires-clause-nets : goal.plain_statement-requires-clause-nets
plain_statement-requires-clause-nets c = register_nets c.args.netlist.now c.requires.netlist c.args.id (register_seen c.register-register.result) c.register-register.ensures

pub plain_statement-requires-clause-fits : goal.plain_statement-requires-clause-fits
plain_statement-requires-clause-fits c =
    subst (λ kind. FitsKind kind (register_seen c.register-register.result)) (ap kind_seen c.in-Plain.is)
    (register_fits c.args.netlist.now c.requires.netlist c.args.id (register_seen c.register-register.result) c.register-register.ensures).kind

pub flop_statement-requires-clause-nets : goal.flop_statement-requires-clause-nets
flop_statement-requires-clause-nets c = register_nets c.args.netlist.now c.requires.netlist c.args.id (register_seen c.register-register.result) c.register-register.ensures

pub flop_statement-requires-clause-places : goal.flop_statement-requires-clause-places
flop_statement-requires-clause-places c = (register_fits c.args.netlist.now c.requires.netlist c.args.id (register_seen c.register-register.result) c.register-register.ensures).pins

pub returns-in-Plain : goal.returns-in-Plain
returns-in-Plain c =
    register_said c.args.netlist.now c.args.id (register_seen c.register-register.result) (net_name c.args.netlist.now.names) Plain c.plain_statement.result c.register-register.ensures (ap kind_seen c.in-Plain.is)
    (register_fits c.args.netlist.now c.requires.netlist c.args.id (register_seen c.register-register.result) c.register-register.ensures).init c.plain_statement.ensures

pub returns-in-Cell : goal.returns-in-Cell
returns-in-Cell c =
    if_ok _ _ c.flop_statement.result
    (λ s said. register_said c.args.netlist.now c.args.id (register_seen c.register-register.result) (net_name c.args.netlist.now.names) (Flop c.in-Cell.placed.now) s c.register-register.ensures (ap kind_seen c.in-Cell.is)
    (register_fits c.args.netlist.now c.requires.netlist c.args.id (register_seen c.register-register.result) c.register-register.ensures).init said)
    c.flop_statement.ensures

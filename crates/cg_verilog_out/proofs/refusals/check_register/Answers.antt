use Rattle.std.proofs.Common.{ap}
use Rattle.cg_netlist.specs.View.{kind_seen, register_seen}
use Rattle.cg_verilog_out.proofs.LookedAt.{flop_looked}
use Rattle.cg_verilog_out.proofs.WithinNetlist.{register_fits, register_nets}
use Rattle.cg_verilog_out.proofs.refusals.check_register.Goals as goal

pub check_flop-requires-clause-nets : goal.check_flop-requires-clause-nets
check_flop-requires-clause-nets c = register_nets c.args.netlist.now c.requires.netlist c.args.id (register_seen c.register-register.result) c.register-register.ensures

pub check_flop-requires-clause-places : goal.check_flop-requires-clause-places
check_flop-requires-clause-places c = (register_fits c.args.netlist.now c.requires.netlist c.args.id (register_seen c.register-register.result) c.register-register.ensures).pins

pub returns-in-Cell : goal.returns-in-Cell
returns-in-Cell c =
    flop_looked c.args.netlist.now.names c.args.netlist.now.registers c.args.id (register_seen c.register-register.result) c.in-Cell.placed.now c.check_flop.result c.register-register.ensures (ap kind_seen c.in-Cell.is) c.check_flop.ensures

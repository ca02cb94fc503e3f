use Rattle.cg_net.specs.Names.{net_name}
use Rattle.cg_blif_out.proofs.WholeText.{on_ok}
use Rattle.cg_blif_out.proofs.WithinNetlist.{register_digit, register_text_is}
use Rattle.cg_blif_out.proofs.text.push_register.Goals as goal

pub push_statement-requires : goal.push_statement-requires
push_statement-requires c = register_digit c.args.netlist.now c.args.id (net_name c.args.netlist.now.names) c.in_ok-statement.statement c.requires.id c.in_ok-statement.ensures

pub returns : goal.returns
returns c = on_ok _ _ c.push_statement.result
    (register_text_is c.args.netlist.now c.args.id c.args.netlist.now.names c.in_ok-statement.statement c.args.out.now.items c.push_statement.new.out.items c.in_ok-statement.ensures)
    c.push_statement.ensures

use Rattle.std.proofs.Common.{ap, sym, ◌∙◌, arith, slice_get}
use Rattle.cg_verilog_out.proofs.LookedAt.{names_done, names_fault, names_next}
use Rattle.cg_verilog_out.proofs.refusals.check_net_names.Goals as goal

pub returns-in-Err : goal.returns-in-Err
returns-in-Err c =
    names_fault c.args.netlist.now.names c.nets.number c.name.result.now c.in-Err.fault (ap (slice_get c.args.netlist.now.names) (sym c.new.ensures) ∙ c.name.ensures) c.nets.invariant c.in-Err.ensures

pub nets-preserved : goal.nets-preserved
nets-preserved c = names_next c.args.netlist.now.names c.nets.number c.name.result.now (ap (slice_get c.args.netlist.now.names) (sym c.new.ensures) ∙ c.name.ensures) c.nets.invariant c.in-Ok.ensures

pub returns : goal.returns
returns c = names_done c.args.netlist.now.names c.nets.number (omega arith) c.nets.invariant

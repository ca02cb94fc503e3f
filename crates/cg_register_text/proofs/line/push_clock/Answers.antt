use Rattle.cg_register_text.proofs.GivenRegisters.{clock_below}
use Rattle.cg_register_text.proofs.line.push_clock.Goals as goal

pub name-requires : goal.name-requires
name-requires c = clock_below c.args.netlist.now c.nets-nets.ensures.netlist.well_formed c.args.reg _ c.register-clock.ensures

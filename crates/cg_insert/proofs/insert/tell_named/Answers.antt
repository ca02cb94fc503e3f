use Rattle.std.proofs.Common.{subst}
use Rattle.std.specs.Option.{option_copied}
use Rattle.cg_netlist.specs.Netlist.{IsNetlist}
use Rattle.cg_insert.proofs.Finishing.{may}
use Rattle.cg_insert.proofs.insert.tell_named.Goals as goal

pub tell-requires-clause-parts : goal.tell-requires-clause-parts
tell-requires-clause-parts c =
    may c.args.gating.now.library.now (option_copied c.args.gating.now.test) c.args.gating.now.machine.now c.netlist-netlist.ensures.machine c.requires.can (subst IsNetlist c.netlist-netlist.ensures.netlist c.nets-own.ensures.netlist) c.requires.small c.args.builder.now c.in_ok-names.names
    c.requires.empty c.in_ok-names.ensures

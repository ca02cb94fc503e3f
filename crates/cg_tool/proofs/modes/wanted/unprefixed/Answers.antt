use Rattle.std.proofs.Common.{sym, ◌∙◌}
use Rattle.cg_machine.specs.Start.{begins}
use Rattle.cg_tool.proofs.Names.{place_of_list}
use Rattle.cg_tool.proofs.modes.wanted.unprefixed.Goals as goal

pub name-name-requires : goal.name-name-requires
name-name-requires c = place_of_list (begins c.args.prefix.now) c.args.netlist.names c.in-Some.net (sym c.prefix_clash.ensures ∙ c.in-Some.is)

use Rattle.std.proofs.Common.{Some, sym, ap, ◌∙◌}
use Rattle.cg_tool.proofs.Names.{placed_known}
use Rattle.cg_tool.proofs.modes.wanted.is_known.Goals as goal

pub returns-in-Some : goal.returns-in-Some
returns-in-Some c = sym (placed_known c.args.netlist.now.names c.args.name.now c.in-Some.field-0 (c.in-Some.ensures ∙ ap Some c.bytes.ensures.bytes))

use Rattle.std.proofs.Common.{sym, ◌∙◌}
use Rattle.std.specs.Option.{option_copied}
use Rattle.cg_tool.proofs.Refusing.{refused_within}
use Rattle.cg_tool.proofs.modes.wanted.gateable.Goals as goal

pub unlifted-requires : goal.unlifted-requires
unlifted-requires c = λ gater is. refused_within c.args.library.now (option_copied c.as_ref.result) c.in_ok-netlist-2.netlist gater (sym c.refused_gater-refused.ensures ∙ is)

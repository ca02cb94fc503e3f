use Rattle.std.proofs.Common.{sym, ◌∙◌}
use Rattle.cg_text.specs.Lines.{is_hash}
use Rattle.cg_text.proofs.Cut.{before_place, before_none}
use Rattle.cg_text.proofs.lines.before_hash.Goals as goal

pub returns-in-Some : goal.returns-in-Some
returns-in-Some c = before_place is_hash c.args.line.now c.in-Some.at (sym c.hash_at.ensures ∙ c.in-Some.is)

pub returns-in-None : goal.returns-in-None
returns-in-None c = before_none is_hash c.args.line.now (sym c.hash_at.ensures ∙ c.in-None.is)

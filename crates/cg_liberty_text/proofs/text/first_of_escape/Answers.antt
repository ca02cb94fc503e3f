use Rattle.std.proofs.lemmas.List.{take_rest}
use Rattle.cg_liberty_text.proofs.Texts.{escape_join}
use Rattle.cg_liberty_text.proofs.text.first_of_escape.Goals as goal

pub returns-in-Some : goal.returns-in-Some
returns-in-Some c = rw (take_rest c.args.after.now c.in-Some.more) (escape_join c.args.after.now c.in-Some.more c.in-Some.ensures.length)

use Rattle.std.proofs.Common.{ap, sym, ◌∙◌}
use Rattle.cg_gate.specs.Request.{RequestData}
use Rattle.cg_gate.proofs.gate.tell.Goals as goal

pub play_both-requires-clause-read : goal.play_both-requires-clause-read
play_both-requires-clause-read g c = λ rows there. c.requires.read rows (sym (ap (λ (r : RequestData). r.stimulus) c.request.view_is) ∙ there)

pub play_both-requires-clause-written : goal.play_both-requires-clause-written
play_both-requires-clause-written g c = λ rows there. c.requires.written rows (sym (ap (λ (r : RequestData). r.stimulus) c.request.view_is) ∙ there)

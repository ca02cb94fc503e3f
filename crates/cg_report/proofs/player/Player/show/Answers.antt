use Rattle.cg_report.proofs.GivenOn.{gives_by}
use Rattle.cg_report.proofs.player.Player.show.Goals as goal

pub returns-clause-given : goal.returns-clause-given
returns-clause-given g c = gives_by c.args.self.now c.step.new.self c.simulator.result.now _ _ c.is_high-clock.result c.if-not-step.ensures.steps c.is_high-clock.ensures c.simulator.ensures c.in_ok-give.ensures.given

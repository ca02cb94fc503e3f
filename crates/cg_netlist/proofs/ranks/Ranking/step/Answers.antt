use Rattle.std.proofs.Common.{◌<◌, length, sym, subst, arith}
use Rattle.std.proofs.lemmas.Result.{on_ok_weaker}
use Rattle.cg_netlist.specs.inner.Ranking.{Advances, with_top}
use Rattle.cg_netlist.proofs.SearchSteps.{above_within, meets_above, ranks_top, top_within}
use Rattle.cg_netlist.proofs.ranks.Ranking.step.Goals as goal

pub rank-requires : goal.rank-requires
rank-requires c =
    let within : c.args.top.cell < length c.args.fan_in.now = top_within c.args.fan_in.now c.args.self.now c.args.top c.requires.sound in
    omega (arith, within, c.in-None.ensures.cell, c.requires.sound.ranks_fit)

pub meet-requires : goal.meet-requires
meet-requires c =
    above_within c.args.fan_in.now c.args.self.now c.args.top c.look.new.progress c.in-Some.above
    c.requires.names c.requires.sound c.in-Some.ensures

pub returns-in-None : goal.returns-in-None
returns-in-None c =
    subst (Advances c.args.fan_in.now (with_top c.args.self.now c.args.top)) (sym c.rank.ensures)
    (ranks_top c.args.fan_in.now c.args.self.now c.args.top c.look.new.progress c.requires.sound c.in-None.ensures)

pub returns-in-Some : goal.returns-in-Some
returns-in-Some c =
    on_ok_weaker c.meet.result (λ new.
    subst (Advances c.args.fan_in.now (with_top c.args.self.now c.args.top)) (sym new)
    (meets_above c.args.fan_in.now c.args.self.now c.args.top c.look.new.progress c.in-Some.above
    c.requires.names c.requires.sound c.in-Some.ensures)) c.meet.ensures

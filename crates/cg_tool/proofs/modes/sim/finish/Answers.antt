use Rattle.std.proofs.Common.{None, Option, subst, sym}
use Rattle.std.specs.Prelude.{IsSomeAnd}
use Rattle.std.specs.Option.{option_map}
use Rattle.cg_run.specs.Verdict.{Concludes}
use Rattle.cg_source.specs.Design.{design_of}
use Rattle.cg_source.specs.declared.design.AnyNetlist.{AnyNetlist}
use Rattle.cg_source.specs.declared.design.Design.{Design}
use Rattle.cg_source.proofs.DesignRead.{has_design, of_design}
use Rattle.cg_tool.specs.Sim.{MayBePlayed, play_gives}
use Rattle.cg_tool.specs.Watching.{Kind}
use Rattle.cg_tool.proofs.modes.sim.finish.Goals as goal

pub read-design-requires : goal.read-design-requires
read-design-requires g c = has_design c.args.found MayBePlayed c.requires

pub play-result-requires : goal.play-result-requires
play-result-requires g c = of_design (design_of c.args.found) c.read-design.result MayBePlayed c.read-design.ensures c.requires

pub returns : goal.returns
returns g c =
    let kind : Option Kind = option_map (λ w. (goal.Watcher-dyn g (w.vtable, w.value)).says w.value) c.args.watcher in
    let P : Option (Design AnyNetlist) → Type 0 = λ o. Concludes None (λ output. IsSomeAnd o (λ design. play_gives kind design output)) c.play-result.result in
    subst P (sym c.read-design.ensures) c.play-result.ensures

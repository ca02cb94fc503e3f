use Rattle.cg_machine.specs.declared.stage.StageKind.TheVariants.{Stable, Unseen}
use Rattle.cg_plan.proofs.Rounds.{found_fits, found_list}
use Rattle.cg_plan.proofs.plan.Draft.candidates.Goals as goal

pub returns-in-Stable-clause-list : goal.returns-in-Stable-clause-list
returns-in-Stable-clause-list c =
    let d = c.args.self.now in
    found_list c.candidates.result c.args.kind Stable c.args.settings.now d.machine d.earlier c.as_slice-earlier.result.now c.in-Stable.is c.as_slice-earlier.ensures.parts c.candidates.ensures

pub returns-in-Stable-clause-fit : goal.returns-in-Stable-clause-fit
returns-in-Stable-clause-fit c =
    found_fits c.candidates.result Stable c.args.settings.now c.args.self.now.machine c.as_slice-earlier.result.now c.netlist-netlist.ensures.machine c.candidates.ensures

pub returns-in-Unseen-clause-list : goal.returns-in-Unseen-clause-list
returns-in-Unseen-clause-list c =
    let d = c.args.self.now in
    found_list c.candidates-in-Unseen.result c.args.kind Unseen c.args.settings.now d.machine d.earlier c.as_slice-earlier.result.now c.in-Unseen.is c.as_slice-earlier.ensures.parts c.candidates-in-Unseen.ensures

pub returns-in-Unseen-clause-fit : goal.returns-in-Unseen-clause-fit
returns-in-Unseen-clause-fit c =
    found_fits c.candidates-in-Unseen.result Unseen c.args.settings.now c.args.self.now.machine c.as_slice-earlier.result.now c.netlist-netlist.ensures.machine c.candidates-in-Unseen.ensures

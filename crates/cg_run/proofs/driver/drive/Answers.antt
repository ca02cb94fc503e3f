use Rattle.cg_run.specs.Names.{name_of}
use Rattle.cg_run.specs.Verdict.{task_of}
use Rattle.cg_run.proofs.Completes.{completes}
use Rattle.cg_run.proofs.Others.{others}
use Rattle.cg_run.proofs.driver.drive.Goals as goal

pub returns : goal.returns
returns g c =
    let task = task_of g.M.Reader.takes g.M.Mode.stops g.M.Mode.gives c.args.mode c.args.loads.now in
    let names = name_of c.args.names.now in
    let before = g.S.Shelf.world c.args.shelf.now in
    let after = g.S.Shelf.world c.run.new.shelf in
    let runs = c.run.ensures in
    record {
      runs = runs;
      others = others task names before after c.run.result runs;
      comes = completes g.M.Reader.takes g.M.Mode.stops g.M.Mode.gives c.args.mode c.args.loads.now names before after c.run.result runs;
    }

use Rattle.std.proofs.Common.{[], ◌∷◌, subst}
use Rattle.cg_run.specs.declared.role.Role.TheVariants as roles
use Rattle.cg_run.specs.Names.{name_of}
use Rattle.cg_run.specs.Run.{Runs}
use Rattle.cg_run.specs.Verdict.{task_of}
use Rattle.cg_run.proofs.Finished.{Finishes, finish_map, finished_so}
use Rattle.cg_tool.specs.declared.modes.lrat.Lrat.{Lrat}
use Rattle.cg_tool.specs.Lrat.{IsChecked, lrat_gives, lrat_stops, lrat_takes, lrat_task}
use Rattle.cg_tool.proofs.LratMeans.{checked}
use Rattle.cg_tool.proofs.modes.lrat.run.Goals as goal

pub returns : goal.returns
returns g c =
    let names = name_of c.args.names.now in
    let before = g.S.Shelf.world c.args.shelf.now in
    let after = g.S.Shelf.world c.drive.new.shelf in
    let files = roles.Formula ∷ roles.Log ∷ [] in
    let R : Lrat → Type 0 = λ start. Runs (task_of lrat_takes lrat_stops lrat_gives start files) names before after c.drive.result in
    let runs : Runs lrat_task names before after c.drive.result = subst R c.start.ensures c.drive.ensures.runs in
    record {
      runs = runs;
      checked = λ t. finish_map (λ finish. Finishes lrat_task names before after finish) (IsChecked names before after) c.drive.result (checked names before after) (finished_so lrat_task names before after c.drive.result runs t);
    }

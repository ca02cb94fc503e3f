use Rattle.std.proofs.Common.{false, List, Option}
use Rattle.std.specs.Option.{option_map}
use Rattle.cg_run.specs.declared.role.Role.{Role}
use Rattle.cg_run.specs.Names.{name_of}
use Rattle.cg_run.specs.Run.{Runs}
use Rattle.cg_run.proofs.Finished.{Finishes, finish_map, finished_so}
use Rattle.cg_run.proofs.Halves.{runs_of_halves}
use Rattle.cg_run.proofs.Unbegun.{runs_unbegun}
use Rattle.cg_source.specs.Stimulus.{has_file}
use Rattle.cg_source.specs.Design.{design_loads}
use Rattle.cg_tool.specs.Sim.{IsSimulated, sim_gives, sim_start, sim_stops, sim_takes, sim_task}
use Rattle.cg_tool.specs.Watching.{Kind}
use Rattle.cg_tool.proofs.SimMeans.{simulated_means}
use Rattle.cg_tool.proofs.modes.sim.run.Goals as goal

pub returns-in-Ok : goal.returns-in-Ok
returns-in-Ok g c =
    let kind : Option Kind = option_map (λ w. (goal.Watcher-dyn g (w.vtable, w.value)).says w.value) c.args.watcher in
    let names = name_of c.args.names.now in
    let files : List Role = design_loads (has_file c.args.form) false in
    let before = g.S.Shelf.world c.args.shelf.now in
    let middle = g.S.Shelf.world c.read-found.new.shelf in
    let after = g.S.Shelf.world c.put_out.new.shelf in
    let task = sim_task c.args.form c.args.options kind in
    let result = c.put_out.result in
    let runs : Runs task names before after result = runs_of_halves sim_takes sim_stops (sim_gives kind) names (sim_start c.args.form c.args.options) files before middle c.read-found.result after result c.read-found.ensures c.put_out.ensures.puts in
    record {
      runs = runs;
      simulated = λ t. finish_map (λ finish. Finishes task names before after finish) (IsSimulated c.args.form c.args.options kind names before after) result (simulated_means c.args.form c.args.options kind names before after) (finished_so task names before after result runs t);
    }

pub returns-in-Err : goal.returns-in-Err
returns-in-Err g c =
    let kind : Option Kind = option_map (λ w. (goal.Watcher-dyn g (w.vtable, w.value)).says w.value) c.args.watcher in
    let names = name_of c.args.names.now in
    let files : List Role = design_loads (has_file c.args.form) false in
    let before = g.S.Shelf.world c.args.shelf.now in
    let after = g.S.Shelf.world c.no_memory.new.shelf in
    let task = sim_task c.args.form c.args.options kind in
    let result = c.no_memory.result in
    let runs : Runs task names before after result = runs_unbegun sim_takes sim_stops (sim_gives kind) names (sim_start c.args.form c.args.options) files before after result c.no_memory.ensures in
    record {
      runs = runs;
      simulated = λ t. finish_map (λ finish. Finishes task names before after finish) (IsSimulated c.args.form c.args.options kind names before after) result (simulated_means c.args.form c.args.options kind names before after) (finished_so task names before after result runs t);
    }

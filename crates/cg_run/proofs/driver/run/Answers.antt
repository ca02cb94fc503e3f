use Rattle.cg_run.specs.Names.{name_of}
use Rattle.cg_run.proofs.Halves.{runs_of_halves}
use Rattle.cg_run.proofs.Unbegun.{runs_unbegun}
use Rattle.cg_run.proofs.driver.run.Goals as goal

pub returns-in-Ok : goal.returns-in-Ok
returns-in-Ok g c =
    runs_of_halves g.M.Reader.takes g.M.Mode.stops g.M.Mode.gives (name_of c.args.names.now) c.args.mode c.args.loads.now (g.S.Shelf.world c.args.shelf.now) (g.S.Shelf.world c.read-found.new.shelf) c.read-found.result (g.S.Shelf.world c.put_out.new.shelf) c.put_out.result c.read-found.ensures c.put_out.ensures.puts

pub returns-in-Err : goal.returns-in-Err
returns-in-Err g c = runs_unbegun g.M.Reader.takes g.M.Mode.stops g.M.Mode.gives (name_of c.args.names.now) c.args.mode c.args.loads.now (g.S.Shelf.world c.args.shelf.now) (g.S.Shelf.world c.no_memory.new.shelf) c.no_memory.result c.no_memory.ensures

use Rattle.std.proofs.Common.{Ok, Err}
use Rattle.std.proofs.lemmas.Result.{err_from_is_err_and}
use Rattle.cg_run.specs.Names.{name_of}
use Rattle.cg_run.proofs.Halves.{reads_concluded, reads_refused}
use Rattle.cg_run.proofs.driver.read.Goals as goal

pub returns-in_err-found : goal.returns-in_err-found
returns-in_err-found g c =
    let p = err_from_is_err_and c.from_residual.result c.from_residual.ensures.1 in
    rw (p.1, p.2) (reads_refused g.M.Reader.takes g.M.Mode.stops g.M.Mode.gives (name_of c.args.names.now) c.args.mode c.args.loads.now (g.S.Shelf.world c.args.shelf.now) (g.S.Shelf.world c.collect.new.shelf) c.in_err-found.field-0.0 c.in_err-found.ensures)

pub returns-in_err-finish : goal.returns-in_err-finish
returns-in_err-finish g c =
    let p = err_from_is_err_and c.from_residual-in_err-finish.result c.from_residual-in_err-finish.ensures.1 in
    rw (p.1, p.2) (reads_concluded g.M.Reader.takes g.M.Mode.stops g.M.Mode.gives (name_of c.args.names.now) c.args.mode c.args.loads.now (g.S.Shelf.world c.args.shelf.now) (g.S.Shelf.world c.collect.new.shelf) c.in_ok-found.found (Err c.in_err-finish.field-0.0) c.in_ok-found.ensures c.in_err-finish.ensures)

pub returns : goal.returns
returns g c =
    reads_concluded g.M.Reader.takes g.M.Mode.stops g.M.Mode.gives (name_of c.args.names.now) c.args.mode c.args.loads.now (g.S.Shelf.world c.args.shelf.now) (g.S.Shelf.world c.collect.new.shelf) c.in_ok-found.found (Ok c.in_ok-finish.field-0) c.in_ok-found.ensures c.in_ok-finish.ensures

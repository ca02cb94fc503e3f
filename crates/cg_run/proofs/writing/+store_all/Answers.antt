use Rattle.std.proofs.Common.{◌≡◌, ◌∷◌}
use Rattle.std.proofs.lemmas.Result.{err_from_is_err_and}
use Rattle.cg_run.specs.Names.{name_of}
use Rattle.cg_run.proofs.RoleLaws.{empty_list}
use Rattle.cg_run.proofs.WriteHalf.{stores_none, stores_on, stores_refused}
use Rattle.cg_run.proofs.writing.+store_all.Goals as goal

pub returns-in-None : goal.returns-in-None
returns-in-None g t c = rw (empty_list c.args.texts.now c.in-None.ensures.cases) (stores_none (name_of c.args.names.now) (g.S.Shelf.world c.args.shelf.now) tt)

pub returns-in_err-store-in-Some : goal.returns-in_err-store-in-Some
returns-in_err-store-in-Some g t c =
    let p = err_from_is_err_and c.from_residual.result c.from_residual.ensures.1 in
    let is : c.args.texts.now ≡ c.in-Some.text.now ∷ c.in-Some.rest.now = c.in-Some.ensures.cases.0 in
    rw (p.1, p.2, is) (stores_refused (name_of c.args.names.now) c.in-Some.text.now c.in-Some.rest.now (g.S.Shelf.world c.args.shelf.now) (g.S.Shelf.world c.store.new.shelf) _ c.in_err-store-in-Some.ensures)

pub returns-in_ok-store-in-Some : goal.returns-in_ok-store-in-Some
returns-in_ok-store-in-Some g t c =
    let is : c.args.texts.now ≡ c.in-Some.text.now ∷ c.in-Some.rest.now = c.in-Some.ensures.cases.0 in
    rw is (stores_on (name_of c.args.names.now) c.in-Some.text.now c.in-Some.rest.now (g.S.Shelf.world c.args.shelf.now) (g.S.Shelf.world c.store.new.shelf) (g.S.Shelf.world c.store_all.new.shelf) _ c.store_all.result c.in_ok-store-in-Some.ensures c.store_all.ensures)

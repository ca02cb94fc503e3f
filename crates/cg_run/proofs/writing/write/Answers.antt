use Rattle.std.proofs.Common.{List, Ok, Err, subst}
use Rattle.std.proofs.lemmas.Result.{err_from_is_err_and}
use Rattle.cg_run.specs.declared.writing.Text.{Text}
use Rattle.cg_run.specs.Names.{name_of}
use Rattle.cg_run.specs.inner.Steps.{StoresAll}
use Rattle.cg_run.proofs.WriteHalf.{writes_refused, writes_said}
use Rattle.cg_run.proofs.writing.write.Goals as goal

pub returns-in_err-store_all : goal.returns-in_err-store_all
returns-in_err-store_all g c =
    let p = err_from_is_err_and c.from_residual.result c.from_residual.ensures.1 in
    let P : List Text → Type 0 = λ l. StoresAll {T = Unit {0}} (name_of c.args.names.now) l (g.S.Shelf.world c.args.shelf.now) (g.S.Shelf.world c.store_all.new.shelf) (Err c.in_err-store_all.field-0.0) in
    rw (p.1, p.2) (writes_refused (name_of c.args.names.now) c.args.output.now (g.S.Shelf.world c.args.shelf.now) (g.S.Shelf.world c.store_all.new.shelf) _ (subst P c.as_slice.ensures.parts c.in_err-store_all.ensures))

pub returns : goal.returns
returns g c =
    let P : List Text → Type 0 = λ l. StoresAll {T = Unit {0}} (name_of c.args.names.now) l (g.S.Shelf.world c.args.shelf.now) (g.S.Shelf.world c.store_all.new.shelf) (Ok c.in_ok-store_all.field-0) in
    writes_said (name_of c.args.names.now) c.args.output.now (g.S.Shelf.world c.args.shelf.now) (g.S.Shelf.world c.store_all.new.shelf) (g.S.Shelf.world c.say.new.shelf) c.in_ok-store_all.field-0 c.say.result (subst P c.as_slice.ensures.parts c.in_ok-store_all.ensures) c.say.ensures

use Rattle.std.proofs.Common.{◌≡◌, List, ◌∷◌, refl, IsTrue, subst}
use Rattle.std.proofs.lemmas.Result.{err_from_is_err_and}
use Rattle.cg_run.specs.declared.role.Role.{Role}
use Rattle.cg_run.specs.Names.{name_of}
use Rattle.cg_run.specs.Roles.{are_distinct}
use Rattle.cg_run.specs.Verdict.{unstopped}
use Rattle.cg_run.proofs.RoleLaws.{empty_list}
use Rattle.cg_run.proofs.ReadHalf.{reads_end, reads_unloaded, reads_untaken, reads_on}
use Rattle.cg_run.proofs.reading.+collect.Goals as goal

pub returns-in_err-bytes-in-Some : goal.returns-in_err-bytes-in-Some
returns-in_err-bytes-in-Some g t c =
    let p = err_from_is_err_and c.from_residual.result c.from_residual.ensures.1 in
    let is : c.args.loads.now ≡ c.in-Some.role.now ∷ c.in-Some.rest.now = c.in-Some.ensures.cases.0 in
    let D : List Role → Type 0 = λ l. IsTrue (are_distinct l) in
    rw (p.1, p.2, is) (reads_unloaded g.M.Reader.takes unstopped (λ found end. found ≡ end) (name_of c.args.names.now) c.args.reader c.in-Some.role.now c.in-Some.rest.now (g.S.Shelf.world c.args.shelf.now) (g.S.Shelf.world c.load.new.shelf) _ (subst D is c.requires.distinct) c.in_err-bytes-in-Some.ensures)

pub returns-in_err-next-in-Some : goal.returns-in_err-next-in-Some
returns-in_err-next-in-Some g t c =
    let p = err_from_is_err_and c.from_residual-in_err-next-in-Some.result c.from_residual-in_err-next-in-Some.ensures.1 in
    let is : c.args.loads.now ≡ c.in-Some.role.now ∷ c.in-Some.rest.now = c.in-Some.ensures.cases.0 in
    let D : List Role → Type 0 = λ l. IsTrue (are_distinct l) in
    rw (p.1, p.2, is) (reads_untaken g.M.Reader.takes unstopped (λ found end. found ≡ end) (name_of c.args.names.now) c.args.reader c.in-Some.role.now c.in-Some.rest.now (g.S.Shelf.world c.args.shelf.now) (g.S.Shelf.world c.load.new.shelf) c.in_ok-bytes-in-Some.bytes c.in_err-next-in-Some.field-0.0 (subst D is c.requires.distinct) c.in_ok-bytes-in-Some.ensures c.in_err-next-in-Some.ensures)

pub returns-in-None : goal.returns-in-None
returns-in-None g t c = rw (empty_list c.args.loads.now c.in-None.ensures.cases) (reads_end g.M.Reader.takes unstopped (λ found end. found ≡ end) (name_of c.args.names.now) c.args.reader (g.S.Shelf.world c.args.shelf.now) c.args.reader refl)

pub returns-in_ok-next-in-Some : goal.returns-in_ok-next-in-Some
returns-in_ok-next-in-Some g t c =
    let is : c.args.loads.now ≡ c.in-Some.role.now ∷ c.in-Some.rest.now = c.in-Some.ensures.cases.0 in
    let D : List Role → Type 0 = λ l. IsTrue (are_distinct l) in
    rw is (reads_on g.M.Reader.takes unstopped (λ found end. found ≡ end) (name_of c.args.names.now) c.args.reader c.in_ok-next-in-Some.next c.in-Some.role.now c.in-Some.rest.now (g.S.Shelf.world c.args.shelf.now) (g.S.Shelf.world c.load.new.shelf) (g.S.Shelf.world c.collect.new.shelf) c.in_ok-bytes-in-Some.bytes c.collect.result (subst D is c.requires.distinct) c.in_ok-bytes-in-Some.ensures c.in_ok-next-in-Some.ensures c.collect.ensures)

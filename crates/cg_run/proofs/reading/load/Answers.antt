use Rattle.std.proofs.Common.{Ok, Err, subst}
use Rattle.std.specs.Prelude.{Some}
use Rattle.cg_shelf.specs.declared.faults.LoadFault.{LoadFault}
use Rattle.cg_run.specs.Names.{name_of}
use Rattle.cg_run.specs.inner.Steps.{Loads}
use Rattle.cg_run.specs.Verdict.{brought}
use Rattle.cg_run.proofs.ReadHalf.{loads_err, loads_so}
use Rattle.cg_run.proofs.reading.load.Goals as goal

pub returns-in-Ok : goal.returns-in-Ok
returns-in-Ok g c = let e = c.in-Ok.ensures in rw c.from_vec.ensures (loads_so (name_of c.args.names.now) c.args.role c.name_of.result.now (g.S.Shelf.world c.args.shelf.now) (g.S.Shelf.world c.load.new.self) (Ok c.load.new.into.items) c.name_of.ensures (λ t. (e.answer t, e.within)) e.listed e.same_held e.same_said e.same_complained e.same_tells e.failed)

pub returns-in-Err-Failed : goal.returns-in-Err-Failed
returns-in-Err-Failed g c = let e = c.in-Err-Failed.ensures in let P : LoadFault → Type 0 = λ f. Loads (name_of c.args.names.now) c.args.role (g.S.Shelf.world c.args.shelf.now) (g.S.Shelf.world c.load.new.self) (brought c.args.role (Some (Err f))) in subst P c.in-Err-Failed.field-0-is (loads_err (Unit {0}) (name_of c.args.names.now) c.args.role c.name_of.result.now (g.S.Shelf.world c.args.shelf.now) (g.S.Shelf.world c.load.new.self) c.in-Err-Failed.field-0 c.name_of.ensures e.answer e.listed e.same_held e.same_said e.same_complained e.same_tells e.failed)

pub returns-in-Err-TooLong : goal.returns-in-Err-TooLong
returns-in-Err-TooLong g c = let e = c.in-Err-TooLong.ensures in let P : LoadFault → Type 0 = λ f. Loads (name_of c.args.names.now) c.args.role (g.S.Shelf.world c.args.shelf.now) (g.S.Shelf.world c.load.new.self) (brought c.args.role (Some (Err f))) in subst P c.in-Err-TooLong.field-0-is (loads_err (Unit {0}) (name_of c.args.names.now) c.args.role c.name_of.result.now (g.S.Shelf.world c.args.shelf.now) (g.S.Shelf.world c.load.new.self) c.in-Err-TooLong.field-0 c.name_of.ensures e.answer e.listed e.same_held e.same_said e.same_complained e.same_tells e.failed)

pub returns : goal.returns
returns g c = let e = c.in-Err-NoMemory.ensures in let P : LoadFault → Type 0 = λ f. Loads (name_of c.args.names.now) c.args.role (g.S.Shelf.world c.args.shelf.now) (g.S.Shelf.world c.load.new.self) (brought c.args.role (Some (Err f))) in subst P c.in-Err-NoMemory.field-0-is (loads_err (Unit {0}) (name_of c.args.names.now) c.args.role c.name_of.result.now (g.S.Shelf.world c.args.shelf.now) (g.S.Shelf.world c.load.new.self) c.in-Err-NoMemory.field-0 c.name_of.ensures e.answer e.listed e.same_held e.same_said e.same_complained e.same_tells e.failed)

use Rattle.std.proofs.Common.{Ok, Err, subst}
use Rattle.cg_shelf.specs.declared.faults.StoreFault.{StoreFault}
use Rattle.cg_run.specs.Names.{name_of}
use Rattle.cg_run.specs.inner.Steps.{SaysAll}
use Rattle.cg_run.proofs.WriteHalf.{as_say, says_one}
use Rattle.cg_run.proofs.writing.say.Goals as goal

pub returns-in-Ok : goal.returns-in-Ok
returns-in-Ok g c = let e = c.in-Ok.ensures in (says_one (name_of c.args.names.now) c.args.bytes.now c.as_slice.result.now (g.S.Shelf.world c.args.shelf.now) (g.S.Shelf.world c.say.new.self) (Ok tt) c.as_slice.ensures.parts e.said e.same_held e.same_complained e.same_tells e.listed e.failed)

pub returns-in-Err-Failed : goal.returns-in-Err-Failed
returns-in-Err-Failed g c = let e = c.in-Err-Failed.ensures in let P : StoreFault → Type 0 = λ f. SaysAll {T = Unit {0}} (name_of c.args.names.now) c.args.bytes.now (g.S.Shelf.world c.args.shelf.now) (g.S.Shelf.world c.say.new.self) (as_say (Err f)) in subst P c.in-Err-Failed.field-0-is (says_one (name_of c.args.names.now) c.args.bytes.now c.as_slice.result.now (g.S.Shelf.world c.args.shelf.now) (g.S.Shelf.world c.say.new.self) (Err c.in-Err-Failed.field-0) c.as_slice.ensures.parts e.said e.same_held e.same_complained e.same_tells e.listed e.failed)

pub returns-in-Err-NoMemory : goal.returns-in-Err-NoMemory
returns-in-Err-NoMemory g c = let e = c.in-Err-NoMemory.ensures in let P : StoreFault → Type 0 = λ f. SaysAll {T = Unit {0}} (name_of c.args.names.now) c.args.bytes.now (g.S.Shelf.world c.args.shelf.now) (g.S.Shelf.world c.say.new.self) (as_say (Err f)) in subst P c.in-Err-NoMemory.field-0-is (says_one (name_of c.args.names.now) c.args.bytes.now c.as_slice.result.now (g.S.Shelf.world c.args.shelf.now) (g.S.Shelf.world c.say.new.self) (Err c.in-Err-NoMemory.field-0) c.as_slice.ensures.parts e.said e.same_held e.same_complained e.same_tells e.listed e.failed)

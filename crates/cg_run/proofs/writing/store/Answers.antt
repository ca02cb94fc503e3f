use Rattle.std.proofs.Common.{Ok, Err, subst}
use Rattle.cg_shelf.specs.declared.faults.StoreFault.{StoreFault}
use Rattle.cg_run.specs.Names.{name_of}
use Rattle.cg_run.specs.inner.Steps.{StoresOne}
use Rattle.cg_run.proofs.WriteHalf.{as_store, stores_one}
use Rattle.cg_run.proofs.writing.store.Goals as goal

pub returns-in-Ok : goal.returns-in-Ok
returns-in-Ok g c = let e = c.in-Ok.ensures in (stores_one (name_of c.args.names.now) c.args.text.now c.name_of.result.now c.as_slice.result.now (g.S.Shelf.world c.args.shelf.now) (g.S.Shelf.world c.store.new.self) (Ok tt) c.name_of.ensures c.as_slice.ensures.parts (record { stored = e.stored; others = e.others; said = e.same_said; complained = e.same_complained; tells = e.same_tells; listed = e.listed; failed = e.failed }))

pub returns-in-Err-Failed : goal.returns-in-Err-Failed
returns-in-Err-Failed g c = let e = c.in-Err-Failed.ensures in let P : StoreFault → Type 0 = λ f. StoresOne {T = Unit {0}} (name_of c.args.names.now) c.args.text.now (g.S.Shelf.world c.args.shelf.now) (g.S.Shelf.world c.store.new.self) (as_store c.args.text.now.role (Err f)) in subst P c.in-Err-Failed.field-0-is (stores_one (name_of c.args.names.now) c.args.text.now c.name_of.result.now c.as_slice.result.now (g.S.Shelf.world c.args.shelf.now) (g.S.Shelf.world c.store.new.self) (Err c.in-Err-Failed.field-0) c.name_of.ensures c.as_slice.ensures.parts (record { stored = e.stored; others = e.others; said = e.same_said; complained = e.same_complained; tells = e.same_tells; listed = e.listed; failed = e.failed }))

pub returns-in-Err-NoMemory : goal.returns-in-Err-NoMemory
returns-in-Err-NoMemory g c = let e = c.in-Err-NoMemory.ensures in let P : StoreFault → Type 0 = λ f. StoresOne {T = Unit {0}} (name_of c.args.names.now) c.args.text.now (g.S.Shelf.world c.args.shelf.now) (g.S.Shelf.world c.store.new.self) (as_store c.args.text.now.role (Err f)) in subst P c.in-Err-NoMemory.field-0-is (stores_one (name_of c.args.names.now) c.args.text.now c.name_of.result.now c.as_slice.result.now (g.S.Shelf.world c.args.shelf.now) (g.S.Shelf.world c.store.new.self) (Err c.in-Err-NoMemory.field-0) c.name_of.ensures c.as_slice.ensures.parts (record { stored = e.stored; others = e.others; said = e.same_said; complained = e.same_complained; tells = e.same_tells; listed = e.listed; failed = e.failed }))

use Rattle.std.proofs.Common.{◌∙◌, ap, sym}
use Rattle.cg_vcd.specs.inner.IdPlaces.{lookup}
use Rattle.cg_vcd.proofs.IdNumbers.{found_or_not}
use Rattle.cg_vcd.proofs.ids.IdTable.find.Goals as goal

pub returns : goal.returns
returns c =
    rw (sym c.self.view_is) (found_or_not c.self.inside.ids.items c.self.inside.short.items c.self.inside.long c.self.invariant c.args.id.now c.lookup.result
    (c.lookup.ensures ∙ ap (λ short. lookup short c.self.inside.long c.args.id.now) c.deref.ensures.value))

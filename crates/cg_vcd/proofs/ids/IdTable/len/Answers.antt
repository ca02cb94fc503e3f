use Rattle.std.proofs.Common.{sym}
use Rattle.cg_vcd.proofs.IdNumbers.{ids_differ}
use Rattle.cg_vcd.proofs.ids.IdTable.len.Goals as goal

pub returns-clause-different : goal.returns-clause-different
returns-clause-different c = rw (sym c.self.view_is) (ids_differ c.self.inside.ids.items c.self.inside.short.items c.self.inside.long c.self.invariant)

use Rattle.std.proofs.Common.{take}
use Rattle.cg_register_text.specs.inner.Seeing.{AreNoted}
use Rattle.cg_register_text.proofs.seen.note_all.Given as goal

abbrev pub invariant-regs : goal.invariant-regs
invariant-regs l = AreNoted (take l.reg-index l.regs) l.number l.inserted l.fn.seen l.seen

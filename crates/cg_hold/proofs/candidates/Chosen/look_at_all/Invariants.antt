use Rattle.std.specs.Option.{option_copied}
use Rattle.cg_hold.specs.inner.Choosing.{AreChosen}
use Rattle.cg_hold.proofs.candidates.Chosen.look_at_all.Given as goal

abbrev pub invariant-loop-reg : goal.invariant-loop-reg
invariant-loop-reg g l = AreChosen l.search.machine.now (option_copied l.search.counts) l.search.width l.reg l.self.lists.items l.self.wide

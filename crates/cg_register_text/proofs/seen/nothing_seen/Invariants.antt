use Rattle.std.proofs.Common.{◌≡◌, replicate}
use Rattle.cg_register_text.specs.inner.Seeing.{unseen}
use Rattle.cg_register_text.proofs.seen.nothing_seen.Given as goal

abbrev pub invariant-loop : goal.invariant-loop
invariant-loop l = l.seen.items ≡ replicate l.counter unseen

use Rattle.std.proofs.Common.{◌≡◌, drop}
use Rattle.cg_claim_reach.specs.inner.Spreading.{led_by_all}
use Rattle.cg_claim_reach.proofs.spread.lead_on.Given as goal

abbrev pub invariant-loop-reader : goal.invariant-loop-reader
invariant-loop-reader l = led_by_all l.machine l.found (drop l.reader-index l.readers) ≡ led_by_all l.machine l.initial.found l.readers

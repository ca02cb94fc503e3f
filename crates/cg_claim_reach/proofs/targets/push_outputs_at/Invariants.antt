use Rattle.std.proofs.Common.{◌≡◌, ◌++◌, take}
use Rattle.std.specs.List.{filter}
use Rattle.cg_net.specs.NetSets.{is_in}
use Rattle.cg_claim_reach.specs.inner.Spreading.{is_output_marked}
use Rattle.cg_claim_reach.proofs.targets.push_outputs_at.Given as goal

abbrev pub invariant-loop-reader : goal.invariant-loop-reader
invariant-loop-reader l = l.numbers.items ≡ l.initial.numbers.items ++ filter (is_output_marked l.machine (is_in l.found)) (take l.reader-index l.readers)

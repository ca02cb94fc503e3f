use Rattle.std.proofs.Common.{◌≡◌, drop}
use Rattle.cg_lrat.specs.inner.LiveTable.{live_in}
use Rattle.cg_lrat.proofs.HintChain.{chain_fault}
use Rattle.cg_lrat.proofs.hint.hints_fault.Given as goal

abbrev pub invariant-loop-hint : goal.invariant-loop-hint
invariant-loop-hint l =
    chain_fault (live_in l.live) l.assignment (drop l.hint-index l.others) l.last ≡ chain_fault (live_in l.live) l.fn.assignment l.others l.last

use Rattle.std.proofs.Common.{◌≡◌, ◌++◌, take}
use Rattle.cg_hint_laws.specs.Hints.{condition_nets}
use Rattle.cg_unroll_cycles.proofs.asked.push_condition.Given as goal

abbrev pub invariant-loop-term : goal.invariant-loop-term
invariant-loop-term l = l.nets.items ≡ l.initial.nets.items ++ condition_nets (take l.term-index l.terms)

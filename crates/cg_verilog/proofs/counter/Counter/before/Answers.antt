use Rattle.std.proofs.Common.{◌+◌, ◌<◌, ◌∙◌, List, ap, subst, sym, true, ℕ}
use Rattle.cg_verilog.specs.Counters.{AreDigits, value_of}
use Rattle.cg_verilog.specs.inner.Digits.{lowered}
use Rattle.cg_verilog.proofs.CounterLemmas.{lowered_digits, lowered_value}
use Rattle.cg_verilog.proofs.counter.Counter.before.Goals as goal

pub invariant_of-result : goal.invariant_of-result
invariant_of-result c = subst (λ (l : List ℕ). AreDigits l) (sym (c.in_ok-digits.ensures ∙ ap (lowered true true) c.deref.ensures.value)) (lowered_digits c.self.inside.digits.items c.self.invariant)

pub returns : goal.returns
returns c = ap (λ (l : List ℕ). value_of l + 1) (c.in_ok-digits.ensures ∙ ap (lowered true true) c.deref.ensures.value) ∙ (lowered_value true c.self.inside.digits.items (subst (λ n. 0 < n) (sym c.self.view_is) c.requires) ∙ c.self.view_is)

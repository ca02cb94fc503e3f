use Rattle.std.proofs.Common.{◌+◌, ◌∙◌, List, ap, subst, sym, true, ℕ}
use Rattle.cg_verilog.specs.Counters.{AreDigits, value_of}
use Rattle.cg_verilog.specs.inner.Digits.{raised}
use Rattle.cg_verilog.proofs.CounterLemmas.{raised_digits, raised_value}
use Rattle.cg_verilog.proofs.counter.Counter.next.Goals as goal

pub invariant_of-result : goal.invariant_of-result
invariant_of-result c = subst (λ (l : List ℕ). AreDigits l) (sym (c.in_ok-digits.ensures ∙ ap (raised true) c.deref.ensures.value)) (raised_digits c.self.inside.digits.items c.self.invariant)

pub returns : goal.returns
returns c = ap value_of (c.in_ok-digits.ensures ∙ ap (raised true) c.deref.ensures.value) ∙ (raised_value c.self.inside.digits.items ∙ ap (λ n. n + 1) c.self.view_is)

use Rattle.std.proofs.Common.{◌∙◌, List, ap, subst, sym, ℕ}
use Rattle.cg_verilog.specs.Counters.{AreDigits, value_of}
use Rattle.cg_verilog.specs.inner.Digits.{lowest_first}
use Rattle.cg_verilog.proofs.CounterLemmas.{read_digits, read_value}
use Rattle.cg_verilog.proofs.counter.Counter.new.Goals as goal

pub invariant_of-result : goal.invariant_of-result
invariant_of-result c = subst (λ (l : List ℕ). AreDigits l) (sym (c.in_ok-digits.ensures ∙ ap lowest_first c.digits.ensures.digits)) (read_digits c.args.numeral.now c.digits.ensures.number)

pub returns : goal.returns
returns c = ap value_of (c.in_ok-digits.ensures ∙ ap lowest_first c.digits.ensures.digits) ∙ read_value c.args.numeral.now

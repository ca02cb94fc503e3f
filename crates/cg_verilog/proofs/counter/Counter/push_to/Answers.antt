use Rattle.std.proofs.Common.{◌≡◌, ◌++◌, ◌∙◌, List, ap, subst, sym, ℕ}
use Rattle.std.specs.Prelude.{OnOk}
use Rattle.cg_verilog_text.specs.Meaning.{index_text}
use Rattle.cg_verilog.specs.inner.Digits.{written}
use Rattle.cg_verilog.proofs.CounterLemmas.{written_text}
use Rattle.cg_verilog.proofs.counter.Counter.push_to.Goals as goal

pub returns : goal.returns
returns c =
    let text : written c.deref.result.now ≡ index_text c.args.self.now =
    ap written c.deref.ensures.value ∙ (sym (written_text c.self.inside.digits.items c.self.invariant) ∙ ap index_text c.self.view_is) in
    subst (λ (t : List ℕ). OnOk c.push_digits.result (c.push_digits.new.text.items ≡ c.args.text.now.items ++ t)) text c.push_digits.ensures

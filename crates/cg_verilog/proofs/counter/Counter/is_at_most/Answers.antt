use Rattle.std.proofs.Common.{◌∙◌, List, ap, nat_le, ℕ}
use Rattle.cg_verilog.specs.Counters.{value_of}
use Rattle.cg_verilog.proofs.counter.Counter.is_at_most.Goals as goal

pub returns : goal.returns
returns c =
    c.are_at_most.ensures
    ∙ (ap (λ (l : List ℕ). nat_le (value_of l) (value_of c.deref-2.result.now)) c.deref.ensures.value
    ∙ (ap (λ (l : List ℕ). nat_le (value_of c.self.inside.digits.items) (value_of l)) c.deref-2.ensures.value
    ∙ (ap (λ n. nat_le n (value_of c.other.inside.digits.items)) c.self.view_is ∙ ap (λ n. nat_le c.args.self.now n) c.other.view_is)))

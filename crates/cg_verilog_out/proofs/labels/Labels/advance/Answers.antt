use Rattle.std.proofs.Common.{◌≡◌, ◌∙◌, ap, sym, drop, false, List, ℕ, subst, slice_get, Some}
use Rattle.cg_net.specs.Names.{is_known}
use Rattle.cg_verilog_out.specs.inner.Numbering.{Numbers, left}
use Rattle.cg_verilog_out.proofs.LabelsLeft.{free_rest, taken_rest}
use Rattle.cg_verilog_out.proofs.labels.Labels.advance.Goals as goal

pub returns-in-None-clause-rest : goal.returns-in-None-clause-rest
returns-in-None-clause-rest c =
    let before : Numbers = record { names = c.self.inside.netlist.now.names; next = c.self.inside.next; end = c.self.inside.end; text = c.self.inside.text.items } in
    let new : Numbers = c.write.new.self in
    let names_are = ap (λ (n : Numbers). n.names) c.self-in-numbers.view_is in
    let text_is = ap (λ (n : Numbers). n.text) c.self-in-numbers.view_is in
    let text_now : c.deref.result.now ≡ new.text = c.deref.ensures.value ∙ text_is in
    let names_now : c.self-in-numbers.inside.netlist.now.names ≡ before.names = names_are ∙ c.in_ok-write.ensures.names in
    let free : is_known before.names new.text ≡ false = ap (λ n. is_known n new.text) (sym names_now) ∙ (ap (is_known c.self-in-numbers.inside.netlist.now.names) (sym text_now) ∙ c.in-None.ensures) in
    free_rest before new c.numbers-test.true c.in_ok-write.ensures.names c.in_ok-write.ensures.next c.in_ok-write.ensures.end c.in_ok-write.ensures.text free
    ∙ (ap (λ n. drop 1 (left n)) c.self.view_is ∙ ap (drop 1) c.numbers.invariant)

pub numbers-preserved : goal.numbers-preserved
numbers-preserved c =
    let before : Numbers = record { names = c.self.inside.netlist.now.names; next = c.self.inside.next; end = c.self.inside.end; text = c.self.inside.text.items } in
    let new : Numbers = c.write.new.self in
    let names_are = ap (λ (n : Numbers). n.names) c.self-in-numbers.view_is in
    let text_is = ap (λ (n : Numbers). n.text) c.self-in-numbers.view_is in
    let text_now : c.deref.result.now ≡ new.text = c.deref.ensures.value ∙ text_is in
    let names_now : c.self-in-numbers.inside.netlist.now.names ≡ before.names = names_are ∙ c.in_ok-write.ensures.names in
    let at = subst (λ (t : List ℕ). slice_get before.names c.in-Some.field-0 ≡ Some t) text_now (subst (λ (n : List (List ℕ)). slice_get n c.in-Some.field-0 ≡ Some c.deref.result.now) names_now c.in-Some.ensures) in
    taken_rest before new c.numbers-test.true c.in_ok-write.ensures.names c.in_ok-write.ensures.next c.in_ok-write.ensures.end c.in_ok-write.ensures.text c.in-Some.field-0 at
    ∙ (ap left c.self.view_is ∙ c.numbers.invariant)

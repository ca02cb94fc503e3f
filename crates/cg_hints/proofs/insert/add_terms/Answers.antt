use Rattle.std.proofs.Common.{Result, Err, rules, ◌≡◌, ℕ, ◌∷◌, [], ◌++◌, List, Some, ◌+◌, drop, slice_get, length, refl, sym, ◌∙◌, ap, subst, arith, length-append}
use Rattle.std.specs.List.{AllByRecursion}
use Rattle.std.proofs.lemmas.Option.{slice_get_read}
use Rattle.cg_machine.specs.Claims.{Literal}
use Rattle.cg_machine.specs.Machine.{IsNet}
use Rattle.cg_hint_laws.specs.Effects.{AddedNets, for_each, term_answer}
use Rattle.cg_netlist.specs.declared.fault.AddFault.{AddFault}
use Rattle.cg_hint_laws.specs.Answers.{MayFail}
use Rattle.cg_hints.specs.inner.Adding.{AddsNets}
use Rattle.cg_stage_laws.proofs.Appended.{keeps_self, keeps_then}
use Rattle.cg_hints.proofs.Adding.{all_kept, all_push, behind_nets, behind_no_nets, each_fault, each_on}
use Rattle.cg_hints.proofs.insert.add_terms.Goals as goal

pub returns-in_err-net-clause-added : goal.returns-in_err-net-clause-added
returns-in_err-net-clause-added c =
    let i = c.loop-k.k in
    let n = c.loop-k.machine in
    let term = c.index-terms-k.result in
    let at : slice_get c.args.terms.now i ≡ Some term = slice_get_read c.args.terms.now _ i term refl c.loop-k-test.true c.index-terms-k.is in
    let fault = c.in_err-net.field-0.0 in
    let same : c.from_residual.result ≡ Err fault = search rules in
    let wanted : Result AddedNets AddFault = for_each term_answer c.args.machine.now c.args.terms.now in
    subst (λ (r : Result (List ℕ) AddFault). AddsNets c.add_term.new.machine wanted r) (sym same)
    (each_fault term_answer c.loop-k.nets n c.args.terms.now i term wanted fault at c.loop-k.invariant.left
    (subst (λ (l : List Literal). MayFail (term_answer n l) fault) c.as_slice.ensures.parts c.in_err-net.ensures.added))

pub returns-in_err-net-clause-keeps : goal.returns-in_err-net-clause-keeps
returns-in_err-net-clause-keeps c = keeps_then c.args.machine.now c.loop-k.machine c.add_term.new.machine c.loop-k.invariant.keeps c.in_err-net.ensures.keeps

pub returns-in_err-push-clause-keeps : goal.returns-in_err-push-clause-keeps
returns-in_err-push-clause-keeps c = keeps_then c.args.machine.now c.loop-k.machine c.add_term.new.machine c.loop-k.invariant.keeps c.in_ok-net.ensures.keeps

pub loop-k-init : goal.loop-k-init
loop-k-init c =
    let m = c.args.machine.now in
    let none = c.new-nets.ensures in
    record {
      left = behind_no_nets c.new-nets.result (for_each term_answer m c.args.terms.now) none;
      keeps = keeps_self m m c.netlist-netlist.ensures.machine refl;
      long = ap length none;
      are_nets = subst (AllByRecursion (IsNet m)) (sym none) tt;
    }

pub loop-k-preserved : goal.loop-k-preserved
loop-k-preserved c =
    let i = c.loop-k.k in
    let n = c.loop-k.machine in
    let term = c.index-terms-k.result in
    let at : slice_get c.args.terms.now i ≡ Some term = slice_get_read c.args.terms.now _ i term refl c.loop-k-test.true c.index-terms-k.is in
    let o = c.add_term.new.machine in
    let before : List ℕ = c.loop-k.nets in
    let net = c.in_ok-net.net in
    let pushed : c.push.new.self ≡ before ++ net ∷ [] = c.in_ok-push.ensures.parts in
    record {
      left = subst (λ (nets : List ℕ). behind_nets nets (for_each term_answer o (drop (i + 1) c.args.terms.now)) ≡ for_each term_answer c.args.machine.now c.args.terms.now) (sym pushed) (sym (each_on term_answer before n o c.args.terms.now i term net at (ap (term_answer n) (sym c.as_slice.ensures.parts) ∙ c.in_ok-net.ensures.added.0)) ∙ c.loop-k.invariant.left);
      keeps = keeps_then c.args.machine.now n o c.loop-k.invariant.keeps c.in_ok-net.ensures.keeps;
      long = let one = length-append before (net ∷ []) in let was = c.loop-k.invariant.long in subst (λ (nets : List ℕ). length nets ≡ i + 1) (sym pushed) (omega (arith, one, was));
      are_nets = subst (AllByRecursion (IsNet o)) (sym pushed) (all_push o before net (all_kept n o c.in_ok-net.ensures.keeps.extends before c.loop-k.invariant.are_nets) c.in_ok-net.ensures.added.1);
    }

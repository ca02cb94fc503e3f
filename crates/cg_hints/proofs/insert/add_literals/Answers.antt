use Rattle.std.proofs.Common.{◌≡◌, ℕ, ◌∷◌, [], ◌++◌, List, Some, ◌+◌, drop, slice_get, length, refl, sym, ◌∙◌, ap, subst, arith, length-append}
use Rattle.std.specs.List.{AllByRecursion}
use Rattle.std.proofs.lemmas.Option.{slice_get_read}
use Rattle.cg_machine.specs.Machine.{IsNet}
use Rattle.cg_hint_laws.specs.Effects.{for_each, literal_answer}
use Rattle.cg_stage_laws.proofs.Appended.{keeps_self, keeps_then}
use Rattle.cg_hints.proofs.Adding.{all_kept, all_push, behind_nets, behind_no_nets, each_on}
use Rattle.cg_hints.proofs.insert.add_literals.Goals as goal

pub returns-in_err-net-clause-keeps : goal.returns-in_err-net-clause-keeps
returns-in_err-net-clause-keeps c = keeps_then c.args.machine.now c.loop-literal.machine c.add_literal.new.machine c.loop-literal.invariant.keeps c.in_err-net.ensures.keeps

pub returns-in_err-push-clause-keeps : goal.returns-in_err-push-clause-keeps
returns-in_err-push-clause-keeps c = keeps_then c.args.machine.now c.loop-literal.machine c.add_literal.new.machine c.loop-literal.invariant.keeps c.in_ok-net.ensures.keeps

pub loop-literal-init : goal.loop-literal-init
loop-literal-init c =
    let m = c.args.machine.now in
    let none = c.new-nets.ensures in
    record {
      left = behind_no_nets c.new-nets.result (for_each literal_answer m c.args.term.now) none;
      keeps = keeps_self m m c.netlist-netlist.ensures.machine refl;
      long = ap length none;
      are_nets = subst (AllByRecursion (IsNet m)) (sym none) tt;
    }

pub loop-literal-preserved : goal.loop-literal-preserved
loop-literal-preserved c =
    let i = c.loop-literal.literal-index in
    let l = c.literal-item.result in
    let n = c.loop-literal.machine in
    let o = c.add_literal.new.machine in
    let before : List ℕ = c.loop-literal.nets in
    let net = c.in_ok-net.net in
    let at : slice_get c.args.term.now i ≡ Some l = slice_get_read c.args.term.now _ i l refl c.loop-literal-test.true c.literal-item.is in
    let pushed : c.push.new.self ≡ before ++ net ∷ [] = c.in_ok-push.ensures.parts in
    record {
      left = subst (λ (nets : List ℕ). behind_nets nets (for_each literal_answer o (drop (i + 1) c.args.term.now)) ≡ for_each literal_answer c.args.machine.now c.args.term.now) (sym pushed) (sym (each_on literal_answer before n o c.args.term.now i l net at c.in_ok-net.ensures.added.0) ∙ c.loop-literal.invariant.left);
      keeps = keeps_then c.args.machine.now n o c.loop-literal.invariant.keeps c.in_ok-net.ensures.keeps;
      long = let one = length-append before (net ∷ []) in let was = c.loop-literal.invariant.long in subst (λ (nets : List ℕ). length nets ≡ i + 1) (sym pushed) (omega (arith, one, was));
      are_nets = subst (AllByRecursion (IsNet o)) (sym pushed) (all_push o before net (all_kept n o c.in_ok-net.ensures.keeps.extends before c.loop-literal.invariant.are_nets) c.in_ok-net.ensures.added.1);
    }

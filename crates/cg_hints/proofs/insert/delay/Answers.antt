use Rattle.std.proofs.Common.{◌≡◌, ℕ, suc, ◌+◌, ◌-◌, Result, Err, rules, refl, sym, ◌∙◌, ap, subst, arith}
use Rattle.cg_machine.specs.Added.{Added, delay_answer}
use Rattle.cg_netlist.specs.declared.fault.AddFault.{AddFault}
use Rattle.cg_hint_laws.specs.Effects.{delayed_by}
use Rattle.cg_hints.specs.inner.Adding.{AddsAs}
use Rattle.cg_stage_laws.proofs.Appended.{keeps_self, keeps_then}
use Rattle.cg_hints.proofs.Adding.{delay_on, passes_same, passes_then, with_net}
use Rattle.cg_hints.proofs.insert.delay.Goals as goal

pub returns-in_err-last-clause-added : goal.returns-in_err-last-clause-added
returns-in_err-last-clause-added c =
    let k = c.args.cycles in
    let i = c.loop.counter in
    let a : Added = with_net c.loop.machine c.loop.last in
    let fault = c.in_err-last.field-0.0 in
    let same : c.from_residual.result ≡ Err fault = search rules in
    let below = c.loop-test.true in
    let e : k - i ≡ suc (k - (i + 1)) = omega (arith, below) in
    subst (λ (r : Result ℕ AddFault). AddsAs c.add_delay.new.machine (delayed_by k (with_net c.args.machine.now c.args.net)) r) (sym same)
    (passes_same (delayed_by (suc (k - (i + 1))) a) (delayed_by k (with_net c.args.machine.now c.args.net)) fault (ap (λ j. delayed_by j a) (sym e) ∙ c.loop.invariant.left)
    (passes_then (delay_answer a.machine a.net) (delayed_by (k - (i + 1))) fault c.in_err-last.ensures.added))

pub returns-in_err-last-clause-keeps : goal.returns-in_err-last-clause-keeps
returns-in_err-last-clause-keeps c = keeps_then c.args.machine.now c.loop.machine c.add_delay.new.machine c.loop.invariant.keeps c.in_err-last.ensures.keeps

pub loop-init : goal.loop-init
loop-init c =
    let m = c.args.machine.now in
    let k = c.args.cycles in
    let e : k - 0 ≡ k = omega arith in
    record {
      left = ap (λ j. delayed_by j (with_net m c.args.net)) e;
      keeps = keeps_self m m c.netlist-netlist.ensures.machine refl;
      is_net = c.requires.net;
    }

pub loop-preserved : goal.loop-preserved
loop-preserved c =
    let n = c.add_delay.new.machine in
    let a : Added = with_net c.loop.machine c.loop.last in
    record {
      left = sym (delay_on c.args.cycles c.loop.counter a n c.in_ok-last.last c.loop-test.true c.in_ok-last.ensures.added.0) ∙ c.loop.invariant.left;
      keeps = keeps_then c.args.machine.now c.loop.machine n c.loop.invariant.keeps c.in_ok-last.ensures.keeps;
      is_net = c.in_ok-last.ensures.added.1;
    }

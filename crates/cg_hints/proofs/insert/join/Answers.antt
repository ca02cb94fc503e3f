use Rattle.std.proofs.Common.{◌≡◌, ℕ, ◌+◌, ◌∷◌, [], Some, Result, Err, slice_get, drop, rules, refl, sym, ◌∙◌, ap, subst}
use Rattle.std.proofs.lemmas.Option.{slice_get_read}
use Rattle.cg_machine.specs.Added.{Added, gate_answer}
use Rattle.cg_machine.specs.Machine.{IsNet}
use Rattle.cg_netlist.specs.declared.fault.AddFault.{AddFault}
use Rattle.cg_machine.proofs.Extended.{net_kept}
use Rattle.cg_hint_laws.specs.Effects.{joined_with}
use Rattle.cg_hints.specs.inner.Adding.{AddsAs}
use Rattle.cg_stage_laws.proofs.Appended.{keeps_self, keeps_then}
use Rattle.cg_hints.proofs.Adding.{all_place, drop_at, gate_fits, join_on, passes_same, passes_then, with_net}
use Rattle.cg_hints.proofs.insert.join.Goals as goal

pub add_gate-requires : goal.add_gate-requires
add_gate-requires c =
    let m = c.args.machine.now in
    let n = c.loop-more.machine in
    let i = c.loop-more.more-index in
    let y = c.more-item.result in
    let at : slice_get c.args.rest.now i ≡ Some y = slice_get_read c.args.rest.now _ i y refl c.loop-more-test.true c.more-item.is in
    gate_fits n c.args.kind c.loop-more.net y c.requires.kind c.loop-more.invariant.is_net
    (net_kept m n c.loop-more.invariant.keeps.extends y (all_place (IsNet m) c.args.rest.now i y c.requires.rest at))

pub returns-in_err-net-clause-added : goal.returns-in_err-net-clause-added
returns-in_err-net-clause-added c =
    let i = c.loop-more.more-index in
    let y = c.more-item.result in
    let a : Added = with_net c.loop-more.machine c.loop-more.net in
    let at : slice_get c.args.rest.now i ≡ Some y = slice_get_read c.args.rest.now _ i y refl c.loop-more-test.true c.more-item.is in
    let fault = c.in_err-net.field-0.0 in
    let same : c.from_residual.result ≡ Err fault = search rules in
    subst (λ (r : Result ℕ AddFault). AddsAs c.add_gate.new.machine (joined_with c.args.kind (with_net c.args.machine.now c.args.first) c.args.rest.now) r) (sym same)
    (passes_same (joined_with c.args.kind a (y ∷ drop (i + 1) c.args.rest.now)) (joined_with c.args.kind (with_net c.args.machine.now c.args.first) c.args.rest.now) fault
    (ap (joined_with c.args.kind a) (sym (drop_at c.args.rest.now i y at)) ∙ c.loop-more.invariant.left)
    (passes_then (gate_answer a.machine c.args.kind (a.net ∷ y ∷ [])) (λ b. joined_with c.args.kind b (drop (i + 1) c.args.rest.now)) fault c.in_err-net.ensures.added))

pub returns-in_err-net-clause-keeps : goal.returns-in_err-net-clause-keeps
returns-in_err-net-clause-keeps c = keeps_then c.args.machine.now c.loop-more.machine c.add_gate.new.machine c.loop-more.invariant.keeps c.in_err-net.ensures.keeps

pub loop-more-init : goal.loop-more-init
loop-more-init c = record { left = refl; keeps = keeps_self c.args.machine.now c.args.machine.now c.netlist-netlist.ensures.machine refl; is_net = c.requires.first }

pub loop-more-preserved : goal.loop-more-preserved
loop-more-preserved c =
    let i = c.loop-more.more-index in
    let y = c.more-item.result in
    let n = c.add_gate.new.machine in
    let a : Added = with_net c.loop-more.machine c.loop-more.net in
    let at : slice_get c.args.rest.now i ≡ Some y = slice_get_read c.args.rest.now _ i y refl c.loop-more-test.true c.more-item.is in
    record {
      left = sym (join_on c.args.kind a c.args.rest.now i y n c.in_ok-net.net at c.in_ok-net.ensures.added.0) ∙ c.loop-more.invariant.left;
      keeps = keeps_then c.args.machine.now c.loop-more.machine n c.loop-more.invariant.keeps c.in_ok-net.ensures.keeps;
      is_net = c.in_ok-net.ensures.added.1;
    }

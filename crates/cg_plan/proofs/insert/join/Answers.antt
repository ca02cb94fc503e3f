use Rattle.std.proofs.Common.{◌≡◌, ℕ, ◌+◌, List, ◌∷◌, [], Some, Result, Err, IfErr, slice_get, drop, rules, refl, sym, ◌∙◌, ap, subst}
use Rattle.std.proofs.lemmas.Option.{slice_get_read}
use Rattle.cg_cell.specs.declared.fit.FitKind.TheVariants.{Or2}
use Rattle.cg_machine.specs.Added.{Added, add_gate, gate_limit}
use Rattle.cg_machine.specs.Claims.{Literal}
use Rattle.cg_machine.specs.Machine.{IsNet}
use Rattle.cg_netlist.specs.declared.fault.AddFault.{AddFault}
use Rattle.cg_plan.specs.inner.Inserting.{MayPass}
use Rattle.cg_stage_laws.specs.Joined.{join, join_limit}
use Rattle.cg_machine.proofs.Extended.{net_kept}
use Rattle.cg_stage_laws.proofs.Appended.{keeps_self, keeps_then}
use Rattle.cg_plan.proofs.Adding.{gate_fits, join_on, limit_on, net_among, nets_at, nets_of, passes_first}
use Rattle.cg_plan.proofs.Adding.{passes_same}
use Rattle.cg_plan.proofs.insert.join.Goals as goal

pub add_gate-requires : goal.add_gate-requires
add_gate-requires c =
    let m = c.args.machine.now in
    let n = c.loop-literal.machine in
    let E = c.args.rest.now in
    let i = c.loop-literal.literal-index in
    let l = c.literal-item.result in
    let at : slice_get E i ≡ Some l = slice_get_read E _ i l refl c.loop-literal-test.true c.literal-item.is in
    let is : IsNet n l.0 = net_kept m n c.loop-literal.invariant.keeps.extends l.0 (c.requires.nets l.0 (net_among E i l at)) in
    gate_fits n Or2 c.loop-literal.net c.literal.inside.net refl c.loop-literal.invariant.is_net (subst (IsNet n) (sym (ap (λ (k : Literal). k.0) c.literal.view_is)) is)

pub returns-in_err-net-clause-fault : goal.returns-in_err-net-clause-fault
returns-in_err-net-clause-fault c =
    let E = c.args.rest.now in
    let i = c.loop-literal.literal-index in
    let l = c.literal-item.result in
    let y = c.literal.inside.net in
    let ys : List ℕ = nets_of (drop (i + 1) E) in
    let a : Added = record { machine = c.loop-literal.machine; net = c.loop-literal.net } in
    let at : slice_get E i ≡ Some l = slice_get_read E _ i l refl c.loop-literal-test.true c.literal-item.is in
    let front : nets_of (drop i E) ≡ y ∷ ys = nets_at E i l at ∙ ap (λ (z : ℕ). z ∷ ys) (sym (ap (λ (k : Literal). k.0) c.literal.view_is)) in
    let fault = c.in_err-net.field-0.0 in
    let same : c.from_residual.result ≡ Err fault = search rules in
    subst (λ (r : Result ℕ AddFault). IfErr r (MayPass (join_limit (record { machine = c.args.machine.now; net = c.args.first }) (nets_of E)))) (sym same)
    (passes_same (join_limit a (y ∷ ys)) (join_limit (record { machine = c.args.machine.now; net = c.args.first }) (nets_of E)) fault (ap (join_limit a) (sym front) ∙ c.loop-literal.invariant.limit)
    (passes_first (gate_limit a.machine Or2 (a.net ∷ y ∷ [])) (join_limit (add_gate a.machine Or2 (a.net ∷ y ∷ [])) ys) fault c.in_err-net.ensures.fault))

pub returns-in_err-net-clause-keeps : goal.returns-in_err-net-clause-keeps
returns-in_err-net-clause-keeps c = keeps_then c.args.machine.now c.loop-literal.machine c.add_gate.new.machine c.loop-literal.invariant.keeps c.in_err-net.ensures.keeps

pub loop-literal-init : goal.loop-literal-init
loop-literal-init c = record {
  left = refl;
  limit = refl;
  keeps = keeps_self c.args.machine.now c.args.machine.now c.netlist-netlist.ensures.machine refl;
  is_net = c.requires.first;
}

pub loop-literal-preserved : goal.loop-literal-preserved
loop-literal-preserved c =
    let E = c.args.rest.now in
    let i = c.loop-literal.literal-index in
    let l = c.literal-item.result in
    let y = c.literal.inside.net in
    let ys : List ℕ = nets_of (drop (i + 1) E) in
    let a : Added = record { machine = c.loop-literal.machine; net = c.loop-literal.net } in
    let n = c.add_gate.new.machine in
    let at : slice_get E i ≡ Some l = slice_get_read E _ i l refl c.loop-literal-test.true c.literal-item.is in
    let front : nets_of (drop i E) ≡ y ∷ ys = nets_at E i l at ∙ ap (λ (z : ℕ). z ∷ ys) (sym (ap (λ (k : Literal). k.0) c.literal.view_is)) in
    record {
      left = sym (join_on a y ys n c.in_ok-net.net c.in_ok-net.ensures.added) ∙ (ap (join a) (sym front) ∙ c.loop-literal.invariant.left);
      limit = sym (limit_on a y ys n c.in_ok-net.net c.in_ok-net.ensures.added) ∙ (ap (join_limit a) (sym front) ∙ c.loop-literal.invariant.limit);
      keeps = keeps_then c.args.machine.now c.loop-literal.machine n c.loop-literal.invariant.keeps c.in_ok-net.ensures.keeps;
      is_net = c.in_ok-net.ensures.added.is_net;
    }

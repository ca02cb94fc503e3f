use Rattle.std.proofs.Common.{List, IfErr, IfOk, is_some, sym, ◌∙◌, ap, subst}
use Rattle.cg_machine.specs.Claims.{Literal}
use Rattle.cg_machine.specs.Machine.{IsNet}
use Rattle.cg_machine.specs.declared.stage.StageKind.{StageKind}
use Rattle.cg_net.specs.NetSets.{is_in}
use Rattle.cg_stage_laws.specs.Effects.{delayed, limit_by, net_by, with_own}
use Rattle.cg_stage_laws.specs.Joined.{join_all, join_all_limit}
use Rattle.cg_stage_laws.specs.Stages.{first_literal}
use Rattle.cg_stage_laws.proofs.StableSafe.{clocked}
use Rattle.cg_plan.specs.inner.Inserting.{AddsNet, MayPass, delayed_limit}
use Rattle.cg_plan.proofs.Adding.{nets_of, own_net}
use Rattle.cg_plan.proofs.Naming.{first_there}
use Rattle.cg_plan.proofs.insert.add_net.Goals as goal

pub add_literal-requires : goal.add_literal-requires
add_literal-requires c =
    let m = c.args.machine.now in
    subst (λ (l : Literal). IsNet m l.0) (sym (c.first_literal.ensures ∙ ap first_literal c.as_slice-enables.ensures.parts)) (first_there m c.args.stage.now c.netlist-netlist.ensures.machine c.requires)

pub add_delayed-requires-clause-nets : goal.add_delayed-requires-clause-nets
add_delayed-requires-clause-nets c = λ net among. c.requires.nets net (ap (λ (E : List Literal). is_in (nets_of E) net) (sym c.as_slice-enables.ensures.parts) ∙ among)

pub add_delayed-requires-clause-own : goal.add_delayed-requires-clause-own
add_delayed-requires-clause-own c = own_net c.args.machine.now c.args.stage.now c.netlist-netlist.ensures.machine c.requires

pub add_delayed-requires-clause-clock : goal.add_delayed-requires-clause-clock
add_delayed-requires-clause-clock c = ap is_some (clocked c.args.machine.now c.args.stage.now c.netlist-netlist.ensures.machine c.requires).1

pub join_all-requires-clause-nets : goal.join_all-requires-clause-nets
join_all-requires-clause-nets c = λ net among. c.requires.nets net (ap (λ (E : List Literal). is_in (nets_of E) net) (sym c.as_slice-enables.ensures.parts) ∙ among)

pub returns-in-Stable-clause-added : goal.returns-in-Stable-clause-added
returns-in-Stable-clause-added c =
    let m = c.args.machine.now in
    let s = c.args.stage.now in
    let r = c.add_delayed.result in
    let n = c.add_delayed.new.machine in
    subst (λ (k : StageKind). IfOk r (AddsNet (limit_by k m s) (net_by k m s) n)) (sym c.in-Stable.is)
    (subst (λ (E : List Literal). IfOk r (AddsNet (delayed_limit m (nets_of E) s.own) (with_own (delayed (join_all m (nets_of E))) s.own) n)) c.as_slice-enables.ensures.parts c.add_delayed.ensures.added)

pub returns-in-Stable-clause-fault : goal.returns-in-Stable-clause-fault
returns-in-Stable-clause-fault c =
    let m = c.args.machine.now in
    let s = c.args.stage.now in
    let r = c.add_delayed.result in
    subst (λ (k : StageKind). IfErr r (MayPass (limit_by k m s))) (sym c.in-Stable.is)
    (subst (λ (E : List Literal). IfErr r (MayPass (delayed_limit m (nets_of E) s.own))) c.as_slice-enables.ensures.parts c.add_delayed.ensures.fault)

pub returns-in-Unseen-clause-fault : goal.returns-in-Unseen-clause-fault
returns-in-Unseen-clause-fault c =
    let m = c.args.machine.now in
    let s = c.args.stage.now in
    let r = c.join_all.result in
    subst (λ (k : StageKind). IfErr r (MayPass (limit_by k m s))) (sym c.in-Unseen.is)
    (subst (λ (E : List Literal). IfErr r (MayPass (join_all_limit m (nets_of E)))) c.as_slice-enables.ensures.parts c.join_all.ensures.fault)

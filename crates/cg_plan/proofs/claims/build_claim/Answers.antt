use Rattle.std.proofs.Common.{◌≡◌, ◌<◌, length, IfErr, sym, ◌∙◌, ap, subst}
use Rattle.std.specs.List.{All}
use Rattle.cg_machine.specs.Claims.{Literal}
use Rattle.cg_machine.specs.declared.stage.Stage.{Stage}
use Rattle.cg_claim.specs.Question.{Question, hold_question, idle_question, stable_question, unseen_question}
use Rattle.cg_stage_laws.specs.Stages.{first_literal}
use Rattle.cg_unroll.specs.Claims.{IsRefused, target_of}
use Rattle.cg_claim_reach.specs.Unseen.{UnseenData}
use Rattle.cg_plan.specs.inner.Naming.{question_of, unseen_of}
use Rattle.cg_plan.proofs.Naming.{first_there, guards_there, nets_there, registers_there, target_question}
use Rattle.cg_plan.proofs.claims.build_claim.Goals as goal

pub idle-requires : goal.idle-requires
idle-requires c =
    let m = c.args.machine.now in
    let s = c.args.stage.now in
    let enables : c.as_slice-enables.result.now ≡ s.enable = c.as_slice-enables.ensures.parts ∙ ap (λ (t : Stage). t.enable) c.stage.view_is in
    subst (All (λ (l : Literal). l.0 < length m.circuit.names)) (sym enables) (nets_there m s c.netlist-netlist.ensures.machine c.requires.fits)

pub hold-requires-clause-net : goal.hold-requires-clause-net
hold-requires-clause-net c =
    let m = c.args.machine.now in
    let s = c.args.stage.now in
    let enables : c.as_slice-enables.result.now ≡ s.enable = c.as_slice-enables.ensures.parts ∙ ap (λ (t : Stage). t.enable) c.stage.view_is in
    let same = c.first_literal.ensures ∙ ap first_literal enables in
    subst (λ (l : Literal). l.0 < length m.circuit.names) (sym same) (first_there m s c.netlist-netlist.ensures.machine c.requires.fits).below

pub stable-requires-clause-nets : goal.stable-requires-clause-nets
stable-requires-clause-nets c =
    let m = c.args.machine.now in
    let s = c.args.stage.now in
    let enables : c.as_slice-enables.result.now ≡ s.enable = c.as_slice-enables.ensures.parts ∙ ap (λ (t : Stage). t.enable) c.stage.view_is in
    subst (All (λ (l : Literal). l.0 < length m.circuit.names)) (sym enables) (nets_there m s c.netlist-netlist.ensures.machine c.requires.fits)

pub unseen-requires-clause-nets : goal.unseen-requires-clause-nets
unseen-requires-clause-nets c =
    let m = c.args.machine.now in
    let s = c.args.stage.now in
    let enables : c.as_slice-enables.result.now ≡ s.enable = c.as_slice-enables.ensures.parts ∙ ap (λ (t : Stage). t.enable) c.stage.view_is in
    subst (All (λ (l : Literal). l.0 < length m.circuit.names)) (sym enables) (nets_there m s c.netlist-netlist.ensures.machine c.requires.fits)

pub unseen-requires-clause-guards : goal.unseen-requires-clause-guards
unseen-requires-clause-guards c =
    let m = c.args.machine.now in
    let s = c.args.stage.now in
    let unseen : c.stage.inside.unseen ≡ unseen_of s = c.stage.invariant ∙ ap unseen_of c.stage.view_is in
    subst (λ (u : UnseenData). All (λ r. r < length m.circuit.registers) u.guards) (sym unseen) (guards_there m s c.netlist-netlist.ensures.machine c.requires.fits)

pub unseen-requires-clause-registers : goal.unseen-requires-clause-registers
unseen-requires-clause-registers c =
    let m = c.args.machine.now in
    let s = c.args.stage.now in
    let unseen : c.stage.inside.unseen ≡ unseen_of s = c.stage.invariant ∙ ap unseen_of c.stage.view_is in
    subst (λ (u : UnseenData). All (λ r. r < length m.circuit.registers) u.regs) (sym unseen) (registers_there m s c.netlist-netlist.ensures.machine c.requires.fits)

pub returns-in-Idle-clause-refused : goal.returns-in-Idle-clause-refused
returns-in-Idle-clause-refused c =
    let m = c.args.machine.now in
    let s = c.args.stage.now in
    let enables : c.as_slice-enables.result.now ≡ s.enable = c.as_slice-enables.ensures.parts ∙ ap (λ (t : Stage). t.enable) c.stage.view_is in
    subst (λ (q : Question). IfErr c.idle.result (IsRefused m q c.args.width)) (ap idle_question enables ∙ ap (question_of m s) (sym c.in-Idle.is)) c.idle.ensures.refused

pub returns-in-Hold-clause-refused : goal.returns-in-Hold-clause-refused
returns-in-Hold-clause-refused c =
    let m = c.args.machine.now in
    let s = c.args.stage.now in
    let enables : c.as_slice-enables.result.now ≡ s.enable = c.as_slice-enables.ensures.parts ∙ ap (λ (t : Stage). t.enable) c.stage.view_is in
    let literal = c.first_literal.ensures ∙ ap first_literal enables in
    subst (λ (q : Question). IfErr c.hold.result (IsRefused m q c.args.width)) (ap (λ (l : Literal). hold_question l c.in-Hold.reg) literal ∙ ap (question_of m s) (sym c.in-Hold.is)) c.hold.ensures.refused

pub returns-in-Stable-clause-refused : goal.returns-in-Stable-clause-refused
returns-in-Stable-clause-refused c =
    let m = c.args.machine.now in
    let s = c.args.stage.now in
    let enables : c.as_slice-enables.result.now ≡ s.enable = c.as_slice-enables.ensures.parts ∙ ap (λ (t : Stage). t.enable) c.stage.view_is in
    subst (λ (q : Question). IfErr c.stable.result (IsRefused m q c.args.width)) (ap (λ E. stable_question E c.in-Stable.reg) enables ∙ ap (question_of m s) (sym c.in-Stable.is)) c.stable.ensures.refused

pub returns-in-Output-clause-refused : goal.returns-in-Output-clause-refused
returns-in-Output-clause-refused c =
    let m = c.args.machine.now in
    let s = c.args.stage.now in
    let t = target_of m c.args.name.now in
    let u = c.stage.inside.unseen in
    let enables : c.as_slice-enables.result.now ≡ s.enable = c.as_slice-enables.ensures.parts ∙ ap (λ (t : Stage). t.enable) c.stage.view_is in
    let unseen : u ≡ unseen_of s = c.stage.invariant ∙ ap unseen_of c.stage.view_is in
    let same : unseen_question c.as_slice-enables.result.now u.guards u.regs t ≡ question_of m s c.args.name.now =
    ap (λ E. unseen_question E u.guards u.regs t) enables
    ∙ (ap (λ (v : UnseenData). unseen_question s.enable v.guards v.regs t) unseen ∙ target_question m s c.args.name.now c.in-Output.is) in
    subst (λ (q : Question). IfErr c.unseen.result (IsRefused m q c.args.width)) same c.unseen.ensures.refused

-- What is told of the registers of a gated netlist is told of one netlist, and means what it is to mean.
use Rattle.std.proofs.Common.{◌≡◌, ℕ, ◌+◌, ◌-◌, ◌<◌, ◌≤◌, true, List, [], ◌∷◌, map, length, replicate, Option, Ok, refl, sym, ◌∙◌, ap, subst, arith}
use Rattle.cg_extract.proofs.LiftedMachine.{lifted_is_small}
use Rattle.cg_extract.specs.Lifted.{lifted}
use Rattle.cg_gate.proofs.Hinted.{told_long}
use Rattle.cg_gate.proofs.MayInsert.{may_gate}
use Rattle.cg_gate.specs.Gating.{IsWritten, begun_data, gated_data}
use Rattle.cg_gate.specs.Proper.{IsProper}
use Rattle.cg_gate.specs.Request.{MayGate, RequestData, begun_of, gating_of, hints_of}
use Rattle.cg_gate.specs.declared.planning.TriedHints.{TriedHints}
use Rattle.cg_gate_laws.proofs.Behaving.{gated_behaves}
use Rattle.cg_gate_laws.proofs.BegunSafe.{all_fit}
use Rattle.cg_gate_laws.proofs.Planned.{can_insert}
use Rattle.cg_gate_laws.proofs.SameOutputs.{whole}
use Rattle.cg_gate_laws.specs.Begun.{renamed}
use Rattle.cg_gate_laws.specs.Gated.{CanGate, Gating, gated_by, planned}
use Rattle.cg_hint_laws.specs.Trying.{Turn as HintTurn}
use Rattle.cg_hint_laws.specs.declared.hint.Hint.{Hint}
use Rattle.cg_insert.specs.Insert.{inserted}
use Rattle.cg_machine.specs.Machine.{MachineData}
use Rattle.cg_netlist.specs.Circuit.{Circuit}
use Rattle.cg_plan_laws.specs.Plan.{plan_of}
use Rattle.cg_plan_laws.specs.Reported.{ReportedPlan}
use Rattle.cg_register_text.proofs.CausesMeant.{causes_mean}
use Rattle.cg_register_text.proofs.HintsStanding.{hints_stand, hints_told}
use Rattle.cg_register_text.proofs.StagesTold.{stages_told}
use Rattle.cg_register_text.proofs.TextKept.{text_is_kept}
use Rattle.cg_register_text.specs.Causes.{Tried, cause_of}
use Rattle.cg_register_text.specs.Laws.{IsRightCourse}
use Rattle.cg_register_text.specs.Meaning.{Course, Means, tried_in}
use Rattle.cg_register_text.specs.Words.{GatedData, IsToldOf, registers_text, tried_of}
use Rattle.cg_register_text.specs.declared.rises.BothRises.{BothRises}

-- hints keep their registers on the machine
same_registers : (c : Circuit) (hs : List Hint) (turns : List HintTurn) → map (λ (turn : HintTurn). turn.hint) turns ≡ map (renamed c) hs
    → map (λ (h : Hint). h.regs) hs ≡ map (λ (turn : HintTurn). turn.hint.regs) turns
same_registers c [] [] same = refl
same_registers c [] (turn ∷ turns) same = absurd (cc)
same_registers c (h ∷ hs) [] same = absurd (cc)
same_registers c (h ∷ hs) (turn ∷ turns) same =
    let first : turn.hint ≡ renamed c h = cc in
    let rest : map (λ (t : HintTurn). t.hint) turns ≡ map (renamed c) hs = cc in
    ap (λ (k : Hint). k.regs ∷ map (λ (g : Hint). g.regs) hs) (sym first) ∙ ap (λ l. turn.hint.regs ∷ l) (same_registers c hs turns rest)

module _ (request : RequestData) (read : Circuit) (proper : IsProper request) (may : MayGate request read) (hints : TriedHints) (told : ReportedPlan) (written : Circuit) (gated : IsWritten (gating_of request read) read hints told written) where
  abbrev by : Gating
  by = gating_of request read

  can : CanGate (gating_of request read) read
  can = may_gate request read proper may

  -- the plan's machine and the written netlist have the registers of the netlist that was read
  pub told_of : IsToldOf (gated_data request read written hints.outcomes told)
  told_of =
      let n : MachineData = planned (gating_of request read) read in
      let own : length read.registers ≡ n.own_registers = sym (lifted_is_small read request.prefix may.start).2 ∙ sym (whole by read can).own in
      let few : n.own_registers ≤ length n.circuit.registers = ((can_insert by read can).0).own_registers in
      let is : written ≡ gated_by by read = gated.is ∙ ap (inserted request.library request.test) gated.plan.machine in
      let longer : length written.registers ≡ length read.registers + length (replicate (length n.circuit.registers - n.own_registers) true) =
      ap (λ (c : Circuit). length c.registers) is ∙ (gated_behaves by read can).registers in
      record {
        machine = subst (λ (m : MachineData). length read.registers ≤ length m.circuit.registers) (sym gated.plan.machine) (omega (arith, own, few));
        written = omega (arith, longer);
        hints = told_long request read hints gated.tried;
      }

  -- how the netlist came to be gated
  abbrev course : Course
  course = record {
    read = read;
    lifted = lifted read request.prefix;
    hints = gated.tried.done.turns;
    began = begun_of request read;
    stages = (plan_of request.library request.settings (gating_of request read).counts (begun_of request read)).turns;
    ended = told.machine;
    width = request.settings.width;
  }

  abbrev facts : GatedData
  facts = begun_data request read written (record { machine = begun_of request read; outcomes = hints.outcomes; certificates = hints.certificates }) told

  right : IsRightCourse request.library request.settings (gating_of request read).counts request.prefix (map (renamed read) (hints_of request)) course
  right = record {
    extracts = may.start;
    fit = all_fit read request.prefix may.start (hints_of request) may.hints;
    course = record {
      lifts = refl;
      hinted = gated.tried.tried ∙ ap (λ (m : MachineData). Ok (record { machine = m; turns = gated.tried.done.turns })) (sym gated.tried.machine);
      stages = refl;
      ended = sym gated.plan.machine;
      whole = gated.plan.whole;
      width = refl;
    };
  }

  -- hints and stages are told as they were tried
  same_tried : tried_of facts ≡ tried_in course
  same_tried =
      let stand = hints_stand request.library request.settings.width (lifted read request.prefix) (map (renamed read) (hints_of request)) gated.tried.done gated.tried.tried in
      let hinted : (tried_of facts).hints ≡ (tried_in course).hints =
      hints_told gated.tried.done.turns (hints_of request) hints.outcomes (same_registers read (hints_of request) gated.tried.done.turns stand) gated.tried.outcomes in
      let staged : (tried_of facts).stages ≡ (tried_in course).stages = stages_told course.stages told.stages gated.plan.stages in
      λ i. record { read = read; began = begun_of request read; width = request.settings.width; hints = hinted i; stages = staged i }

  pub same_text : (rises : Option BothRises) → registers_text (gated_data request read written hints.outcomes told) rises ≡ registers_text facts rises
  same_text rises = text_is_kept request.library request.settings by.counts request.prefix (map (renamed read) (hints_of request)) course right facts same_tried rises

  pub means_so : (r : ℕ) → r < length read.registers → Means course r (cause_of (tried_of facts) r)
  means_so r below =
      subst (λ (t : Tried). Means course r (cause_of t r)) (sym same_tried)
      (causes_mean request.library request.settings by.counts request.prefix (map (renamed read) (hints_of request)) course right r below)

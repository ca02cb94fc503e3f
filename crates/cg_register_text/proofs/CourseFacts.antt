-- What the course of hints and of a plan keeps: the netlist's machine, and the enables that its hints and stages give.
use Rattle.std.proofs.Common.{◌≡◌, ℕ, ◌<◌, List, length, Option, sym, ap, ◌∙◌, subst, arith}
use Rattle.cg_cell.specs.Cell.{CellData}
use Rattle.cg_extract.specs.Lifted.{bare}
use Rattle.cg_hint_laws.specs.Laws.{AllFit, AreSafe}
use Rattle.cg_hint_laws.specs.Trying.{Hinted}
use Rattle.cg_hint_laws.specs.declared.hint.Hint.{Hint}
use Rattle.cg_hint_laws.proofs.AllSafe.{hints_are_safe}
use Rattle.cg_machine.specs.Added.{own_netlist}
use Rattle.cg_machine.specs.Machine.{IsMachine, MachineData, enable_of}
use Rattle.cg_machine.proofs.OwnKept.{machine_front}
use Rattle.cg_plan_laws.specs.Plan.{plan_of}
use Rattle.cg_plan_laws.specs.declared.settings.Settings.{Settings}
use Rattle.cg_plan_laws.proofs.AllSafe.{plans_safe}
use Rattle.cg_plan_laws.proofs.PlanKeeps.{plan_keeps}
use Rattle.cg_stage_list_laws.specs.Literals.{ZeroCounts}
use Rattle.cg_register_text.specs.Laws.{IsRightCourse}
use Rattle.cg_register_text.specs.Meaning.{Course, after_hints, after_stages}
use Rattle.cg_register_text.proofs.HintEnables.{Leave, hints_leave}
use Rattle.cg_register_text.proofs.LiftedFacts.{IsLiftedFrom, lifted_from}
use Rattle.cg_register_text.proofs.StageTurns.{Enabled, plan_enabled}

-- a machine of this netlist
pub record IsOfNetlist (w : Course) (m : MachineData) : Type 0 where
  pub good : IsMachine m
  pub own : m.own_registers ≡ length w.read.registers
  pub netlist : own_netlist m ≡ bare w.read

module _ (library : List CellData) (settings : Settings) (counts : Option ZeroCounts) (prefix : List ℕ) (hints : List Hint) (w : Course) (right : IsRightCourse library settings counts prefix hints w) where
  pub from_netlist : IsLiftedFrom w.read w.lifted
  from_netlist = subst (IsLiftedFrom w.read) (sym right.course.lifts) (lifted_from w.read prefix right.extracts)

  abbrev done : Hinted
  done = record { machine = w.began; turns = w.hints }

  all_fit : AllFit w.lifted hints
  all_fit = subst (λ m. AllFit m hints) (sym right.course.lifts) right.fit

  hints_safe : AreSafe library w.lifted (record { machine = w.began; turns = w.hints })
  hints_safe = hints_are_safe library settings.width w.lifted hints done from_netlist.good all_fit right.course.hinted

  pub left_by_hints : Leave library settings.width w.lifted (record { machine = w.began; turns = w.hints })
  left_by_hints = hints_leave library settings.width w.lifted hints done from_netlist.good all_fit right.course.hinted

  pub began_of : IsOfNetlist w w.began
  began_of = record {
    good = hints_safe.safe.is_machine;
    own = hints_safe.safe.same.own ∙ from_netlist.own;
    netlist = hints_safe.safe.own ∙ from_netlist.netlist;
  }

  pub ended_of : IsOfNetlist w w.ended
  ended_of =
      let safe = plans_safe library settings counts w.began began_of.good in
      let keeps = plan_keeps library settings counts w.began (machine_front w.began began_of.good) in
      subst (IsOfNetlist w) right.course.ended (record {
        good = safe.0;
        own = safe.1.own ∙ began_of.own;
        netlist = keeps.same ∙ began_of.netlist;
      })

  module _ (r : ℕ) (below : r < length w.read.registers) where
    -- the enables that hints and stages leave
    pub began_enable : enable_of w.began r ≡ after_hints r (enable_of w.lifted r) w.hints
    began_enable = left_by_hints.enables r (let regs = from_netlist.registers in omega (arith, below, regs))

    pub ended_enable : enable_of w.ended r ≡ after_stages r (enable_of w.began r) w.stages
    ended_enable =
        let long : r < length w.began.enables = (let own = began_of.own in let few = began_of.good.own_registers in let es = began_of.good.enables in omega (arith, below, own, few, es)) in
        let e : Enabled r w.began (plan_of library settings counts w.began) = plan_enabled r w.began library settings counts long in
        sym (ap (λ m. enable_of m r) right.course.ended) ∙ (e.is ∙ ap (after_stages r (enable_of w.began r)) right.course.stages)

-- What trying a hint does, from its outcome.
use Rattle.std.proofs.Common.{◌≡◌, ℕ, Bool, true, false, if◌then◌else◌, List, [], Ok, refl, sym, ◌∙◌, ap, subst}
use Rattle.cg_cell.specs.Cell.{CellData}
use Rattle.cg_machine.specs.Machine.{IsMachine, MachineData}
use Rattle.cg_hint_laws.specs.Answers.{AreAppended, IsAnswer, claims_for}
use Rattle.cg_hint_laws.specs.Hints.{Fits}
use Rattle.cg_hint_laws.specs.Laws.{After, HintIsSafe, InsertedExactly}
use Rattle.cg_hint_laws.specs.Outcomes.{OutcomesAreDeserved}
use Rattle.cg_hint_laws.specs.Trying.{after_outcome, is_inserted, machine_or, tried}
use Rattle.cg_hint_laws.specs.declared.certificate.HintCertificate.{HintCertificate}
use Rattle.cg_hint_laws.specs.declared.hint.Hint.{Hint}
use Rattle.cg_hint_laws.specs.declared.outcome.HintOutcome.{HintOutcome}
use Rattle.cg_hint_laws.specs.declared.outcome.HintOutcome.TheVariants.{Inserted, NeverIdle, NoCell, Refuted, Taken, Wide}
use Rattle.cg_hints.proofs.Judging.{claims_all, claims_none, machine_stays}
use Rattle.cg_hints.specs.Trial.{IsApplied, WhereInserted}
use Rattle.cg_hints.specs.inner.Judging.{Pushes}

module _ (safe : HintIsSafe) (exactly : InsertedExactly) (are : OutcomesAreDeserved) (library : List CellData) (width : ℕ) (m : MachineData) (good : IsMachine m) (h : Hint) (fits : Fits m h) (n : MachineData) where
  shows_same : (o : HintOutcome) → IsAnswer m h (tried library width m h) (Ok o) → n ≡ after_outcome m h o → WhereInserted m h o n
  shows_same Inserted answer is =
      let d = (exactly library width m h good fits).0 answer.0 in
      let same : n ≡ d.room.0 = is ∙ ap (machine_or m) d.room.1 in
      subst (After m h) (sym same) (safe m d.room.0 h good fits d.free d.holds d.room.1)
  shows_same (Taken r) answer is = tt
  shows_same (NoCell kind) answer is = tt
  shows_same (Wide claim leaves) answer is = tt
  shows_same NeverIdle answer is = tt
  shows_same (Refuted claim bits) answer is = tt

  pub applied : (proof : Bool) (number : ℕ) (before pushed after : List HintCertificate) (o : HintOutcome) → IsAnswer m h (tried library width m h) (Ok o) → n ≡ after_outcome m h o
      → Pushes proof m number h before pushed o → (is_inserted o ≡ true → after ≡ pushed) → (is_inserted o ≡ false → after ≡ before) → IsApplied library width proof number m h before o n after
  applied proof number before pushed after o answer is pushes kept back = record {
    answer = answer;
    deserved = (are library width m h o good fits).0 answer.0;
    machine = is;
    safe = shows_same o answer is;
    certificates = by (is_inserted o) refl;
    unchanged = λ ends. record { machine = is ∙ sym (machine_stays m h o ends); certificates = back ends };
  }
    where
      by : (b : Bool) → is_inserted o ≡ b → AreAppended (if proof then claims_for number m h o else []) before after
      by true ends = subst (AreAppended (if proof then claims_for number m h o else []) before) (sym (kept ends)) (claims_all proof m h o number before pushed ends pushes)
      by false ends = subst (AreAppended (if proof then claims_for number m h o else []) before) (sym (back ends)) (claims_none m h o ends proof number before)

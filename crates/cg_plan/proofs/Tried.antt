-- What trying a stage does, from its outcome.
use Rattle.std.proofs.Common.{◌≡◌, ℕ, Bool, true, false, if◌then◌else◌, List, [], refl, sym, subst}
use Rattle.std.proofs.lemmas.Bool.{both_ways}
use Rattle.cg_cell.specs.Cell.{CellData}
use Rattle.cg_machine.specs.Machine.{IsMachine, MachineData}
use Rattle.cg_machine.specs.declared.stage.Stage.{Stage}
use Rattle.cg_plan_laws.proofs.AllSafe.{inserted_safe}
use Rattle.cg_plan_laws.proofs.Deserved.{outcomes_deserved}
use Rattle.cg_plan_laws.specs.Outcomes.{Deserves}
use Rattle.cg_plan_laws.specs.Plan.{after_outcome, is_inserted}
use Rattle.cg_plan_laws.specs.Reported.{AreAppended, TellsOutcome, claims_for, without_bits}
use Rattle.cg_plan_laws.specs.Trying.{tried}
use Rattle.cg_plan_laws.specs.declared.certificate.Certificate.{Certificate}
use Rattle.cg_plan_laws.specs.declared.outcome.Outcome.{Outcome}
use Rattle.cg_plan_laws.specs.declared.outcome.Outcome.TheVariants.{Inserted, NeverIdle, NoCell, Refuted, Small, Wide}
use Rattle.cg_plan_laws.specs.declared.settings.Settings.{Settings}
use Rattle.cg_stage_laws.specs.Laws.{After}
use Rattle.cg_stage_laws.specs.Stages.{Fits}
use Rattle.cg_plan.specs.Planning.{StayWritable}
use Rattle.cg_plan.specs.Trial.{IsTried, WhereInserted}
use Rattle.cg_plan.specs.inner.Judging.{Pushes}
use Rattle.cg_plan.proofs.Judging.{appended_none, writable_same}

module _ (library : List CellData) (settings : Settings) (m : MachineData) (good : IsMachine m) (s : Stage) (fits : Fits m s) (n : MachineData) where
  -- what an outcome says does not depend on the bits that are told with it
  with_bits : (o : Outcome) → Deserves library settings m s (without_bits o) → Deserves library settings m s o
  with_bits Inserted d = d
  with_bits (Refuted claim bits) d = d
  with_bits (Wide claim leaves) d = d
  with_bits NeverIdle d = d
  with_bits (Small registers) d = d
  with_bits (NoCell kind) d = d

  deserved : (o : Outcome) → TellsOutcome m s (tried library settings m s) o → Deserves library settings m s o
  deserved o tells = with_bits o (outcomes_deserved library settings m s (without_bits o) good fits tells.0)

  shows_same : (o : Outcome) → TellsOutcome m s (tried library settings m s) o → n ≡ after_outcome m s o → WhereInserted m s o n
  shows_same Inserted tells is = subst (After m s) (sym is) (inserted_safe library settings m s good fits tells.0)
  shows_same (Refuted claim bits) tells is = tt
  shows_same (Wide claim leaves) tells is = tt
  shows_same NeverIdle tells is = tt
  shows_same (Small registers) tells is = tt
  shows_same (NoCell kind) tells is = tt

  module _ (number : ℕ) (before after : List Certificate) (o : Outcome) (tells : TellsOutcome m s (tried library settings m s) o) (is : n ≡ after_outcome m s o) where
    -- with these certificates
    whole : AreAppended (if settings.proof then claims_for number m s o else []) before after → StayWritable before after → IsTried library settings number m s before o n after
    whole appended writable = record {
      outcome = tells;
      deserved = deserved o tells;
      machine = is;
      safe = shows_same o tells is;
      certificates = appended;
      writable = writable;
    }

    tried_other : is_inserted o ≡ false → after ≡ before → IsTried library settings number m s before o n after
    tried_other ends same = whole (appended_none settings.proof m s number before after o ends same) (writable_same before after same)

    tried_inserted : is_inserted o ≡ true → Pushes settings.proof m number s before after o → IsTried library settings number m s before o n after
    tried_inserted ends pushes = let p = pushed o ends pushes in whole p.0 p.1
      where
        pushed : (q : Outcome) → is_inserted q ≡ true → Pushes settings.proof m number s before after q → AreAppended (if settings.proof then claims_for number m s q else []) before after × StayWritable before after
        pushed Inserted inserted all = (all.appended, all.writable)
        pushed (Refuted claim bits) inserted all = absurd (both_ways false refl inserted)
        pushed (Wide claim leaves) inserted all = absurd (both_ways false refl inserted)
        pushed NeverIdle inserted all = absurd (both_ways false refl inserted)
        pushed (Small registers) inserted all = absurd (both_ways false refl inserted)
        pushed (NoCell kind) inserted all = absurd (both_ways false refl inserted)

  -- where the certificates that were put behind are kept, or taken back
  pub tried_so : (number : ℕ) (before pushed after : List Certificate) (o : Outcome) → TellsOutcome m s (tried library settings m s) o → n ≡ after_outcome m s o → Pushes settings.proof m number s before pushed o
      → (is_inserted o ≡ true → after ≡ pushed) → (is_inserted o ≡ false → after ≡ before) → IsTried library settings number m s before o n after
  tried_so number before pushed after o tells is pushes kept back = by (is_inserted o) refl
    where
      by : (b : Bool) → is_inserted o ≡ b → IsTried library settings number m s before o n after
      by true ends = subst (λ l. IsTried library settings number m s before o n l) (sym (kept ends)) (tried_inserted number before pushed o tells is ends pushes)
      by false ends = tried_other number before after o tells is ends (back ends)

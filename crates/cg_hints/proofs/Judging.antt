-- What comes of a hint step by step.
use Rattle.std.proofs.Common.{◌≡◌, ℕ, zero, suc, Bool, true, false, if◌then◌else◌, is_some, List, [], slice_get, unwrap_or}
use Rattle.std.proofs.Common.{Option, None, Some, Result, OnErr, Ok, Err, ◌⊎◌, refl, sym, ◌∙◌, ap, subst}
use Rattle.std.specs.List.{find}
use Rattle.std.specs.Option.{option_map, option_or}
use Rattle.cg_cell.specs.Cell.{CellData}
use Rattle.cg_cell.specs.declared.fit.FitKind.{FitKind}
use Rattle.cg_machine.specs.Machine.{IsMachine, MachineData, enable_of}
use Rattle.cg_net.proofs.Members.{member_at}
use Rattle.cg_stage_laws.specs.Needs.{missing}
use Rattle.cg_hint_laws.specs.Answers.{AreAppended, claims_for, register_claims}
use Rattle.cg_hint_laws.specs.Effects.{effect}
use Rattle.cg_hint_laws.specs.Hints.{Fits}
use Rattle.cg_hint_laws.specs.Needs.{needs}
use Rattle.cg_hint_laws.specs.Trying.{Answer, after_outcome, all_claims, first_large, first_refuted, first_wide, is_inserted}
use Rattle.cg_hint_laws.specs.Trying.{machine_or, never_idle, question_of, tried}
use Rattle.cg_hint_laws.specs.declared.certificate.HintCertificate.{HintCertificate}
use Rattle.cg_hint_laws.specs.declared.hint.Hint.{Hint}
use Rattle.cg_hint_laws.specs.declared.outcome.HintClaim.{HintClaim}
use Rattle.cg_hint_laws.specs.declared.outcome.HintClaim.TheVariants.{Hold, Idle}
use Rattle.cg_hint_laws.specs.declared.outcome.HintOutcome.{HintOutcome}
use Rattle.cg_hint_laws.specs.declared.outcome.HintOutcome.TheVariants.{Inserted, NeverIdle, NoCell, Refuted, Taken, Wide}
use Rattle.cg_hint_laws.proofs.Goals.{hold_asked, idle_asked}
use Rattle.cg_hint_laws.proofs.HintSafe.{registers_below}
use Rattle.cg_hint_laws.proofs.Listed.{mapped_at}
use Rattle.cg_hints.proofs.Appending.{appended_none}
use Rattle.cg_hints.specs.inner.Judging.{IsJudged, Pushes, by_claims, early_end, inserted}
use Rattle.cg_unroll_cycles.specs.Asking.{AsksThere}

pub on_err : {A E : Type 0} (P : Type 0) (r : Result A E) → P → OnErr r P
on_err P (Ok a) p = tt
on_err P (Err e) p = p

-- an outcome that is not Inserted
module _ (m : MachineData) (h : Hint) (outcome : HintOutcome) (ends : is_inserted outcome ≡ false) where
  pub machine_stays : m ≡ after_outcome m h outcome
  machine_stays = sym (ap (λ b. if b then machine_or m (effect m h) else m) ends)

  pub pushes_none : (proof : Bool) (number : ℕ) (before after : List HintCertificate) → Pushes proof m number h before after outcome
  pushes_none proof number before after = go outcome ends
    where
      go : (o : HintOutcome) → is_inserted o ≡ false → Pushes proof m number h before after o
      go Inserted is = absurd (cc)
      go (Taken r) is = tt
      go (NoCell kind) is = tt
      go (Wide claim n) is = tt
      go NeverIdle is = tt
      go (Refuted claim bits) is = tt

  pub claims_none : (proof : Bool) (number : ℕ) (items : List HintCertificate) → AreAppended (if proof then claims_for number m h outcome else []) items items
  claims_none proof number items = go proof
    where
      go : (b : Bool) → AreAppended (if b then claims_for number m h outcome else []) items items
      go true = subst (λ (b : Bool). AreAppended (if b then register_claims number m h else []) items items) (sym ends) (appended_none items items refl)
      go false = appended_none items items refl

-- an inserted one
pub claims_all : (proof : Bool) (m : MachineData) (h : Hint) (outcome : HintOutcome) (number : ℕ) (before after : List HintCertificate) → is_inserted outcome ≡ true → Pushes proof m number h before after outcome
    → AreAppended (if proof then claims_for number m h outcome else []) before after
claims_all proof m h Inserted number before after is pushes = pushes
claims_all proof m h (Taken r) number before after is pushes = absurd (cc)
claims_all proof m h (NoCell kind) number before after is pushes = absurd (cc)
claims_all proof m h (Wide claim n) number before after is pushes = absurd (cc)
claims_all proof m h NeverIdle number before after is pushes = absurd (cc)
claims_all proof m h (Refuted claim bits) number before after is pushes = absurd (cc)

-- a hint that ends by its registers and cells alone
module _ (library : List CellData) (width : ℕ) (m : MachineData) (h : Hint) where
  abbrev later : Option Answer
  later = option_or (first_wide m width h) (option_or (first_large m h) (option_or (never_idle m h) (first_refuted m h)))

  abbrev tried_by : Option ℕ → Option FitKind → Answer
  tried_by taken lacked = unwrap_or (option_or (option_map (λ r. Ok (Taken r)) taken) (option_or (option_map (λ kind. Ok (NoCell kind)) lacked) later)) (inserted m h)

  abbrev ended_by : Option ℕ → Option FitKind → Option HintOutcome
  ended_by taken lacked = option_or (option_map Taken taken) (option_map NoCell lacked)

  early_by : (taken : Option ℕ) (lacked : Option FitKind) (outcome : HintOutcome) → ended_by taken lacked ≡ Some outcome → IsJudged m h (tried_by taken lacked) (Some outcome)
  early_by (Some r) lacked outcome is = let same : Taken r ≡ outcome = cc in subst (λ (o : HintOutcome). IsJudged m h (Ok (Taken r)) (Some o)) same ((refl, tt), refl)
  early_by None (Some kind) outcome is = let same : NoCell kind ≡ outcome = cc in subst (λ (o : HintOutcome). IsJudged m h (Ok (NoCell kind)) (Some o)) same ((refl, tt), refl)
  early_by None None outcome is = absurd (cc)

  late_by : (taken : Option ℕ) (lacked : Option FitKind) → ended_by taken lacked ≡ None → tried_by taken lacked ≡ by_claims width m h
  late_by (Some r) lacked is = absurd (cc)
  late_by None (Some kind) is = absurd (cc)
  late_by None None is = refl

  abbrev taken_first : Option ℕ
  taken_first = find (λ r. is_some (enable_of m r)) h.regs

  pub early_ends : (outcome : HintOutcome) → early_end library m h ≡ Some outcome → IsJudged m h (tried library width m h) (Some outcome)
  early_ends outcome is = early_by taken_first (missing library (needs h)) outcome is

  pub early_none : early_end library m h ≡ None → tried library width m h ≡ by_claims width m h
  early_none is = late_by taken_first (missing library (needs h)) is

-- what claims are there
module _ (m : MachineData) (h : Hint) (good : IsMachine m) (fits : Fits m h) where
  pub idle_there : AsksThere m (question_of h Idle)
  idle_there = record { asked = idle_asked m h.terms fits.literals; nets = λ y among. (fits.nets y among).below }

  pub hold_there : (i r : ℕ) → slice_get h.regs i ≡ Some r → AsksThere m (question_of h (Hold r))
  hold_there i r at = record { asked = hold_asked m h.terms h.after r fits.literals (registers_below m h good fits r (member_at h.regs i r at)); nets = λ y among. (fits.nets y among).below }

  pub claim_there : (k : ℕ) (c : HintClaim) → slice_get (all_claims h) k ≡ Some c → AsksThere m (question_of h c)
  claim_there zero c at = let same : Idle ≡ c = cc in subst (λ (d : HintClaim). AsksThere m (question_of h d)) same idle_there
  claim_there (suc k) c at =
      let r = mapped_at Hold h.regs k c at in
      subst (λ (d : HintClaim). AsksThere m (question_of h d)) r.2 (hold_there k r.0 r.1)

-- Hints that are being tried, one after another.
use Rattle.std.proofs.Common.{◌≡◌, ℕ, suc, ◌+◌, Bool, true, false, if◌then◌else◌, List, [], ◌∷◌, ◌++◌, length, Result, Ok, Err, refl, sym, ◌∙◌, ap, subst, arith, append_assoc}
use Rattle.std.proofs.lemmas.List.{append-nil}
use Rattle.cg_cell.specs.Cell.{CellData}
use Rattle.cg_machine.specs.Machine.{IsMachine, MachineData}
use Rattle.cg_netlist.specs.declared.fault.AddFault.{AddFault}
use Rattle.cg_netlist.specs.declared.fault.AddFault.TheVariants.{Limit, NoMemory}
use Rattle.cg_hint_laws.specs.Answers.{AreAppended, AreCertified, AreShown, IsAnswer, MayFail, RegisterClaim, Reported, claims_for, turn_claims, without_bits}
use Rattle.cg_hint_laws.specs.Effects.{and_then}
use Rattle.cg_hint_laws.specs.Laws.{AllFit, HintsAreSafe, IsSafe}
use Rattle.cg_hint_laws.specs.Trying.{Hinted, Turn, after_outcome, hinted, tried, with_turn}
use Rattle.cg_hint_laws.specs.declared.certificate.HintCertificate.{HintCertificate}
use Rattle.cg_hint_laws.specs.declared.hint.Hint.{Hint}
use Rattle.cg_hint_laws.specs.declared.outcome.HintOutcome.{HintOutcome}
use Rattle.cg_hint_laws.specs.declared.outcome.HintOutcome.TheVariants.{Inserted, NeverIdle, NoCell, Refuted, Taken, Wide}
use Rattle.cg_hint_laws.proofs.AllSafe.{TurnKeeps, all_later, turn_keeps}
use Rattle.cg_hints.proofs.Appending.{appended_all}
use Rattle.cg_hints.specs.Applying.{AreApplied, kept_claims}
use Rattle.cg_hints.specs.declared.apply.Draft.{Draft}
use Rattle.cg_hints.specs.inner.Drafting.{IsStep, IsUnderway, behind_turns, drafted}

-- bits that are shown change neither the machine nor the claims
pub machine_bare : (m : MachineData) (h : Hint) (outcome : HintOutcome) → after_outcome m h outcome ≡ after_outcome m h (without_bits outcome)
machine_bare m h Inserted = refl
machine_bare m h (Taken r) = refl
machine_bare m h (NoCell kind) = refl
machine_bare m h (Wide claim n) = refl
machine_bare m h NeverIdle = refl
machine_bare m h (Refuted claim bits) = refl

claims_bare : (number : ℕ) (m : MachineData) (h : Hint) (outcome : HintOutcome) → claims_for number m h outcome ≡ claims_for number m h (without_bits outcome)
claims_bare number m h Inserted = refl
claims_bare number m h (Taken r) = refl
claims_bare number m h (NoCell kind) = refl
claims_bare number m h (Wide claim n) = refl
claims_bare number m h NeverIdle = refl
claims_bare number m h (Refuted claim bits) = refl

-- one more turn
shown_more : (turns : List Turn) (outcomes : List HintOutcome) (turn : Turn) (outcome : HintOutcome) → AreShown turns outcomes → IsAnswer turn.machine turn.hint (Ok turn.outcome) (Ok outcome)
    → AreShown (turns ++ turn ∷ []) (outcomes ++ outcome ∷ [])
shown_more [] outcomes turn outcome are is = subst (λ l. AreShown (turn ∷ []) (l ++ outcome ∷ [])) (sym are) (is, refl)
shown_more (t ∷ turns) [] turn outcome are is = absurd are
shown_more (t ∷ turns) (o ∷ outcomes) turn outcome are is = (are.0, shown_more turns outcomes turn outcome are.1 is)

shown_long : (turns : List Turn) (outcomes : List HintOutcome) → AreShown turns outcomes → length outcomes ≡ length turns
shown_long [] outcomes are = ap length are
shown_long (t ∷ turns) [] are = absurd are
shown_long (t ∷ turns) (o ∷ outcomes) are = ap suc (shown_long turns outcomes are.1)

claims_more : (number : ℕ) (turns : List Turn) (turn : Turn) → turn_claims number (turns ++ turn ∷ []) ≡ turn_claims number turns ++ claims_for (number + length turns) turn.machine turn.hint turn.outcome
claims_more number [] turn =
    let same : number ≡ number + 0 = omega arith in
    append-nil (claims_for number turn.machine turn.hint turn.outcome) ∙ ap (λ k. claims_for k turn.machine turn.hint turn.outcome) same
claims_more number (t ∷ turns) turn =
    let here : List RegisterClaim = claims_for number t.machine t.hint t.outcome in
    let same : (number + 1) + length turns ≡ number + suc (length turns) = omega arith in
    ap (λ l. here ++ l) (claims_more (number + 1) turns turn)
    ∙ (sym (append_assoc here (turn_claims (number + 1) turns) (claims_for ((number + 1) + length turns) turn.machine turn.hint turn.outcome))
    ∙ ap (λ k. (here ++ turn_claims (number + 1) turns) ++ claims_for k turn.machine turn.hint turn.outcome) same)

behind_more : (turns : List Turn) (turn : Turn) (r : Result Hinted AddFault) → behind_turns turns (and_then r (with_turn turn)) ≡ behind_turns (turns ++ turn ∷ []) r
behind_more turns turn (Err fault) = refl
behind_more turns turn (Ok done) = ap (λ l. Ok (record { machine = done.machine; turns = l })) (sym (append_assoc turns (turn ∷ []) done.turns))

behind_none : (r : Result Hinted AddFault) → r ≡ behind_turns [] r
behind_none (Ok done) = refl
behind_none (Err fault) = refl

-- the certificates of one more, where proofs are wanted
kept_more : (proof : Bool) (turns : List Turn) (turn : Turn) (before after : List HintCertificate) → AreCertified (kept_claims proof turns) before
    → AreAppended (if proof then claims_for (1 + length turns) turn.machine turn.hint turn.outcome else []) before after → AreCertified (kept_claims proof (turns ++ turn ∷ [])) after
kept_more true turns turn before after are more =
    subst (λ l. AreCertified l after) (sym (claims_more 1 turns turn)) (appended_all (turn_claims 1 turns) (claims_for (1 + length turns) turn.machine turn.hint turn.outcome) before after are more)
kept_more false turns turn before after are more = appended_all [] [] before after are more

kept_none : (proof : Bool) → kept_claims proof [] ≡ []
kept_none true = refl
kept_none false = refl

module _ (library : List CellData) (width : ℕ) (proof : Bool) (m : MachineData) (hs : List Hint) where
  -- nothing was tried yet
  pub underway_first : (d : Draft) → d.machine ≡ m → IsMachine m → AllFit m hs → d.outcomes ≡ [] → d.certificates.items ≡ [] → IsUnderway library width proof m hs hs d
  underway_first d same good fit outcomes certificates = record {
    turns = [];
    whole = behind_none (hinted library width m hs) ∙ ap (λ n. behind_turns [] (hinted library width n hs)) (sym same);
    shown = outcomes;
    certified = subst (λ l. AreCertified l d.certificates.items) (sym (kept_none proof)) certificates;
    is_machine = subst IsMachine (sym same) good;
    fit = subst (λ n. AllFit n hs) (sym same) fit;
  }

  -- one more hint
  pub underway_next : (h : Hint) (left : List Hint) (d e : Draft) → IsUnderway library width proof m hs (h ∷ left) d → IsStep library width proof h d e → IsUnderway library width proof m hs left e
  underway_next h left d e u s =
      let bare : HintOutcome = without_bits s.outcome in
      let turn : Turn = record { machine = d.machine; hint = h; outcome = bare } in
      let n : MachineData = after_outcome d.machine h bare in
      let same : e.machine ≡ n = s.machine ∙ machine_bare d.machine h s.outcome in
      let k : TurnKeeps library d.machine n = turn_keeps library width d.machine h bare u.is_machine u.fit.0 s.answer.0 in
      let number : length d.outcomes + 1 ≡ 1 + length u.turns = omega (arith, shown_long u.turns d.outcomes u.shown) in
      record {
        turns = u.turns ++ turn ∷ [];
        whole = u.whole
            ∙ (ap (λ r. behind_turns u.turns (and_then r (λ outcome. and_then (hinted library width (after_outcome d.machine h outcome) left) (with_turn (record { machine = d.machine; hint = h; outcome = outcome }))))) s.answer.0
            ∙ (behind_more u.turns turn (hinted library width n left)
            ∙ ap (λ o. behind_turns (u.turns ++ turn ∷ []) (hinted library width o left)) (sym same)));
        shown = subst (AreShown (u.turns ++ turn ∷ [])) (sym s.outcomes) (shown_more u.turns d.outcomes turn s.outcome u.shown (refl, s.answer.1));
        certified = kept_more proof u.turns turn d.certificates.items e.certificates.items u.certified
            (subst (λ l. AreAppended (if proof then l else []) d.certificates.items e.certificates.items)
            (ap (λ k. claims_for k d.machine h s.outcome) number ∙ claims_bare (1 + length u.turns) d.machine h s.outcome) s.certificates);
        is_machine = subst IsMachine (sym same) k.safe.is_machine;
        fit = subst (λ o. AllFit o left) (sym same) (all_later library d.machine n left k u.fit.1);
      }

  -- none is left
  pub underway_end : (d : Draft) → IsUnderway library width proof m hs [] d → AreApplied library width proof m hs (drafted d)
  underway_end d u = record {
    done = record { machine = d.machine; turns = u.turns };
    tried = u.whole ∙ ap (λ l. Ok (record { machine = d.machine; turns = l })) (append-nil u.turns);
    machine = refl;
    outcomes = u.shown;
    certificates = u.certified;
  }

  -- one is refused
  pub underway_fails : (h : Hint) (left : List Hint) (d : Draft) (fault : AddFault) → IsUnderway library width proof m hs (h ∷ left) d → MayFail (tried library width d.machine h) fault
      → MayFail (hinted library width m hs) fault
  underway_fails h left d NoMemory u may = tt
  underway_fails h left d (Limit limit) u may =
      u.whole ∙ ap (λ r. behind_turns u.turns (and_then r (λ outcome. and_then (hinted library width (after_outcome d.machine h outcome) left) (with_turn (record { machine = d.machine; hint = h; outcome = outcome }))))) may

-- hints that were tried leave a safe machine
pub applied_safe : HintsAreSafe → (library : List CellData) (width : ℕ) (proof : Bool) (m : MachineData) (hs : List Hint) (r : Reported) → IsMachine m → AllFit m hs → AreApplied library width proof m hs r → IsSafe library m r.machine
applied_safe law library width proof m hs r good fit t = subst (IsSafe library m) (sym t.machine) (law library width m hs t.done good fit t.tried).safe

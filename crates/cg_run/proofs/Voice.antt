-- How a run ended, by its closing.
use Rattle.std.proofs.Common.{◌≡◌, ℕ, IsTrue, List, [], ◌∷◌, ◌++◌, Result, Ok, Err, refl, sym, ◌∙◌, ap, subst, append-nil}
use Rattle.cg_shelf.specs.World.{World}
use Rattle.cg_shelf.specs.Asked.{Calls, Complained}
use Rattle.cg_shelf.specs.Shelf.{Appends, call_faults}
use Rattle.cg_shelf.specs.declared.faults.Call.TheVariants as calls
use Rattle.cg_shelf.specs.declared.faults.StoreFault.{StoreFault}
use Rattle.cg_run.specs.declared.writing.Finish.{Finish}
use Rattle.cg_run.specs.declared.refusal.Refusal.{Refusal}
use Rattle.cg_run.specs.declared.role.Role.{Role}
use Rattle.cg_run.specs.declared.status.Status.{Status}
use Rattle.cg_run.specs.Refusal.{complaint_text, outcome_faults, shown_as}
use Rattle.cg_run.specs.Run.{Closes, Ends}
use Rattle.cg_run.proofs.ReadHalf.{tells_on}

-- the call to complain
pub complaint_by : (names : Role → List ℕ) (outcome : Result Finish Refusal) (between after : World) (result : Status) → Closes names outcome between after result → Calls
complaint_by names (Ok finish) between after result closes = []
complaint_by names (Err refusal) between after result closes = Complained (complaint_text names (shown_as closes.has_line refusal)) closes.complains.answer ∷ []

pub complained_once : (names : Role → List ℕ) (outcome : Result Finish Refusal) (between after : World) (result : Status) (closes : Closes names outcome between after result)
    → after.calls ≡ between.calls ++ complaint_by names outcome between after result closes
unfolding complaint_by
complained_once names (Ok finish) between after result closes = ap (λ w. w.calls) closes.1 ∙ sym (append-nil between.calls)
complained_once names (Err refusal) between after result closes = closes.complains.listed

appends_since : (answer : Result (Unit {0}) StoreFault) (before between after line : List ℕ) → between ≡ before → Appends between after line answer → Appends before after line answer
appends_since answer before between after line same h = let P : List ℕ → Type 0 = λ b. Appends b after line answer in subst P same h

pub ended : (names : Role → List ℕ) (outcome : Result Finish Refusal) (before between after : World) (result : Status) → between.tells ≡ before.tells → (IsTrue before.tells → between.complained ≡ before.complained)
    → between.faults ≡ before.faults ++ outcome_faults names outcome → (closes : Closes names outcome between after result) → Ends names outcome (complaint_by names outcome between after result closes) before after result
unfolding complaint_by
ended names (Ok finish) before between after result tells quiet faults closes = record {
  made = refl;
  status = closes.0;
  complained = λ t. ap (λ w. w.complained) closes.1 ∙ quiet t;
  failed = ap (λ w. w.faults) closes.1 ∙ faults ∙ append-nil before.faults;
}
ended names (Err refusal) before between after result tells quiet faults closes = record {
  has_line = closes.has_line;
  is_there = closes.is_there;
  answer = closes.complains.answer;
  made = refl;
  status = closes.complains.ends;
  complained = λ t.
      appends_since closes.complains.answer before.complained between.complained after.complained (complaint_text names (shown_as closes.has_line refusal)) (quiet t)
      (closes.complains.complained (tells_on before.tells between.tells tells t));
  failed = closes.complains.failed ∙ ap (λ f. f ++ call_faults calls.Complain [] closes.complains.answer) faults;
}

-- the complaint changed nothing of what stands
pub same_held : (names : Role → List ℕ) (outcome : Result Finish Refusal) (between after : World) (result : Status) → Closes names outcome between after result → IsTrue between.tells → after.held ≡ between.held
same_held names (Ok finish) between after result closes t = ap (λ w. w.held) closes.1
same_held names (Err refusal) between after result closes t = closes.complains.same_held t

pub same_said : (names : Role → List ℕ) (outcome : Result Finish Refusal) (between after : World) (result : Status) → Closes names outcome between after result → IsTrue between.tells → after.said ≡ between.said
same_said names (Ok finish) between after result closes t = ap (λ w. w.said) closes.1
same_said names (Err refusal) between after result closes t = closes.complains.same_said t

pub same_tells : (names : Role → List ℕ) (outcome : Result Finish Refusal) (between after : World) (result : Status) → Closes names outcome between after result → after.tells ≡ between.tells
same_tells names (Ok finish) between after result closes = ap (λ w. w.tells) closes.1
same_tells names (Err refusal) between after result closes = closes.complains.tells

-- The end of a run, from its complaint.
use Rattle.std.proofs.Common.{◌≡◌, ◌≤◌, ◌<◌, ℕ, true, false, List, length, refl, subst, arith}
use Rattle.std.specs.Prelude.{IfErr, Ok, Err, Result, codes}
use Rattle.cg_shelf.specs.World.{World}
use Rattle.cg_run.specs.declared.refusal.Refusal.{Refusal}
use Rattle.cg_run.specs.declared.refusal.Refusal.TheVariants as refusals
use Rattle.cg_run.specs.declared.role.Role.{Role}
use Rattle.cg_run.specs.declared.status.Status.{Status}
use Rattle.cg_run.specs.declared.status.Status.TheVariants as statuses
use Rattle.cg_run.specs.Refusal.{HasLine, HasRoom, complaint_line, complaint_text, status_of}
use Rattle.cg_run.specs.Run.{Complains, Refuses, Tries}
use Rattle.cg_run.specs.declared.writing.Output.{Output}

-- one line complained, as that of another text and status
pub complains_as : {line : List ℕ} {status : Status} (text : List ℕ) (other : Status) (before after : World) (result : Status) → line ≡ text → status ≡ other → Complains line status before after result → Complains text other before after result
complains_as {line} {status} text other before after result same ends complains =
    let P : List ℕ → Type 0 = λ l. Complains l other before after result in
    let Q : Status → Type 0 = λ s. Complains line s before after result in
    subst P same (subst Q ends complains)

own_line : (refusal : Refusal) → HasLine refusal true
own_line (refusals.Content content) = tt
own_line (refusals.Limit limit) = refl
own_line (refusals.Load role) = refl
own_line (refusals.Store role) = refl
own_line refusals.Say = refl
own_line (refusals.NoMemory step) = refl

-- its own line is complained
pub refuses_so : (names : Role → List ℕ) (refusal : Refusal) (before after : World) (result : Status) → Complains (complaint_text names refusal) (status_of refusal) before after result → Refuses names refusal before after result
refuses_so names refusal before after result complains = record { has_line = true; is_there = own_line refusal; complains = complains }

-- that of want of memory is, in its place, where the room was not enough
too_short : (room n : ℕ) → n ≤ room → room < n → ⊥
too_short room n has short = omega (arith, has, short)

short_line : (names : Role → List ℕ) (room : ℕ) (refusal : Refusal) → HasRoom names room refusal → room < length (complaint_text names refusal) → HasLine refusal false
short_line names room (refusals.Content content) has short = tt
short_line names room (refusals.Limit limit) has short = absurd (too_short room _ has short)
short_line names room (refusals.Load role) has short = absurd (too_short room _ has short)
short_line names room (refusals.Store role) has short = absurd (too_short room _ has short)
short_line names room refusals.Say has short = absurd (too_short room _ has short)
short_line names room (refusals.NoMemory step) has short = absurd (too_short room _ has short)

pub refuses_short : (names : Role → List ℕ) (refusal : Refusal) (room : ℕ) (before after : World) (result : Status) → HasRoom names room refusal → room < length (complaint_text names refusal)
    → Complains (complaint_line (codes "no memory")) statuses.NoMemory before after result → Refuses names refusal before after result
refuses_short names refusal room before after result has short complains = record {
  has_line = false;
  is_there = short_line names room refusal has short;
  complains = complains;
}

-- a refusal that reading came to is the one that is complained of, as it is where its line has room
pub complained_so : (names : Role → List ℕ) (room : ℕ) (found : Result Output Refusal) (refusal : Refusal) (before between after : World) (result : Status) → Tries names found before between (Err refusal)
    → (length (complaint_text names refusal) ≤ room → Complains (complaint_text names refusal) (status_of refusal) between after result)
    → IfErr found (λ r. length (complaint_text names r) ≤ room → Complains (complaint_text names r) (status_of r) before after result)
complained_so names room (Ok output) refusal before between after result tries own = tt
complained_so names room (Err found) refusal before between after result tries own =
    let same : refusal ≡ found = cc in
    let C : Refusal → World → Type 0 = λ r w. length (complaint_text names r) ≤ room → Complains (complaint_text names r) (status_of r) w after result in
    subst (C found) tries.1 (subst (λ r. C r between) same own)

-- A run of its two halves, with what finishes what was found between them.
use Rattle.std.proofs.Common.{◌≡◌, ℕ, List, [], ◌∷◌, ◌++◌, Option, Result, Ok, Err, refl, sym, ◌∙◌, ap, subst}
use Rattle.std.specs.Prelude.{IsOkAnd}
use Rattle.cg_shelf.specs.World.{World}
use Rattle.cg_run.specs.declared.writing.Finish.{Finish}
use Rattle.cg_run.specs.declared.writing.Output.{Output}
use Rattle.cg_run.specs.declared.refusal.Refusal.{Refusal}
use Rattle.cg_run.specs.declared.refusal.Trouble.{Trouble}
use Rattle.cg_run.specs.declared.refusal.Trouble.TheVariants as troubles
use Rattle.cg_run.specs.declared.role.Role.{Role}
use Rattle.cg_run.specs.declared.status.Status.{Status}
use Rattle.cg_run.specs.Reads.{Collects, Reads}
use Rattle.cg_run.specs.Run.{PutsOut, Runs, Tries, finished_as}
use Rattle.cg_run.specs.inner.Steps.{Attempts}
use Rattle.cg_run.specs.Verdict.{Comes, Concludes, Given, Halts, asked, reached, refusal_in, stopped, taken, task_of, troubled, unstopped}
use Rattle.cg_run.specs.Verdict.{◌>>=◌}
use Rattle.cg_run.specs.Writes.{Writes}
use Rattle.cg_run.proofs.Attempted.{attempts_unread, attempts_unwritten, attempts_written}
use Rattle.cg_run.proofs.Named.{load_named}
use Rattle.cg_run.proofs.ReadHalf.{ends_through, halts_bind, trouble_faults}
use Rattle.cg_run.proofs.RoleLaws.{bind_same}
use Rattle.cg_run.proofs.Whole.{runs_closed}

bind_twice : {A B C : Type 0} (v : Result A Refusal) (f : A → Result B Refusal) (g : B → Result C Refusal) → ((v >>= f) >>= g) ≡ (v >>= λ x. f x >>= g)
bind_twice (Ok x) f g = refl
bind_twice (Err refusal) f g = refl

-- what stops a mode comes once all files are taken
reached_then : {M : Type 0} (takes : M → Role → List ℕ → Result M Trouble) (stops : M → Option Trouble) (state : M) (loads : List Role) (given : Given)
    → reached takes stops state loads given ≡ (reached takes unstopped state loads given >>= λ end. stopped (stops end) end)
reached_then takes stops state [] given = refl
reached_then takes stops state (role ∷ rest) given =
    bind_same (taken takes state role (given role)) (λ next. reached takes stops next rest given) (λ next. reached takes unstopped next rest given >>= λ end. stopped (stops end) end)
    (λ next. reached_then takes stops next rest given)
    ∙ sym (bind_twice (taken takes state role (given role)) (λ next. reached takes unstopped next rest given) (λ end. stopped (stops end) end))

pub found_is : {M : Type 0} (v : Result M Refusal) (found : M) → IsOkAnd v (λ end. end ≡ found) → v ≡ Ok found
found_is (Ok end) found same = ap Ok same
found_is (Err refusal) found same = absurd same

concluded : {M : Type 0} (stops : Option Trouble) (gives : M → Output → Type 0) (state : M) (answer : Result Output Trouble) → Concludes stops (gives state) answer → Comes gives (stopped stops state) (troubled answer)
concluded stops gives state (Ok output) h = rw h.0 h.1
concluded stops gives state (Err (troubles.Content content)) h = ap (λ s. refusal_in (stopped s state)) h
concluded stops gives state (Err (troubles.Limit limit)) h = ap (λ s. refusal_in (stopped s state)) h
concluded stops gives state (Err troubles.NoMemory) h = refl

module _ {M : Type 0} (takes : M → Role → List ℕ → Result M Trouble) (stops : M → Option Trouble) (gives : M → Output → Type 0) (names : Role → List ℕ) (state : M) (loads : List Role) (before middle : World) where
  -- the files were refused
  pub reads_refused : (refusal : Refusal) → Collects takes names state loads before middle (Err refusal) → Reads {T = Output} takes stops gives names state loads before middle (Err refusal)
  reads_refused refusal collects =
      let V : Result M Refusal → Type 0 = λ v. Halts (refusal_in v) refusal in
      record {
        given = collects.given;
        told = collects.told;
        cause = subst V (sym (reached_then takes stops state loads collects.given)) (halts_bind (reached takes unstopped state loads collects.given) (λ end. stopped (stops end) end) refusal collects.cause);
        unloaded = collects.unloaded;
        listed = collects.listed;
        untouched = collects.untouched;
        quiet = collects.quiet;
        tells = collects.tells;
        failed = collects.failed;
      }

  -- the files were taken, and what was found was finished
  pub reads_concluded : (found : M) (answer : Result Output Trouble) → Collects takes names state loads before middle (Ok found) → Concludes (stops found) (gives found) answer
      → Reads takes stops gives names state loads before middle (troubled answer)
  reads_concluded found answer collects concludes =
      let whole : reached takes stops state loads collects.given ≡ stopped (stops found) found =
      reached_then takes stops state loads collects.given ∙ ap (λ v. v >>= λ end. stopped (stops end) end) (found_is (reached takes unstopped state loads collects.given) found collects.cause) in
      let V : Result M Refusal → Type 0 = λ v. Comes gives v (troubled answer) in
      record {
        given = collects.given;
        told = collects.told;
        cause = subst V (sym whole) (concluded (stops found) gives found answer concludes);
        unloaded = ends_through {T = M} {U = Output} (asked takes state loads collects.given) (Ok found) (troubled answer) (λ other none. absurd none) collects.unloaded;
        listed = collects.listed;
        untouched = collects.untouched;
        quiet = collects.quiet;
        tells = collects.tells;
        failed = collects.failed ∙ ap (λ f. before.faults ++ f) (sym (trouble_faults names answer));
      }

  wrote : (output : Output) (after : World) (answer : Result (Unit {0}) Refusal) → Reads takes stops gives names state loads before middle (Ok output) → Writes names output middle after answer
      → Attempts (task_of takes stops gives state loads) names before after (finished_as output answer)
  wrote output after (Ok x) reads writes = attempts_written takes stops gives names state loads before middle output after x reads writes
  wrote output after (Err refusal) reads writes = attempts_unwritten takes stops gives names state loads before middle output after refusal reads writes

  tried : (found : Result Output Refusal) (after : World) (outcome : Result Finish Refusal) → Reads takes stops gives names state loads before middle found → Tries names found middle after outcome
      → Attempts (task_of takes stops gives state loads) names before after outcome
  tried (Err refusal) after outcome reads tries =
      let A : World → Type 0 = λ w. Attempts (task_of takes stops gives state loads) names before w outcome in
      let O : Result Finish Refusal → Type 0 = λ o. Attempts (task_of takes stops gives state loads) names before middle o in
      subst A (sym tries.1) (subst O (sym tries.0) (attempts_unread takes stops gives names state loads before middle refusal reads))
  tried (Ok output) after outcome reads writes =
      let O : Result Finish Refusal → Type 0 = λ o. Attempts (task_of takes stops gives state loads) names before after o in
      subst O (sym writes.is) (wrote output after writes.answer reads writes.writes)

  -- reading came to this, and it was put out: that is a run
  pub runs_of_halves : (found : Result Output Refusal) (after : World) (result : Status) → Reads takes stops gives names state loads before middle found → PutsOut names found middle after result
      → Runs (task_of takes stops gives state loads) names before after result
  runs_of_halves found after result reads puts =
      runs_closed (task_of takes stops gives state loads) names puts.outcome before puts.between after result (load_named takes stops state loads) (tried found puts.between puts.outcome reads puts.tries) puts.closes

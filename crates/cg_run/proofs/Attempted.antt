-- A run up to its complaint, from its two halves.
use Rattle.std.proofs.Common.{◌≡◌, ℕ, List, [], ◌++◌, Option, None, Some, Result, Ok, Err, refl, sym, ◌∙◌, ap, subst, append-nil}
use Rattle.std.specs.Prelude.{IsOkAnd}
use Rattle.cg_shelf.specs.World.{World}
use Rattle.cg_shelf.specs.Shelf.{AppendsFront}
use Rattle.cg_shelf.specs.Asked.{Calls}
use Rattle.cg_shelf.specs.declared.faults.StoreFault.{StoreFault}
use Rattle.cg_run.specs.declared.writing.Finish.{Finish}
use Rattle.cg_run.specs.declared.writing.Output.{Output}
use Rattle.cg_run.specs.declared.refusal.Refusal.{Refusal}
use Rattle.cg_run.specs.declared.refusal.Refusal.TheVariants as refusals
use Rattle.cg_run.specs.declared.refusal.Step.{Step}
use Rattle.cg_run.specs.declared.refusal.Step.TheVariants as steps
use Rattle.cg_run.specs.declared.refusal.Trouble.{Trouble}
use Rattle.cg_run.specs.declared.role.Role.{Role}
use Rattle.cg_run.specs.Refusal.{outcome_faults, step_of, write_fault}
use Rattle.cg_run.specs.Reads.{Reads, Untouched, load_calls}
use Rattle.cg_run.specs.Run.{CauseAt, MadeAt, StandsAt}
use Rattle.cg_run.specs.inner.Steps.{Attempts}
use Rattle.cg_run.specs.Verdict.{ComesTo, Given, Halts, asked, reached, refusal_in, task_of}
use Rattle.cg_run.specs.Writes.{CallsAt, HasStep, LeavesAt, Writes, Written, puts}
use Rattle.cg_run.proofs.ReadHalf.{ends_through, faults_join, tells_on, untouched_twice}

-- what stands, from a moment before at which the same was held and said
written_since : (names : Role → List ℕ) (output : Output) (before middle after : World) → Untouched before middle → Written names output middle after → Written names output before after
written_since names output before middle after same w = record {
  held = λ name. w.held name ∙ ap (λ h. puts names output.stores h name) same.held;
  said = w.said ∙ ap (λ s. s ++ output.said) same.said;
}

leaves_since : (names : Role → List ℕ) (output : Output) (step : Step) (before middle after : World) → Untouched before middle → LeavesAt names output step middle after → LeavesAt names output step before after
leaves_since names output steps.Reading before middle after same w = untouched_twice before middle after same w
leaves_since names output (steps.Storing role) before middle after same w = record {
  done = w.done;
  here = w.here;
  rest = w.rest;
  parts = w.parts;
  is = w.is;
  held = λ name apart. w.held name apart ∙ ap (λ h. puts names w.done h name) same.held;
  said = w.said ∙ same.said;
}
leaves_since names output steps.Saying before middle after same w = record {
  held = λ name. w.held name ∙ ap (λ h. puts names output.stores h name) same.held;
  said = let P : List ℕ → Type 0 = λ s. AppendsFront s after.said output.said in subst P same.said w.said;
}

-- what stands and was called once an output was begun
write_cause : (refused : Option Refusal) (output : Output) (refusal : Refusal) (step : Step) → HasStep output step → CauseAt refused (Some output) refusal step
write_cause refused output refusal steps.Reading has = absurd has
write_cause refused output refusal (steps.Storing role) has = has
write_cause refused output refusal steps.Saying has = has

write_stands : (names : Role → List ℕ) (output : Output) (step : Step) (before after : World) → HasStep output step → LeavesAt names output step before after → StandsAt names (Some output) step before after
write_stands names output steps.Reading before after has leaves = absurd has
write_stands names output (steps.Storing role) before after has leaves = leaves
write_stands names output steps.Saying before after has leaves = leaves

write_made : (names : Role → List ℕ) (output : Output) (step : Step) (fault : StoreFault) (made : Calls) → HasStep output step → CallsAt names output step fault made → MadeAt names (Some output) step fault made
write_made names output steps.Reading fault made has by = absurd has
write_made names output (steps.Storing role) fault made has by = by
write_made names output steps.Saying fault made has by = by

-- the reading half is refused before the first write
refused_reading : (refused : Option Refusal) (refusal : Refusal) → Halts refused refusal → step_of refusal ≡ steps.Reading
refused_reading refused (refusals.Content content) halts = refl
refused_reading refused (refusals.Limit limit) halts = refl
refused_reading refused (refusals.Load role) halts = refl
refused_reading refused (refusals.Store role) halts = absurd halts
refused_reading refused refusals.Say halts = absurd halts
refused_reading refused (refusals.NoMemory step) halts = halts

-- where there is an output, nothing is refused
unrefused : {M : Type 0} (gives : M → Output → Type 0) (v : Result M Refusal) (output : Output) → IsOkAnd v (λ found. gives found output) → refusal_in v ≡ None
unrefused gives (Ok found) output h = refl
unrefused gives (Err refusal) output h = absurd h

module _ {M : Type 0} (takes : M → Role → List ℕ → Result M Trouble) (stops : M → Option Trouble) (gives : M → Output → Type 0) (names : Role → List ℕ) (state : M) (files : List Role) (before middle : World) where
  comes_to : (given : Given) (output : Output) → IsOkAnd (reached takes stops state files given) (λ found. gives found output) → ComesTo (task_of takes stops gives state files) given output
  comes_to given output h = record { unrefused = unrefused gives (reached takes stops state files given) output h; comes = h }

  -- the files are refused
  pub attempts_unread : (refusal : Refusal) → Reads takes stops gives names state files before middle (Err refusal) → Attempts (task_of takes stops gives state files) names before middle (Err refusal)
  attempts_unread refusal reads =
      let refused = refusal_in (reached takes stops state files reads.given) in
      let step : step_of refusal ≡ steps.Reading = refused_reading refused refusal reads.cause in
      let C : Step → Type 0 = λ s. CauseAt refused None refusal s in
      let L : Step → Type 0 = λ s. StandsAt names None s before middle in
      let D : Step → Type 0 = λ s. MadeAt names None s (write_fault refusal) [] in
      record {
        given = reads.given;
        told = reads.told;
        out = None;
        comes = tt;
        cause = subst C (sym step) reads.cause;
        unloaded = reads.unloaded;
        leaves = λ t. subst L (sym step) (reads.untouched t);
        writes = [];
        made = subst D (sym step) refl;
        listed = reads.listed ∙ sym (append-nil (before.calls ++ load_calls names (asked takes state files reads.given)));
        quiet = reads.quiet;
        tells = reads.tells;
        failed = reads.failed;
      }

  calls_joined : (after : World) (loaded made : Calls) → middle.calls ≡ before.calls ++ loaded → after.calls ≡ middle.calls ++ made → after.calls ≡ before.calls ++ loaded ++ made
  calls_joined after loaded made first second = second ∙ ap (λ l. l ++ made) first

  -- a write is refused
  pub attempts_unwritten : {T : Type 0} (output : Output) (after : World) (refusal : Refusal) → Reads takes stops gives names state files before middle (Ok output) → Writes {T = T} names output middle after (Err refusal)
      → Attempts (task_of takes stops gives state files) names before after (Err refusal)
  attempts_unwritten output after refusal reads writes = record {
    given = reads.given;
    told = reads.told;
    out = Some output;
    comes = comes_to reads.given output reads.cause;
    cause = write_cause (refusal_in (reached takes stops state files reads.given)) output refusal (step_of refusal) writes.refused;
    unloaded = ends_through {T = Output} {U = Finish} (asked takes state files reads.given) (Ok output) (Err refusal) (λ other none. absurd none) reads.unloaded;
    leaves = λ t. write_stands names output (step_of refusal) before after writes.refused
        (leaves_since names output (step_of refusal) before middle after (reads.untouched t) (writes.leaves (tells_on before.tells middle.tells reads.tells t)));
    writes = writes.made;
    made = write_made names output (step_of refusal) (write_fault refusal) writes.made writes.refused writes.by;
    listed = calls_joined after (load_calls names (asked takes state files reads.given)) writes.made reads.listed writes.listed;
    quiet = λ t. writes.quiet (tells_on before.tells middle.tells reads.tells t) ∙ reads.quiet t;
    tells = writes.tells ∙ reads.tells;
    failed = faults_join before.faults middle.faults after.faults (outcome_faults {T = Finish} names (Err refusal)) reads.failed writes.failed;
  }

  -- all is written
  pub attempts_written : {T : Type 0} (output : Output) (after : World) (x : T) → Reads takes stops gives names state files before middle (Ok output) → Writes names output middle after (Ok x)
      → Attempts (task_of takes stops gives state files) names before after (Ok output.finish)
  attempts_written output after x reads writes = record {
    given = reads.given;
    told = reads.told;
    out = Some output;
    comes = comes_to reads.given output reads.cause;
    cause = refl;
    unloaded = ends_through {T = Output} {U = Finish} (asked takes state files reads.given) (Ok output) (Ok output.finish) (λ other none. absurd none) reads.unloaded;
    leaves = λ t. written_since names output before middle after (reads.untouched t) (writes.leaves (tells_on before.tells middle.tells reads.tells t));
    writes = writes.made;
    made = writes.by;
    listed = calls_joined after (load_calls names (asked takes state files reads.given)) writes.made reads.listed writes.listed;
    quiet = λ t. writes.quiet (tells_on before.tells middle.tells reads.tells t) ∙ reads.quiet t;
    tells = writes.tells ∙ reads.tells;
    failed = faults_join before.faults middle.faults after.faults [] reads.failed writes.failed;
  }

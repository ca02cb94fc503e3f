-- Names that are not stored keep what they held.
use Rattle.std.proofs.Common.{◌≡◌, ◌≢◌, ℕ, Bool, true, false, ◌||◌, IsTrue, List, [], ◌∷◌, ◌++◌, Option, None, Some, Result, Ok}
use Rattle.std.proofs.Common.{Err, refl, sym, ◌∙◌, ap, subst, if◌then◌else◌}
use Rattle.std.specs.Prelude.{IfSome, IsSomeAnd}
use Rattle.std.specs.Str.{bytes_eq}
use Rattle.std.proofs.lemmas.Slice.Eq.{bytes_eq-Decides}
use Rattle.cg_shelf.specs.World.{World}
use Rattle.cg_run.specs.declared.writing.Finish.{Finish}
use Rattle.cg_run.specs.declared.writing.Output.{Output}
use Rattle.cg_run.specs.declared.writing.Text.{Text}
use Rattle.cg_run.specs.declared.refusal.Refusal.{Refusal}
use Rattle.cg_run.specs.declared.refusal.Step.{Step}
use Rattle.cg_run.specs.declared.refusal.Step.TheVariants as steps
use Rattle.cg_run.specs.declared.role.Role.{Role}
use Rattle.cg_run.specs.declared.status.Status.{Status}
use Rattle.cg_run.specs.Refusal.{step_of}
use Rattle.cg_run.specs.Roles.{is_role}
use Rattle.cg_run.specs.Run.{Cause, CauseAt, Leaves, Runs, StandsAt}
use Rattle.cg_run.specs.Writes.{HasStep, LeavesAt, OpenAt, Written, is_stored, put_under, puts}
use Rattle.cg_run.specs.Promise.{IsApart, KeepsOthers}
use Rattle.cg_run.specs.Verdict.{ComesTo, Given, Task}
use Rattle.cg_run.proofs.RoleLaws.{is_its_role}
use Rattle.cg_run.proofs.WriteHalf.{or_left, or_right}

put_kept : (held : List ℕ → Option (List ℕ)) (name bytes other : List ℕ) (same : Bool) → bytes_eq other name ≡ same → other ≢ name → (if same then Some bytes else held other) ≡ held other
put_kept held name bytes other true is apart = absurd (apart ((bytes_eq-Decides other name).0 is))
put_kept held name bytes other false is apart = refl

pub puts_kept : (names : Role → List ℕ) (texts : List Text) (held : List ℕ → Option (List ℕ)) (name : List ℕ) → ((role : Role) → IsTrue (is_stored role texts) → name ≢ names role) → puts names texts held name ≡ held name
puts_kept names [] held name apart = refl
puts_kept names (text ∷ rest) held name apart =
    puts_kept names rest (put_under held (names text.role) text.bytes) name (λ role h. apart role (or_right (is_role text.role role) (is_stored role rest) h))
    ∙ put_kept held (names text.role) text.bytes name (bytes_eq name (names text.role)) refl (apart text.role (or_left (is_role text.role text.role) (is_stored text.role rest) (is_its_role text.role)))

or_either : (a b c : Bool) → (IsTrue b → IsTrue c) → IsTrue (a || b) → IsTrue (a || c)
or_either true b c step h = refl
or_either false b c step h = step h

stored_front : (role : Role) (done rest : List Text) → IsTrue (is_stored role done) → IsTrue (is_stored role (done ++ rest))
stored_front role [] rest h = cc
stored_front role (text ∷ done) rest h = or_either (is_role text.role role) (is_stored role done) (is_stored role (done ++ rest)) (stored_front role done rest) h

open_kept : (names : Role → List ℕ) (texts : List Text) (role : Role) (before after : World) (name : List ℕ) → IsTrue (is_stored role texts) → ((r : Role) → IsTrue (is_stored r texts) → name ≢ names r) → OpenAt names texts role before after → after.held name ≡ before.held name
open_kept names texts role before after name among apart o =
    let P : List Text → Role → Type 0 = λ l r. IsTrue (is_stored r l) in
    o.held name (apart role among)
    ∙ puts_kept names o.done before.held name (λ r h. apart r (let Q : List Text → Type 0 = λ l. IsTrue (is_stored r l) in subst Q (sym o.parts) (stored_front r o.done (o.here ∷ o.rest) h)))

step_kept : (names : Role → List ℕ) (output : Output) (step : Step) (before after : World) (name : List ℕ) → ((r : Role) → IsTrue (is_stored r output.stores) → name ≢ names r) → HasStep output step → LeavesAt names output step before after → after.held name ≡ before.held name
step_kept names output steps.Reading before after name apart has leaves = absurd has
step_kept names output (steps.Storing role) before after name apart has leaves = open_kept names output.stores role before after name has apart leaves
step_kept names output steps.Saying before after name apart has leaves = leaves.held name ∙ puts_kept names output.stores before.held name apart

some_kept : (names : Role → List ℕ) (out : Option Output) (step : Step) (before after : World) (name : List ℕ) → IfSome out (λ o. IsApart names o name) → IsSomeAnd out (λ o. HasStep o step) → IsSomeAnd out (λ o. LeavesAt names o step before after) → after.held name ≡ before.held name
some_kept names (Some output) step before after name apart has leaves = step_kept names output step before after name apart has leaves
some_kept names None step before after name apart has leaves = absurd has

at_kept : (refused : Option Refusal) (names : Role → List ℕ) (out : Option Output) (refusal : Refusal) (step : Step) (before after : World) (name : List ℕ) → IfSome out (λ o. IsApart names o name) → CauseAt refused out refusal step → StandsAt names out step before after → after.held name ≡ before.held name
at_kept refused names out refusal steps.Reading before after name apart cause stands = ap (λ h. h name) stands.held
at_kept refused names out refusal (steps.Storing role) before after name apart cause stands = some_kept names out (steps.Storing role) before after name apart cause stands
at_kept refused names out refusal steps.Saying before after name apart cause stands = some_kept names out steps.Saying before after name apart cause stands

all_kept : (names : Role → List ℕ) (out : Option Output) (before after : World) (name : List ℕ) → IfSome out (λ o. IsApart names o name) → IsSomeAnd out (λ o. Written names o before after) → after.held name ≡ before.held name
all_kept names (Some output) before after name apart w = w.held name ∙ puts_kept names output.stores before.held name apart
all_kept names None before after name apart w = absurd w

outcome_kept : (refused : Option Refusal) (names : Role → List ℕ) (out : Option Output) (outcome : Result Finish Refusal) (before after : World) (name : List ℕ) → IfSome out (λ o. IsApart names o name) → Cause refused out outcome → Leaves names out before after outcome → after.held name ≡ before.held name
outcome_kept refused names out (Ok finish) before after name apart cause leaves = all_kept names out before after name apart leaves
outcome_kept refused names out (Err refusal) before after name apart cause leaves = at_kept refused names out refusal (step_of refusal) before after name apart cause leaves

-- a name that is apart from every output to which the files come
apart_from : (task : Task) (names : Role → List ℕ) (name : List ℕ) (given : Given) (out : Option Output) → ((output : Output) → ComesTo task given output → IsApart names output name) → IfSome out (ComesTo task given) → IfSome out (λ o. IsApart names o name)
apart_from task names name given (Some output) each comes = each output comes
apart_from task names name given None each comes = tt

pub others : (task : Task) (names : Role → List ℕ) (before after : World) (result : Status) → Runs task names before after result → IsTrue before.tells → KeepsOthers task names before after
others task names before after result runs t name apart =
    outcome_kept (task.refused runs.given) names runs.out runs.outcome before after name (apart_from task names name runs.given runs.out (apart runs.given) runs.comes) runs.cause (runs.leaves t)

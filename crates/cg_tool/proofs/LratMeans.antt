-- What a finished check means, from what its files come to.
use Rattle.std.proofs.Common.{◌≡◌, ℕ, List, [], ◌∷◌, ◌++◌, Option, Some, refl, sym, ◌∙◌, ap, subst}
use Rattle.std.specs.Prelude.{IsSomeAnd}
use Rattle.cg_formula.specs.DimacsText.{DimacsText}
use Rattle.cg_formula.specs.Satisfiable.{IsUnsatisfiable}
use Rattle.cg_formula.specs.declared.formula.Formula.{Formula}
use Rattle.cg_lrat.specs.Accepted.{verdict}
use Rattle.cg_lrat.specs.LratText.{LratText}
use Rattle.cg_lrat.specs.declared.log.Log.{Log}
use Rattle.cg_lrat.specs.declared.verdict.Verdict.{Verdict}
use Rattle.cg_lrat.specs.declared.verdict.Verdict.TheVariants as verdicts
use Rattle.cg_lrat.proofs.Sound.{accepted_unsatisfiable}
use Rattle.cg_shelf.specs.World.{World}
use Rattle.cg_run.specs.declared.writing.Finish.{Finish}
use Rattle.cg_run.specs.declared.writing.Finish.TheVariants as finishes
use Rattle.cg_run.specs.declared.writing.Output.{Output}
use Rattle.cg_run.specs.declared.role.Role.{Role}
use Rattle.cg_run.specs.declared.role.Role.TheVariants as roles
use Rattle.cg_run.specs.Writes.{Written, puts}
use Rattle.cg_run.proofs.Finished.{Finishes}
use Rattle.cg_run.proofs.Steps.{came, found_ok, held_so, step_end, step_of}
use Rattle.cg_source.specs.Formula.{formula_found}
use Rattle.cg_source.specs.Log.{log_found}
use Rattle.cg_source.proofs.Texts.{formula_says, log_says}
use Rattle.cg_tool.specs.Lrat.{IsChecked, check_finish, check_output, lrat_gives, lrat_start, lrat_stops, lrat_takes, lrat_task}
use Rattle.cg_tool.specs.declared.modes.lrat.Lrat.{Lrat}

pub some_and : (held : Option (List ℕ)) (bytes : List ℕ) (P : List ℕ → Type 0) → held ≡ Some bytes → P bytes → IsSomeAnd held P
some_and held bytes P is h = let Q : Option (List ℕ) → Type 0 = λ o. IsSomeAnd o P in subst Q (sym is) h

sound_of : (formula : Formula) (log : Log) (v : Verdict) → verdict formula log ≡ v → check_finish v ≡ finishes.Done → IsUnsatisfiable formula
sound_of formula log verdicts.Accepted is done = accepted_unsatisfiable formula log is
sound_of formula log (verdicts.Rejected line why) is done = cc

checked_of : (names : Role → List ℕ) (before after : World) (finish : Finish) (output : Output) (formula : Formula) (log : Log)
    → IsSomeAnd (before.held (names roles.Formula)) (λ cnf. DimacsText cnf formula) → IsSomeAnd (before.held (names roles.Log)) (λ proof. LratText proof log)
    → output ≡ check_output (verdict formula log) → output.finish ≡ finish → Written names output before after → IsChecked names before after finish
checked_of names before after finish output formula log says proves out ends written =
    let so : check_finish (verdict formula log) ≡ finish = sym (ap (λ o. o.finish) out) ∙ ends in
    record {
      formula = formula;
      log = log;
      says = says;
      proves = proves;
      ends = so;
      said = written.said ∙ ap (λ o. before.said ++ o.said) out;
      held = λ name. written.held name ∙ ap (λ o. puts names o.stores before.held name) out;
      sound = λ done. sound_of formula log (verdict formula log) refl (so ∙ done);
    }

pub checked : (names : Role → List ℕ) (before after : World) (finish : Finish) → Finishes lrat_task names before after finish → IsChecked names before after finish
checked names before after finish f =
    let end = came lrat_takes lrat_stops lrat_gives lrat_start (roles.Formula ∷ roles.Log ∷ []) f.given f.output f.comes in
    let one = step_of lrat_takes lrat_stops lrat_start roles.Formula (roles.Log ∷ []) f.given end.0 end.1 in
    let r = found_ok (λ (q : Formula). record { formula = q; log = lrat_start.log }) (formula_found one.bytes) one.next one.takes_it in
    let two = step_of lrat_takes lrat_stops one.next roles.Log [] f.given end.0 one.later in
    let s = found_ok (λ (q : Log). record { formula = one.next.formula; log = q }) (log_found two.bytes) two.next two.takes_it in
    let last = step_end lrat_takes lrat_stops two.next f.given end.0 two.later in
    let first : one.next.formula ≡ r.0 = sym (ap (λ (n : Lrat). n.formula) r.2) in
    let kept : two.next.formula ≡ r.0 = sym (ap (λ (n : Lrat). n.formula) s.2) ∙ first in
    let second : two.next.log ≡ s.0 = sym (ap (λ (n : Lrat). n.log) s.2) in
    let G : Lrat → Type 0 = λ n. lrat_gives n f.output in
    let gives : lrat_gives two.next f.output = subst G (sym last.1) end.2 in
    let out : f.output ≡ check_output (verdict r.0 s.0) = gives ∙ ap (λ q. check_output (verdict q two.next.log)) kept ∙ ap (λ q. check_output (verdict r.0 q)) second in
    checked_of names before after finish f.output r.0 s.0
    (some_and (before.held (names roles.Formula)) one.bytes (λ cnf. DimacsText cnf r.0) (held_so (before.held (names roles.Formula)) (f.given roles.Formula) one.bytes (f.told roles.Formula) one.loaded)
    (formula_says one.bytes r.0 r.1))
    (some_and (before.held (names roles.Log)) two.bytes (λ proof. LratText proof s.0) (held_so (before.held (names roles.Log)) (f.given roles.Log) two.bytes (f.told roles.Log) two.loaded)
    (log_says two.bytes s.0 s.1))
    out f.ends f.written

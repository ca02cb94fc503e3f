-- What `lrat` makes of a formula and a log, what it says, and what that means.
use Rattle.std.specs.Prelude.{◌≡◌, ℕ, List, [], ◌∷◌, ◌++◌, codes, decimal, Option, None, Result, Ok, IsSomeAnd}
use Rattle.cg_formula.specs.DimacsText.{DimacsText}
use Rattle.cg_formula.specs.Satisfiable.{IsUnsatisfiable}
use Rattle.cg_formula.specs.declared.formula.Formula.{Formula}
use Rattle.cg_lrat.specs.Accepted.{verdict}
use Rattle.cg_lrat.specs.LratText.{LratText}
use Rattle.cg_lrat.specs.declared.log.Log.{Log}
use Rattle.cg_lrat.specs.declared.verdict.Verdict.{Verdict}
use Rattle.cg_lrat.specs.declared.verdict.Verdict.TheVariants.{Accepted, Rejected}
use Rattle.cg_lrat.specs.declared.verdict.Why.{Why}
use Rattle.cg_lrat.specs.declared.verdict.Why.TheVariants.{UsedId, UnknownId, Tautology, NotUnit, NotFalse, NoHint, NoEmpty}
use Rattle.cg_run.specs.Verdict.{Task, found_as, task_of}
use Rattle.cg_run.specs.declared.writing.Finish.{Finish}
use Rattle.cg_run.specs.declared.writing.Finish.TheVariants as finishes
use Rattle.cg_run.specs.declared.writing.Output.{Output}
use Rattle.cg_run.specs.declared.refusal.Trouble.{Trouble}
use Rattle.cg_run.specs.declared.role.Role.{Role}
use Rattle.cg_run.specs.declared.role.Role.TheVariants as roles
use Rattle.cg_shelf.specs.World.{World}
use Rattle.cg_source.specs.Formula.{formula_found}
use Rattle.cg_source.specs.Log.{log_found}
use Rattle.cg_tool.specs.declared.modes.lrat.Lrat.{Lrat}

-- what is said of the cause why a proof is rejected
abbrev pub cause_text : Why → List ℕ
cause_text (UsedId id) = codes "used id " ++ decimal id
cause_text (UnknownId id) = codes "unknown id " ++ decimal id
cause_text Tautology = codes "tautology"
cause_text (NotUnit hint) = codes "not unit " ++ decimal hint
cause_text (NotFalse hint) = codes "not false " ++ decimal hint
cause_text NoHint = codes "no hint"
cause_text NoEmpty = codes "no empty clause"

-- what is said of a check
abbrev pub check_text : Verdict → List ℕ
check_text Accepted = codes "accepted" ++ 10 ∷ []
check_text (Rejected line why) = codes "rejected line " ++ decimal line ++ 32 ∷ [] ++ cause_text why ++ 10 ∷ []

-- how a run ends that checked
abbrev pub check_finish : Verdict → Finish
check_finish Accepted = finishes.Done
check_finish (Rejected line why) = finishes.Rejected

-- what a check puts out: it stores nothing, and says what came out
abbrev pub check_output : Verdict → Output
check_output v = record { stores = []; said = check_text v; finish = check_finish v }

-- the mode: it takes a formula, takes a log, and gives the output of the check and no other; nothing stops it
abbrev pub lrat_takes : Lrat → Role → List ℕ → Result Lrat Trouble
lrat_takes state roles.Formula text = found_as (λ formula. record { formula = formula; log = state.log }) (formula_found text)
lrat_takes state roles.Log text = found_as (λ log. record { formula = state.formula; log = log }) (log_found text)
lrat_takes state role text = Ok state

abbrev pub lrat_stops : Lrat → Option Trouble
lrat_stops state = None

abbrev pub lrat_gives : Lrat → Output → Type 0
lrat_gives state output = output ≡ check_output (verdict state.formula state.log)

abbrev pub lrat_start : Lrat
lrat_start = record { formula = record { variables = 0; clauses = [] }; log = record { steps = [] } }

-- what a run of `lrat` does: the formula is loaded and read, then the log
abbrev pub lrat_task : Task
lrat_task = task_of lrat_takes lrat_stops lrat_gives lrat_start (roles.Formula ∷ roles.Log ∷ [])

-- A finished check: the bytes under the two names say a formula and a log, what is said is what the check of the log comes
-- to, and it ends with Done exactly where the log is accepted. Then no assignment satisfies the formula. Nothing is stored.
pub record IsChecked (names : Role → List ℕ) (before after : World) (finish : Finish) : Type 0 where
  pub formula : Formula
  pub log : Log
  pub says : IsSomeAnd (before.held (names roles.Formula)) (λ cnf. DimacsText cnf formula)
  pub proves : IsSomeAnd (before.held (names roles.Log)) (λ proof. LratText proof log)
  pub ends : check_finish (verdict formula log) ≡ finish
  pub said : after.said ≡ before.said ++ check_text (verdict formula log)
  pub held : (name : List ℕ) → after.held name ≡ before.held name
  pub sound : finish ≡ finishes.Done → IsUnsatisfiable formula

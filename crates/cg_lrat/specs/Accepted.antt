-- When a log is accepted (as in LRAT: reverse unit propagation along hints).
use Rattle.std.specs.Prelude.{ℕ, ◌+◌, Bool, false, not, List, [], ◌∷◌, ◌++◌, ◌==◌, length, map, Option, Some, None, if◌then◌else◌}
use Rattle.std.specs.Prelude.{nat_le, nat_eq}
use Rattle.std.specs.List.{list_any, list_all, filter}
use Rattle.std.specs.Map.{update}
use Rattle.cg_formula.specs.declared.formula.Lit.{Lit}
use Rattle.cg_formula.specs.declared.formula.Clause.{Clause}
use Rattle.cg_formula.specs.declared.formula.Formula.{Formula}
use Rattle.cg_lrat.specs.declared.log.Body.{Body}
use Rattle.cg_lrat.specs.declared.log.Body.TheVariants.{Add, Delete}
use Rattle.cg_lrat.specs.declared.log.Step.{Step}
use Rattle.cg_lrat.specs.declared.log.Log.{Log}
use Rattle.cg_lrat.specs.declared.verdict.Verdict.{Verdict}
use Rattle.cg_lrat.specs.declared.verdict.Verdict.TheVariants.{Accepted, Rejected}
use Rattle.cg_lrat.specs.declared.verdict.Why.{Why}
use Rattle.cg_lrat.specs.declared.verdict.Why.TheVariants.{UsedId, UnknownId, Tautology, NotUnit, NotFalse, NoHint, NoEmpty}
use Rattle.cg_lrat.specs.declared.hint.NonFalse.{NonFalse}
use Rattle.cg_lrat.specs.declared.hint.NonFalse.TheVariants as left
use Rattle.cg_formula.specs.Lits.{inverse, same_lit, is_in}

-- the live clauses, by id
abbrev pub Live : Type 0
Live = ℕ → Option (List Lit)

-- the live clauses, and the greatest id so far
pub record State : Type 0 where
  pub live : Live
  pub greatest : ℕ

-- these clauses are live too, under the ids from this one on
abbrev pub with_clauses : ℕ → List Clause → Live → Live
with_clauses id [] live = live
with_clauses id (clause ∷ later) live = with_clauses (id + 1) later (update nat_eq live id (Some clause.lits))

-- at first the clauses of the formula are live, under the ids from 1 on
abbrev pub first_state : Formula → State
first_state formula = record { live = with_clauses 1 formula.clauses (λ _. None); greatest = length formula.clauses }

-- the literals that are not false, where these are true
abbrev pub non_false_lits : List Lit → List Lit → List Lit
non_false_lits trues lits = filter (λ lit. not (is_in (inverse lit) trues)) lits

-- none, one literal however often, or several
abbrev pub non_false_of : List Lit → NonFalse
non_false_of [] = left.Nothing
non_false_of (lit ∷ lits) = if list_all (same_lit lit) lits then left.One lit else left.Many

-- a hint before the last: all its literals but one are false, and that one is not true; it goes on with it
abbrev pub unit_then : NonFalse → List Lit → ℕ → (Lit → Option Why) → Option Why
unit_then left.Nothing trues hint later = Some (NotUnit hint)
unit_then (left.One lit) trues hint later = if is_in lit trues then Some (NotUnit hint) else later lit
unit_then left.Many trues hint later = Some (NotUnit hint)

-- the last hint: all its literals are false
abbrev pub false_at : NonFalse → ℕ → Option Why
false_at left.Nothing hint = None
false_at (left.One lit) hint = Some (NotFalse hint)
false_at left.Many hint = Some (NotFalse hint)

-- what is asked of the clause that a hint names
abbrev pub known_then : Option (List Lit) → ℕ → (List Lit → Option Why) → Option Why
known_then None id later = Some (UnknownId id)
known_then (Some lits) id later = later lits

-- the first fault of the hints, where these literals are true
abbrev pub hints_fault : Live → List Lit → List ℕ → Option Why
hints_fault live trues [] = Some NoHint
hints_fault live trues (hint ∷ []) = known_then (live hint) hint (λ lits. false_at (non_false_of (non_false_lits trues lits)) hint)
hints_fault live trues (hint ∷ next ∷ later) =
    known_then (live hint) hint
    (λ lits. unit_then (non_false_of (non_false_lits trues lits)) trues hint (λ lit.
    hints_fault live (trues ++ lit ∷ []) (next ∷ later)))

-- a literal stands there and its inverse too
abbrev pub is_tautology : List Lit → Bool
is_tautology lits = list_any (λ lit. is_in lit (map inverse lits)) lits

-- the fault of a new clause: a tautology, then its hints, each literal of the clause being taken as false
abbrev pub clause_fault : Live → List Lit → List ℕ → Option Why
clause_fault live lits hints = if is_tautology lits then Some Tautology else hints_fault live (map inverse lits) hints

-- the fault of an addition: its id, then the clause
abbrev pub addition_fault : State → ℕ → List Lit → List ℕ → Option Why
addition_fault state id lits hints = if nat_le id state.greatest then Some (UsedId id) else clause_fault state.live lits hints

-- the fault of a deletion: the first id that is not live, or not any more
abbrev pub deletion_fault : Live → List ℕ → Option Why
deletion_fault live [] = None
deletion_fault live (id ∷ later) = known_then (live id) id (λ lits. deletion_fault (update nat_eq live id None) later)

-- why a step is refused, if it is
abbrev pub fault_of : State → Body → ℕ → Option Why
fault_of state (Add clause hints) id = addition_fault state id clause.lits hints
fault_of state (Delete ids) id = deletion_fault state.live ids

abbrev pub without : Live → List ℕ → Live
without live [] = live
without live (id ∷ later) = without (update nat_eq live id None) later

-- the state behind a step
abbrev pub state_after : State → Body → ℕ → State
state_after state (Add clause hints) id = record { live = update nat_eq state.live id (Some clause.lits); greatest = id }
state_after state (Delete ids) id = record { live = without state.live ids; greatest = state.greatest }

-- whether a step adds the empty clause
abbrev pub adds_empty : Body → Bool
adds_empty (Add clause hints) = length clause.lits == 0
adds_empty (Delete ids) = false

-- the verdict at a step, given the verdict of the later ones
abbrev pub step_verdict : Option Why → Bool → ℕ → Verdict → Verdict
step_verdict (Some why) empty line later = Rejected line why
step_verdict None empty line later = if empty then Accepted else later

-- steps are taken in order: the first refused one, or the first that adds the empty clause, decides
abbrev pub verdict_from : State → List Step → Verdict
verdict_from state [] = Rejected 0 NoEmpty
verdict_from state (step ∷ later) =
    step_verdict (fault_of state step.body step.id) (adds_empty step.body) step.line
    (verdict_from (state_after state step.body step.id) later)

abbrev pub verdict : Formula → Log → Verdict
verdict formula log = verdict_from (first_state formula) log.steps

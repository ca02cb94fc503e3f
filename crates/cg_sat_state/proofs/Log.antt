-- Logs that grow by a step.
use Rattle.std.proofs.Common.{◌≡◌, ℕ, ◌+◌, ◌<◌, Bool, true, false, List, [], ◌∷◌, ◌++◌, Some, None, inl}
use Rattle.std.proofs.Common.{inr, refl, sym, ap, ◌∙◌, subst, map, length, length-append, nat_eq, nat_le, arith, ◌==◌, ◌-◌}
use Rattle.std.proofs.Common.{◌^◌}
use Rattle.std.specs.List.{AllByRecursion}
use Rattle.std.specs.Map.{update}
use Rattle.std.proofs.lemmas.Bool.{leb-true}
use Rattle.cg_formula.specs.declared.formula.Lit.{Lit}
use Rattle.cg_formula.specs.declared.formula.Clause.{Clause}
use Rattle.cg_formula.specs.declared.formula.Formula.{Formula}
use Rattle.cg_lrat.specs.declared.log.Body.TheVariants.{Add, Delete}
use Rattle.cg_lrat.specs.declared.log.Step.{Step}
use Rattle.cg_lrat.specs.declared.log.Log.{Log}
use Rattle.cg_lrat.specs.Accepted.{first_state, fault_of, state_after, adds_empty, clause_fault}
use Rattle.cg_lrat.specs.AcceptedLog.{LeadsTo, IsAccepted}
use Rattle.cg_formula.specs.Lits.{inverse, is_in}
use Rattle.cg_formula.specs.Bounds.{IsLit}
use Rattle.cg_lrat.specs.Bounds.{AreNumbered, IsBody, IsId, IsLog, IsStep}
use Rattle.cg_lrat.proofs.GrownLog.{accepted_pushed, all_lits, all_pushed, clause_hints, leads_pushed}
use Rattle.cg_sat_state.specs.Store.{Store, clause_at, live_of, state_of, given, IsWithout}
use Rattle.cg_sat_state.specs.inner.Draft.{IsDraft}
use Rattle.cg_sat_state.proofs.Ids.{IsPlace, hints_are_ids}
use Rattle.cg_sat_state.proofs.Store.{live_pushed, live_without, live_at, clause_within, first_is, make_state}
use Rattle.cg_sat_state.proofs.TrailLaws.{pushed_at}

-- a step behind others

numbered_pushed : (steps : List Step) (step : Step) → AreNumbered steps → step.line ≡ length steps + 1 → AreNumbered (steps ++ step ∷ [])
numbered_pushed steps step numbered line k one e = elim (pushed_at steps step k one e) [
  | inl early ↦ numbered k one early
  | inr end ↦ let same : step.line ≡ one.line = ap (λ (s : Step). s.line) end.1 in sym same ∙ line ∙ ap (λ n. n + 1) (sym end.0)
]

-- an addition under the next id has no fault where its clause has none
addition_fine : (clauses : Store) (clause : Clause) (hints : List ℕ) (id : ℕ) → id ≡ length clauses + 1 → clause_fault (live_of clauses) clause.lits hints ≡ None
    → fault_of (state_of clauses) (Add clause hints) id ≡ None
addition_fine clauses clause hints id e fine = pick (nat_le id (length clauses)) refl where
  pick : (b : Bool) → nat_le id (length clauses) ≡ b → fault_of (state_of clauses) (Add clause hints) id ≡ None
  pick true f = absurd (omega (arith, leb-true id (length clauses) f))
  pick false f = rw f fine

addition_leads : (clauses : Store) (clause : Clause) (hints : List ℕ) (id : ℕ) → id ≡ length clauses + 1
    → state_after (state_of clauses) (Add clause hints) id ≡ state_of (clauses ++ Some clause.lits ∷ [])
addition_leads clauses clause hints id e =
    let live : update nat_eq (live_of clauses) id (Some clause.lits) ≡ live_of (clauses ++ Some clause.lits ∷ []) = rw e (live_pushed clauses clause.lits) in
    let long : id ≡ length (clauses ++ Some clause.lits ∷ []) = omega (arith, e, length-append clauses (Some clause.lits ∷ [])) in
    ap (λ l. make_state l id) live ∙ ap (λ n. make_state (live_of (clauses ++ Some clause.lits ∷ [])) n) long

-- steps within the bounds

all_ids : (count : ℕ) (hints : List ℕ) → count < 2 ^ 63 → AllByRecursion (IsPlace count) hints → AllByRecursion IsId hints
all_ids count [] small all = tt
all_ids count (h ∷ hs) small all = let low = all.0.0 in let high = all.0.1 in (record { from_one = omega arith; within = omega arith }, all_ids count hs small all.1)

step_fits : (clauses : Store) (clause : Clause) (hints : List ℕ) (step : Step) → step.body ≡ Add clause hints → step.id ≡ length clauses + 1 → length clauses + 1 < 2 ^ 63
    → ((lit : Lit) → is_in lit clause.lits ≡ true → IsLit (2 ^ 31 - 1) lit) → clause_fault (live_of clauses) clause.lits hints ≡ None → IsStep step
step_fits clauses clause hints step body id small lits fine =
    let ids : AllByRecursion IsId hints = all_ids (length clauses) hints (omega arith) (hints_are_ids clauses (map inverse clause.lits) hints (clause_hints (live_of clauses) clause.lits hints fine)) in
    let whole : IsBody (Add clause hints) = (all_lits (IsLit (2 ^ 31 - 1)) clause.lits lits, ids) in
    record { id = record { from_one = omega (arith, id); within = omega (arith, id) }; body = subst IsBody (sym body) whole }

-- a draft with one more step

pub draft_pushed : (formula : Formula) (clauses new : Store) (steps later : List Step) (step : Step) (clause : Clause) (hints : List ℕ)
    → IsDraft formula steps clauses → step.body ≡ Add clause hints → step.id ≡ length clauses + 1 → step.line ≡ length steps + 1 → length clauses + 1 < 2 ^ 63
    → ((lit : Lit) → is_in lit clause.lits ≡ true → IsLit (2 ^ 31 - 1) lit) → clause_fault (live_of clauses) clause.lits hints ≡ None
    → (length clause.lits == 0) ≡ false → new ≡ clauses ++ Some clause.lits ∷ [] → later ≡ steps ++ step ∷ [] → IsDraft formula later new
draft_pushed formula clauses new steps later step clause hints draft body id line small lits fine full added pushed =
    let leads = draft.leads in
    let taken : fault_of (state_of clauses) step.body step.id ≡ None = rw body (addition_fine clauses clause hints step.id id fine) in
    let some : adds_empty step.body ≡ false = rw body full in
    let next : LeadsTo (first_state formula) (steps ++ step ∷ []) (state_after (state_of clauses) step.body step.id) = leads_pushed (first_state formula) (state_of clauses) steps step leads taken some in
    let end : state_after (state_of clauses) step.body step.id ≡ state_of (clauses ++ Some clause.lits ∷ []) = ap (λ b. state_after (state_of clauses) b step.id) body ∙ addition_leads clauses clause hints step.id id in
    record {
      leads = rw (pushed, added) (subst (λ s. LeadsTo (first_state formula) (steps ++ step ∷ []) s) end next);
      fit = rw pushed (all_pushed IsStep steps step draft.fit (step_fits clauses clause hints step body id small lits fine));
      numbered = subst AreNumbered (sym pushed) (numbered_pushed steps step draft.numbered line);
    }

pub draft_without : (formula : Formula) (clauses new : Store) (steps later : List Step) (step : Step) (place : ℕ) (clause : List Lit)
    → IsDraft formula steps clauses → step.body ≡ Delete ((place + 1) ∷ []) → step.id ≡ length clauses → step.line ≡ length steps + 1 → length clauses < 2 ^ 63
    → clause_at clauses place ≡ Some clause → IsWithout clauses place new → later ≡ steps ++ step ∷ [] → IsDraft formula later new
draft_without formula clauses new steps later step place clause draft body id line small is less pushed =
    let leads = draft.leads in
    let within : place < length clauses = clause_within clauses place clause is in
    let taken : fault_of (state_of clauses) step.body step.id ≡ None = rw (body, live_at clauses place clause is) refl in
    let some : adds_empty step.body ≡ false = rw body refl in
    let next : LeadsTo (first_state formula) (steps ++ step ∷ []) (state_after (state_of clauses) step.body step.id) = leads_pushed (first_state formula) (state_of clauses) steps step leads taken some in
    let long : length clauses ≡ length new = sym less.long in
    let live : state_after (state_of clauses) (Delete ((place + 1) ∷ [])) step.id ≡ state_of new = ap (λ l. make_state l (length clauses)) (live_without clauses new place less) ∙ ap (λ n. make_state (live_of new) n) long in
    let end : state_after (state_of clauses) step.body step.id ≡ state_of new = ap (λ b. state_after (state_of clauses) b step.id) body ∙ live in
    let ids : IsBody (Delete ((place + 1) ∷ [])) = (record { from_one = omega arith; within = omega arith }, tt) in
    let fits : IsStep step = record { id = record { from_one = omega (arith, id, within); within = omega (arith, id) }; body = subst IsBody (sym body) ids } in
    record {
      leads = rw pushed (subst (λ s. LeadsTo (first_state formula) (steps ++ step ∷ []) s) end next);
      fit = rw pushed (all_pushed IsStep steps step draft.fit fits);
      numbered = subst AreNumbered (sym pushed) (numbered_pushed steps step draft.numbered line);
    }

pub draft_new : (formula : Formula) (clauses : Store) (steps : List Step) → clauses ≡ given formula → steps ≡ [] → IsDraft formula steps clauses
draft_new formula clauses steps e f = record {
  leads = rw (f, e) (first_is formula);
  fit = rw f tt;
  numbered = λ k step g. absurd (cc (rw f at g));
}

pub draft_accepted : (formula : Formula) (clauses : Store) (steps : List Step) (step : Step) (clause : Clause) (hints : List ℕ) (log : Log)
    → IsDraft formula steps clauses → step.body ≡ Add clause hints → step.id ≡ length clauses + 1 → step.line ≡ length steps + 1 → length clauses + 1 < 2 ^ 63 → clause.lits ≡ [] → clause_fault (live_of clauses) [] hints ≡ None
    → log.steps ≡ steps ++ step ∷ [] → IsAccepted formula log × IsLog log × AreNumbered log.steps
draft_accepted formula clauses steps step clause hints log draft body id line small none fine whole =
    let leads = draft.leads in
    let same : clause_fault (live_of clauses) clause.lits hints ≡ None = rw none fine in
    let no_lits : (lit : Lit) → is_in lit clause.lits ≡ true → IsLit (2 ^ 31 - 1) lit = λ lit e. absurd (cc (rw none at e)) in
    let all : AllByRecursion IsStep log.steps = rw whole (all_pushed IsStep steps step draft.fit (step_fits clauses clause hints step body id small no_lits same)) in (
      accepted_pushed formula steps step (state_of clauses) log whole leads (rw body (addition_fine clauses clause hints step.id id same)) (rw (body, none) refl),
      all,
      subst AreNumbered (sym whole) (numbered_pushed steps step draft.numbered line),
    )

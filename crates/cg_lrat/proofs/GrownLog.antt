-- A step that is accepted, put behind a log, keeps the log leading to its state; one that adds the empty clause ends it.
use Rattle.std.proofs.Common.{◌≡◌, ℕ, ◌+◌, zero, suc, ◌<◌, Bool, true, false, List, [], ◌∷◌, ◌++◌, Some, None, refl, sym, ap, ◌∙◌}
use Rattle.std.proofs.Common.{subst, map, length, length-append, append_assoc, append-nil, add-one, nat_eq, nat_le, arith, rules}
use Rattle.std.proofs.Common.{◌==◌, ◌-◌, ◌^◌, if◌then◌else◌}
use Rattle.std.specs.List.{slice_get, AllByRecursion}
use Rattle.std.specs.Map.{update}
use Rattle.std.proofs.lemmas.Bool.{eqb-true, leb-true}
use Rattle.std.proofs.Math.Path.{fun_ext}
use Rattle.cg_formula.specs.declared.formula.Lit.{Lit}
use Rattle.cg_formula.specs.declared.formula.Clause.{Clause}
use Rattle.cg_formula.specs.declared.formula.Formula.{Formula}
use Rattle.cg_lrat.specs.declared.log.Body.TheVariants.{Add}
use Rattle.cg_lrat.specs.declared.log.Step.{Step}
use Rattle.cg_lrat.specs.declared.log.Log.{Log}
use Rattle.cg_lrat.specs.Accepted.{Live, State, with_clauses, first_state, fault_of, state_after, adds_empty, clause_fault}
use Rattle.cg_lrat.specs.Accepted.{hints_fault, is_tautology}
use Rattle.cg_lrat.specs.AcceptedLog.{LeadsTo, IsAccepted}
use Rattle.cg_formula.specs.Lits.{inverse, same_lit, is_in}
use Rattle.cg_formula.specs.Bounds.{IsLit}
use Rattle.cg_lrat.specs.Bounds.{IsId, IsBody, IsStep, IsLog}
use Rattle.cg_formula.proofs.Connectives.{or_right}
use Rattle.cg_lrat.specs.GrownLog.{live_of, state_of, clauses_of, IsGrownTo}
use Rattle.cg_formula.proofs.Members.{here}
use Rattle.cg_lrat.proofs.HintIds.{IsAmong, hints_are_ids}

-- one more clause

pub get_last : (clauses : List (List Lit)) (clause : List Lit) → slice_get (clauses ++ clause ∷ []) (length clauses) ≡ Some clause
get_last [] clause = refl
get_last (c ∷ cs) clause = get_last cs clause

get_other : (clauses : List (List Lit)) (clause : List Lit) (k : ℕ) → (k ≡ length clauses → ⊥)
    → slice_get (clauses ++ clause ∷ []) k ≡ slice_get clauses k
get_other [] clause zero other = absurd (other refl)
get_other [] clause (suc k) other = refl
get_other (c ∷ cs) clause zero other = refl
get_other (c ∷ cs) clause (suc k) other = get_other cs clause k (λ e. other (ap suc e))

pub get_kept : (clauses : List (List Lit)) (clause : List Lit) (k : ℕ) (found : List Lit) → slice_get clauses k ≡ Some found
    → slice_get (clauses ++ clause ∷ []) k ≡ Some found
get_kept [] clause k found e = absurd (cc)
get_kept (c ∷ cs) clause zero found e = e
get_kept (c ∷ cs) clause (suc k) found e = get_kept cs clause k found e

put_at : (clauses : List (List Lit)) (clause : List Lit) (id : ℕ)
    → update nat_eq (live_of clauses) (suc (length clauses)) (Some clause) id ≡ live_of (clauses ++ clause ∷ []) id
put_at clauses clause zero = pick (nat_eq (suc (length clauses)) 0) refl where
  pick : (b : Bool) → nat_eq (suc (length clauses)) 0 ≡ b → (if b then Some clause else None) ≡ live_of (clauses ++ clause ∷ []) 0
  pick true e = let same : suc (length clauses) ≡ 0 = eqb-true (suc (length clauses)) 0 e in absurd (omega arith)
  pick false e = refl
put_at clauses clause (suc k) = pick (nat_eq (suc (length clauses)) (suc k)) refl where
  pick : (b : Bool) → nat_eq (suc (length clauses)) (suc k) ≡ b
      → (if b then Some clause else slice_get clauses k) ≡ slice_get (clauses ++ clause ∷ []) k
  pick true e =
      let same : suc (length clauses) ≡ suc k = eqb-true (suc (length clauses)) (suc k) e in
      let at : length clauses ≡ k = omega (arith, same) in
      sym (subst (λ j. slice_get (clauses ++ clause ∷ []) j ≡ Some clause) at (get_last clauses clause))
  pick false e =
      sym
      (get_other clauses clause k (λ f. let self : nat_eq (suc k) (suc k) ≡ true = search rules in let same : nat_eq (suc (length clauses)) (suc k) ≡ true = subst (λ j. nat_eq (suc j) (suc k) ≡ true) f self in cc))

pub live_pushed : (clauses : List (List Lit)) (clause : List Lit)
    → update nat_eq (live_of clauses) (length clauses + 1) (Some clause) ≡ live_of (clauses ++ clause ∷ [])
live_pushed clauses clause = rw add-one (fun_ext (put_at clauses clause))

abbrev nothing : Live
nothing id = None

nothing_at : (id : ℕ) → nothing id ≡ live_of [] id
nothing_at zero = refl
nothing_at (suc k) = refl

nothing_live : nothing ≡ live_of []
nothing_live = fun_ext nothing_at

clauses_live : (clauses : List Clause) (before : List (List Lit)) (n : ℕ) → n ≡ length before
    → with_clauses (n + 1) clauses (live_of before) ≡ live_of (before ++ map (λ (c : Clause). c.lits) clauses)
clauses_live [] before n e = rw append-nil refl
clauses_live (c ∷ cs) before n e =
    let put : update nat_eq (live_of before) (n + 1) (Some c.lits) ≡ live_of (before ++ c.lits ∷ []) = rw e (live_pushed before c.lits) in
    let long : n + 1 ≡ length (before ++ c.lits ∷ []) = omega (arith, e, length-append before (c.lits ∷ [])) in
    rw put
    (clauses_live cs (before ++ c.lits ∷ []) (n + 1) long ∙ ap live_of (append_assoc before (c.lits ∷ []) (map (λ (d : Clause). d.lits) cs)))

length_given : (clauses : List Clause) → length clauses ≡ length (map (λ (c : Clause). c.lits) clauses)
length_given [] = refl
length_given (c ∷ cs) = ap suc (length_given cs)

abbrev make : Live → ℕ → State
make live greatest = record { live = live; greatest = greatest }

-- the checker begins with the clauses of the formula
pub first_is : (formula : Formula) → first_state formula ≡ state_of (clauses_of formula)
first_is formula =
    let start : with_clauses 1 formula.clauses (live_of []) ≡ live_of (clauses_of formula) = clauses_live formula.clauses [] 0 refl in
    let live : with_clauses 1 formula.clauses nothing ≡ live_of (clauses_of formula) =
    ap (λ l. with_clauses 1 formula.clauses l) nothing_live ∙ start in
    ap (λ l. make l (length formula.clauses)) live ∙ ap (λ n. make (live_of (clauses_of formula)) n) (length_given formula.clauses)

-- a step behind others

pub leads_pushed : (state end : State) (steps : List Step) (step : Step) → LeadsTo state steps end → fault_of end step.body step.id ≡ None
    → adds_empty step.body ≡ false
    → LeadsTo state (steps ++ step ∷ []) (state_after end step.body step.id)
leads_pushed state end [] step leads fine full = rw leads (fine, full, refl)
leads_pushed state end (first ∷ later) step leads fine full =
    (leads.0, leads.1, leads_pushed (state_after state first.body first.id) end later step leads.2 fine full)

pub accepted_pushed : (formula : Formula) (steps : List Step) (step : Step) (state : State) (log : Log) → log.steps ≡ steps ++ step ∷ []
    → LeadsTo (first_state formula) steps state
    → fault_of state step.body step.id ≡ None → adds_empty step.body ≡ true → IsAccepted formula log
accepted_pushed formula steps step state log whole leads fine empty =
    record { before = steps; last = step; behind = []; state = state; whole = whole; reached = leads; taken = fine; empty = empty }

-- an addition under the next id has no fault where its clause has none
pub addition_fine : (clauses : List (List Lit)) (clause : Clause) (hints : List ℕ) (id : ℕ) → id ≡ length clauses + 1
    → clause_fault (live_of clauses) clause.lits hints ≡ None
    → fault_of (state_of clauses) (Add clause hints) id ≡ None
addition_fine clauses clause hints id e fine = pick (nat_le id (length clauses)) refl where
  pick : (b : Bool) → nat_le id (length clauses) ≡ b → fault_of (state_of clauses) (Add clause hints) id ≡ None
  pick true f = absurd (omega (arith, leb-true id (length clauses) f))
  pick false f = rw f fine

pub addition_leads : (clauses : List (List Lit)) (clause : Clause) (hints : List ℕ) (id : ℕ) → id ≡ length clauses + 1
    → state_after (state_of clauses) (Add clause hints) id ≡ state_of (clauses ++ clause.lits ∷ [])
addition_leads clauses clause hints id e =
    let live : update nat_eq (live_of clauses) id (Some clause.lits) ≡ live_of (clauses ++ clause.lits ∷ []) =
    rw e (live_pushed clauses clause.lits) in
    let long : id ≡ length (clauses ++ clause.lits ∷ []) = omega (arith, e, length-append clauses (clause.lits ∷ [])) in
    ap (λ l. make l id) live ∙ ap (λ n. make (live_of (clauses ++ clause.lits ∷ [])) n) long

pub all_pushed : {X : Type 0} (P : X → Type 0) (xs : List X) (x : X) → AllByRecursion P xs → P x → AllByRecursion P (xs ++ x ∷ [])
all_pushed P [] x all p = (p, tt)
all_pushed P (y ∷ ys) x all p = (all.0, all_pushed P ys x all.1 p)

pub all_lits : (P : Lit → Type 0) (lits : List Lit) → ((lit : Lit) → is_in lit lits ≡ true → P lit) → AllByRecursion P lits
all_lits P [] each = tt
all_lits P (l ∷ ls) each = (each l (here l ls), all_lits P ls (λ lit e. each lit (or_right (same_lit lit l) e)))

all_ids : (count : ℕ) (hints : List ℕ) → count < 2 ^ 63 → AllByRecursion (IsAmong count) hints → AllByRecursion IsId hints
all_ids count [] small all = tt
all_ids count (h ∷ hs) small all =
    let low = all.0.0 in let high = all.0.1 in (record { from_one = omega arith; within = omega arith }, all_ids count hs small all.1)

pub clause_hints : (live : Live) (lits : List Lit) (hints : List ℕ) → clause_fault live lits hints ≡ None
    → hints_fault live (map inverse lits) hints ≡ None
clause_hints live lits hints e = pick (is_tautology lits) refl where
  pick : (b : Bool) → is_tautology lits ≡ b → hints_fault live (map inverse lits) hints ≡ None
  pick true f = absurd (cc (rw f at e))
  pick false f = rw f at e

pub step_fits : (clauses : List (List Lit)) (clause : Clause) (hints : List ℕ) (step : Step) → step.body ≡ Add clause hints
    → step.id ≡ length clauses + 1 → length clauses + 1 < 2 ^ 63
    → ((lit : Lit) → is_in lit clause.lits ≡ true → IsLit (2 ^ 31 - 1) lit) → clause_fault (live_of clauses) clause.lits hints ≡ None
    → IsStep step
step_fits clauses clause hints step body id small lits fine =
    let ids : AllByRecursion IsId hints =
    all_ids (length clauses) hints (omega arith)
    (hints_are_ids clauses (map inverse clause.lits) hints (clause_hints (live_of clauses) clause.lits hints fine)) in
    let whole : IsBody (Add clause hints) = (all_lits (IsLit (2 ^ 31 - 1)) clause.lits lits, ids) in
    record { id = record { from_one = omega (arith, id); within = omega (arith, id) }; body = subst IsBody (sym body) whole }

pub grown_pushed : (formula : Formula) (clauses new : List (List Lit)) (steps later : List Step) (step : Step) (clause : Clause) (hints : List ℕ)
    → IsGrownTo formula steps clauses → step.body ≡ Add clause hints → step.id ≡ length clauses + 1 → length clauses + 1 < 2 ^ 63
    → ((lit : Lit) → is_in lit clause.lits ≡ true → IsLit (2 ^ 31 - 1) lit) → clause_fault (live_of clauses) clause.lits hints ≡ None
    → (length clause.lits == 0) ≡ false → new ≡ clauses ++ clause.lits ∷ [] → later ≡ steps ++ step ∷ [] → IsGrownTo formula later new
grown_pushed formula clauses new steps later step clause hints grown body id small lits fine full added pushed =
    let leads = grown.leads in
    let taken : fault_of (state_of clauses) step.body step.id ≡ None = rw body (addition_fine clauses clause hints step.id id fine) in
    let some : adds_empty step.body ≡ false = rw body full in
    let next : LeadsTo (first_state formula) (steps ++ step ∷ []) (state_after (state_of clauses) step.body step.id) =
    leads_pushed (first_state formula) (state_of clauses) steps step leads taken some in
    let end : state_after (state_of clauses) step.body step.id ≡ state_of (clauses ++ clause.lits ∷ []) =
    ap (λ b. state_after (state_of clauses) b step.id) body ∙ addition_leads clauses clause hints step.id id in
    record {
      leads = rw (pushed, added) (subst (λ s. LeadsTo (first_state formula) (steps ++ step ∷ []) s) end next);
      bounds = rw pushed (all_pushed IsStep steps step grown.bounds (step_fits clauses clause hints step body id small lits fine));
    }

pub grown_new : (formula : Formula) (clauses : List (List Lit)) (steps : List Step) → clauses ≡ clauses_of formula → steps ≡ []
    → IsGrownTo formula steps clauses
grown_new formula clauses steps e f = record { leads = rw (f, e) (first_is formula); bounds = rw f tt }

pub grown_accepted : (formula : Formula) (clauses : List (List Lit)) (steps : List Step) (step : Step) (clause : Clause) (hints : List ℕ) (log : Log)
    → IsGrownTo formula steps clauses → step.body ≡ Add clause hints → step.id ≡ length clauses + 1 → length clauses + 1 < 2 ^ 63
    → clause.lits ≡ [] → clause_fault (live_of clauses) [] hints ≡ None
    → log.steps ≡ steps ++ step ∷ [] → IsAccepted formula log × IsLog log
grown_accepted formula clauses steps step clause hints log grown body id small none fine whole =
    let leads = grown.leads in
    let same : clause_fault (live_of clauses) clause.lits hints ≡ None = rw none fine in
    let no_lits : (lit : Lit) → is_in lit clause.lits ≡ true → IsLit (2 ^ 31 - 1) lit = λ lit e. absurd (cc (rw none at e)) in
    let all : AllByRecursion IsStep log.steps =
    rw whole (all_pushed IsStep steps step grown.bounds (step_fits clauses clause hints step body id small no_lits same)) in
    (accepted_pushed formula steps step (state_of clauses) log whole leads (rw body (addition_fine clauses clause hints step.id id same)) (rw (body, none) refl), all)

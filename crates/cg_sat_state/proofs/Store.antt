-- A store with one clause more or less, and what the checker holds live then.
use Rattle.std.proofs.Common.{◌≡◌, ℕ, ◌+◌, zero, suc, ◌<◌, Bool, true, false, List, [], ◌∷◌, ◌++◌, Some, None}
use Rattle.std.proofs.Common.{◌⊎◌, inl, inr, refl, sym, ap, ◌∙◌, subst, map, take, length, length-append, append_assoc, append-nil}
use Rattle.std.proofs.Common.{add-one, nat_eq, arith, rules, if◌then◌else◌}
use Rattle.std.specs.Map.{update}
use Rattle.std.specs.List.{slice_get}
use Rattle.std.proofs.lemmas.Bool.{eqb-true}
use Rattle.std.proofs.Math.Path.{fun_ext}
use Rattle.cg_formula.specs.declared.formula.Lit.{Lit}
use Rattle.cg_formula.specs.declared.formula.Clause.{Clause}
use Rattle.cg_formula.specs.declared.formula.Formula.{Formula}
use Rattle.cg_lrat.specs.Accepted.{Live, State, with_clauses, first_state}
use Rattle.cg_sat_state.specs.Store.{Store, clause_at, live_of, state_of, given, IsWithout}

-- one more clause

pub get_last : (clauses : Store) (clause : List Lit) → clause_at (clauses ++ Some clause ∷ []) (length clauses) ≡ Some clause
get_last [] clause = refl
get_last (c ∷ cs) clause = get_last cs clause

get_other : (clauses : Store) (clause : List Lit) (k : ℕ) → (k ≡ length clauses → ⊥) → clause_at (clauses ++ Some clause ∷ []) k ≡ clause_at clauses k
get_other [] clause zero other = absurd (other refl)
get_other [] clause (suc k) other = refl
get_other (c ∷ cs) clause zero other = refl
get_other (c ∷ cs) clause (suc k) other = get_other cs clause k (λ e. other (ap suc e))

pub get_kept : (clauses : Store) (clause : List Lit) (k : ℕ) (found : List Lit) → clause_at clauses k ≡ Some found → clause_at (clauses ++ Some clause ∷ []) k ≡ Some found
get_kept [] clause k found e = absurd (cc)
get_kept (c ∷ cs) clause zero found e = e
get_kept (c ∷ cs) clause (suc k) found e = get_kept cs clause k found e

pub clause_within : (clauses : Store) (k : ℕ) (found : List Lit) → clause_at clauses k ≡ Some found → k < length clauses
clause_within [] k found e = absurd (cc)
clause_within (c ∷ cs) zero found e = omega arith
clause_within (c ∷ cs) (suc k) found e = let within = clause_within cs k found e in omega arith

pub clause_pushed : (clauses : Store) (clause : List Lit) (k : ℕ) (found : List Lit) → clause_at (clauses ++ Some clause ∷ []) k ≡ Some found → (clause_at clauses k ≡ Some found) ⊎ (clause ≡ found)
clause_pushed [] clause zero found e = inr cc
clause_pushed [] clause (suc k) found e = absurd (cc)
clause_pushed (c ∷ cs) clause zero found e = inl e
clause_pushed (c ∷ cs) clause (suc k) found e = clause_pushed cs clause k found e

pub live_at : (clauses : Store) (k : ℕ) (clause : List Lit) → clause_at clauses k ≡ Some clause → live_of clauses (k + 1) ≡ Some clause
live_at clauses k clause e = rw add-one e

-- the checker's live clauses

put_at : (clauses : Store) (clause : List Lit) (id : ℕ) → update nat_eq (live_of clauses) (suc (length clauses)) (Some clause) id ≡ live_of (clauses ++ Some clause ∷ []) id
put_at clauses clause zero = pick (nat_eq (suc (length clauses)) 0) refl where
  pick : (b : Bool) → nat_eq (suc (length clauses)) 0 ≡ b → (if b then Some clause else None) ≡ live_of (clauses ++ Some clause ∷ []) 0
  pick true e = let same : suc (length clauses) ≡ 0 = eqb-true (suc (length clauses)) 0 e in absurd (omega arith)
  pick false e = refl
put_at clauses clause (suc k) = pick (nat_eq (suc (length clauses)) (suc k)) refl where
  pick : (b : Bool) → nat_eq (suc (length clauses)) (suc k) ≡ b → (if b then Some clause else clause_at clauses k) ≡ clause_at (clauses ++ Some clause ∷ []) k
  pick true e =
      let same : suc (length clauses) ≡ suc k = eqb-true (suc (length clauses)) (suc k) e in
      let at : length clauses ≡ k = omega (arith, same) in
      sym (subst (λ j. clause_at (clauses ++ Some clause ∷ []) j ≡ Some clause) at (get_last clauses clause))
  pick false e = sym (get_other clauses clause k (λ f. let self : nat_eq (suc k) (suc k) ≡ true = search rules in let same : nat_eq (suc (length clauses)) (suc k) ≡ true = subst (λ j. nat_eq (suc j) (suc k) ≡ true) f self in cc))

pub live_pushed : (clauses : Store) (clause : List Lit) → update nat_eq (live_of clauses) (length clauses + 1) (Some clause) ≡ live_of (clauses ++ Some clause ∷ [])
live_pushed clauses clause = rw add-one (fun_ext (put_at clauses clause))

take_at : (old new : Store) (place : ℕ) → IsWithout old place new → (id : ℕ) → update nat_eq (live_of old) (suc place) None id ≡ live_of new id
take_at old new place less zero = pick (nat_eq (suc place) 0) where
  pick : (b : Bool) → (if b then None else None) ≡ live_of new 0
  pick true = refl
  pick false = refl
take_at old new place less (suc k) = pick (nat_eq (suc place) (suc k)) refl where
  pick : (b : Bool) → nat_eq (suc place) (suc k) ≡ b → (if b then None else clause_at old k) ≡ clause_at new k
  pick true e =
      let same : suc place ≡ suc k = eqb-true (suc place) (suc k) e in
      let at : place ≡ k = omega (arith, same) in
      sym (subst (λ j. clause_at new j ≡ None) at less.gone)
  pick false e = sym (less.others k (λ f. let self : nat_eq (suc k) (suc k) ≡ true = search rules in let same : nat_eq (suc place) (suc k) ≡ true = subst (λ j. nat_eq (suc j) (suc k) ≡ true) f self in cc))

pub live_without : (old new : Store) (place : ℕ) → IsWithout old place new → update nat_eq (live_of old) (place + 1) None ≡ live_of new
live_without old new place less = rw add-one (fun_ext (take_at old new place less))

-- what is found in what is left was there before
pub found_before : (old new : Store) (place k : ℕ) (clause : List Lit) → IsWithout old place new → clause_at new k ≡ Some clause → clause_at old k ≡ Some clause
found_before old new place k clause less e = pick (nat_eq k place) refl where
  pick : (b : Bool) → nat_eq k place ≡ b → clause_at old k ≡ Some clause
  pick true f =
      let same : k ≡ place = eqb-true k place f in
      let none : clause_at new k ≡ None = subst (λ j. clause_at new j ≡ None) (sym same) less.gone in
      absurd (cc)
  pick false f = sym (less.others k (λ g. let self : nat_eq place place ≡ true = search rules in let same : nat_eq k place ≡ true = subst (λ j. nat_eq j place ≡ true) (sym g) self in cc)) ∙ e

-- the checker begins with the clauses of the formula

abbrev nothing : Live
nothing id = None

nothing_at : (id : ℕ) → nothing id ≡ live_of [] id
nothing_at zero = refl
nothing_at (suc k) = refl

nothing_live : nothing ≡ live_of []
nothing_live = fun_ext nothing_at

clauses_live : (clauses : List Clause) (before : Store) (n : ℕ) → n ≡ length before
    → with_clauses (n + 1) clauses (live_of before) ≡ live_of (before ++ map (λ (c : Clause). Some c.lits) clauses)
clauses_live [] before n e = rw append-nil refl
clauses_live (c ∷ cs) before n e =
    let put : update nat_eq (live_of before) (n + 1) (Some c.lits) ≡ live_of (before ++ Some c.lits ∷ []) = rw e (live_pushed before c.lits) in
    let long : n + 1 ≡ length (before ++ Some c.lits ∷ []) = omega (arith, e, length-append before (Some c.lits ∷ [])) in
    rw put (clauses_live cs (before ++ Some c.lits ∷ []) (n + 1) long ∙ ap live_of (append_assoc before (Some c.lits ∷ []) (map (λ (d : Clause). Some d.lits) cs)))

length_given : (clauses : List Clause) → length clauses ≡ length (map (λ (c : Clause). Some c.lits) clauses)
length_given [] = refl
length_given (c ∷ cs) = ap suc (length_given cs)

abbrev pub make_state : Live → ℕ → State
make_state live greatest = record { live = live; greatest = greatest }

pub first_is : (formula : Formula) → first_state formula ≡ state_of (given formula)
first_is formula =
    let start : with_clauses 1 formula.clauses (live_of []) ≡ live_of (given formula) = clauses_live formula.clauses [] 0 refl in
    let live : with_clauses 1 formula.clauses nothing ≡ live_of (given formula) = ap (λ l. with_clauses 1 formula.clauses l) nothing_live ∙ start in
    ap (λ l. make_state l (length formula.clauses)) live ∙ ap (λ n. make_state (live_of (given formula)) n) (length_given formula.clauses)

-- one more clause of a formula
pub given_more : (clauses : List Clause) (place : ℕ) (lits : List Lit) → slice_get clauses place ≡ Some (record { lits = lits })
    → map (λ (clause : Clause). Some clause.lits) (take (suc place) clauses) ≡ map (λ (clause : Clause). Some clause.lits) (take place clauses) ++ Some lits ∷ []
given_more [] place lits at = absurd (cc)
given_more (c ∷ cs) zero lits at =
    let same : c ≡ (let clause : Clause = record { lits = lits } in clause) = cc in
    ap (λ (clause : Clause). Some clause.lits ∷ []) same
given_more (c ∷ cs) (suc place) lits at = ap (λ clauses. Some c.lits ∷ clauses) (given_more cs place lits at)

-- An accepted log proves its formula unsatisfiable: bits that satisfy the formula satisfy each live clause.
use Rattle.std.proofs.Common.{◌≡◌, ℕ, ◌+◌, suc, Bool, true, false, ◌||◌, ◌==◌, List, [], ◌∷◌, ◌++◌, length, map, Option, Some, None}
use Rattle.std.proofs.Common.{inl, inr, refl, sym, ap, ◌∙◌, if◌then◌else◌, nat_eq, nat_le}
use Rattle.std.proofs.lemmas.Bool.{and_parts, eqb-true, not-true, or_cases}
use Rattle.std.specs.List.{list_any, list_all}
use Rattle.std.specs.Map.{update}
use Rattle.cg_formula.specs.declared.formula.Lit.{Lit}
use Rattle.cg_formula.specs.declared.formula.Clause.{Clause}
use Rattle.cg_formula.specs.declared.formula.Formula.{Formula}
use Rattle.cg_lrat.specs.declared.log.Body.{Body}
use Rattle.cg_lrat.specs.declared.log.Body.TheVariants.{Add, Delete}
use Rattle.cg_lrat.specs.declared.log.Step.{Step}
use Rattle.cg_lrat.specs.declared.log.Log.{Log}
use Rattle.cg_lrat.specs.declared.verdict.Verdict.TheVariants.{Accepted}
use Rattle.cg_lrat.specs.declared.verdict.Why.{Why}
use Rattle.cg_lrat.specs.declared.verdict.Why.TheVariants as whys
use Rattle.cg_lrat.specs.declared.hint.NonFalse.{NonFalse}
use Rattle.cg_lrat.specs.declared.hint.NonFalse.TheVariants as left
use Rattle.cg_formula.specs.Lits.{inverse, same_lit, is_in}
use Rattle.cg_formula.specs.Satisfiable.{lit_bit, clause_bit, IsUnsatisfiable}
use Rattle.cg_lrat.specs.Accepted.{Live, State, with_clauses, first_state, non_false_lits, non_false_of, unit_then, false_at}
use Rattle.cg_lrat.specs.Accepted.{known_then, hints_fault, is_tautology, clause_fault, addition_fault, fault_of, without}
use Rattle.cg_lrat.specs.Accepted.{state_after, adds_empty, step_verdict, verdict_from, verdict}
use Rattle.cg_formula.proofs.Connectives.{or_right}
use Rattle.cg_formula.proofs.Members.{same_lit_equal}
use Rattle.cg_formula.proofs.TrueLiterals.{lit_bit-inverse, found_true, all_false, all_more}

-- clauses where some literals are true

-- a true literal is not false
non_false_holds : (bits : List Bool) (trues lits : List Lit) → list_all (lit_bit bits) trues ≡ true → list_any (lit_bit bits) lits ≡ true
    → list_any (lit_bit bits) (non_false_lits trues lits) ≡ true
non_false_holds bits trues [] all e = absurd (cc)
non_false_holds bits trues (l ∷ ls) all e = pick (non_false_holds bits trues ls all) (is_in (inverse l) trues) refl where
  pick : (list_any (lit_bit bits) ls ≡ true → list_any (lit_bit bits) (non_false_lits trues ls) ≡ true)
      → (b : Bool) → is_in (inverse l) trues ≡ b → list_any (lit_bit bits) (non_false_lits trues (l ∷ ls)) ≡ true
  pick later true f =
      let inverse_true : lit_bit bits (inverse l) ≡ true = found_true bits (inverse l) trues f all in
      let no : lit_bit bits l ≡ false = not-true (lit_bit bits l) (sym (lit_bit-inverse bits l) ∙ inverse_true) in
      elim (or_cases (lit_bit bits l) (list_any (lit_bit bits) ls) e) [ inl held ↦ absurd (cc) | inr rest ↦ rw f (later rest) ]
  pick later false f =
      elim (or_cases (lit_bit bits l) (list_any (lit_bit bits) ls) e)
      [ inl here ↦ rw (f, here) refl | inr rest ↦ rw f (or_right (lit_bit bits l) (later rest)) ]

all_same : (bits : List Bool) (l : Lit) (ls : List Lit) → list_all (same_lit l) ls ≡ true → list_any (lit_bit bits) (l ∷ ls) ≡ true
    → lit_bit bits l ≡ true
all_same bits l [] same e = elim (or_cases (lit_bit bits l) false e) [ inl here ↦ here | inr none ↦ absurd (cc) ]
all_same bits l (m ∷ ms) same e =
    let parts = and_parts (same_lit l m) (list_all (same_lit l) ms) same in
    elim (or_cases (lit_bit bits l) (lit_bit bits m || list_any (lit_bit bits) ms) e) [
      | inl here ↦ here
      | inr rest ↦ elim (or_cases (lit_bit bits m) (list_any (lit_bit bits) ms) rest) [
        | inl next ↦ ap (lit_bit bits) (same_lit_equal l m parts.0) ∙ next
        | inr later ↦ all_same bits l ms parts.1 (or_right (lit_bit bits l) later)
      ]
    ]

one_holds : (bits : List Bool) (lit : Lit) (ls : List Lit) → non_false_of ls ≡ left.One lit → list_any (lit_bit bits) ls ≡ true
    → lit_bit bits lit ≡ true
one_holds bits lit [] e any = absurd (cc)
one_holds bits lit (l ∷ ls) e any = pick (list_all (same_lit l) ls) refl where
  pick : (b : Bool) → list_all (same_lit l) ls ≡ b → lit_bit bits lit ≡ true
  pick true f =
      let one : left.One l ≡ left.One lit = rw f at e in
      let same : l ≡ lit = cc in
      ap (lit_bit bits) (sym same) ∙ all_same bits l ls f any
  pick false f = let many : left.Many ≡ left.One lit = rw f at e in absurd (cc)

nothing_holds : (bits : List Bool) (hint : ℕ) (ls : List Lit) → false_at (non_false_of ls) hint ≡ None → list_any (lit_bit bits) ls ≡ true
    → ⊥
nothing_holds bits hint [] e any = cc
nothing_holds bits hint (l ∷ ls) e any = pick (list_all (same_lit l) ls) refl where
  pick : (b : Bool) → list_all (same_lit l) ls ≡ b → ⊥
  pick true f = let some : Some (whys.NotFalse hint) ≡ None = rw f at e in cc
  pick false f = let some : Some (whys.NotFalse hint) ≡ None = rw f at e in cc

-- hints

unit_found : (trues : List Lit) (hint : ℕ) (ls : List Lit) (later : Lit → Option Why) → unit_then (non_false_of ls) trues hint later ≡ None
    → (lit : Lit) × (non_false_of ls ≡ left.One lit) × (later lit ≡ None)
unit_found trues hint ls later e = pick (non_false_of ls) refl e where
  pick : (o : NonFalse) → non_false_of ls ≡ o → unit_then o trues hint later ≡ None
      → (lit : Lit) × (non_false_of ls ≡ left.One lit) × (later lit ≡ None)
  pick left.Nothing f e = absurd (cc)
  pick (left.One lit) f e =
      elim (is_in lit trues) as
      (λ b. (if b then Some (whys.NotUnit hint) else later lit) ≡ None → (lit : Lit) × (non_false_of ls ≡ left.One lit) × (later lit ≡ None)) [
        | true ↦ λ g. absurd (cc)
        | false ↦ λ g. (lit, f, g)
      ] e
  pick left.Many f e = absurd (cc)

pub known_found : (o : Option (List Lit)) (hint : ℕ) (later : List Lit → Option Why) → known_then o hint later ≡ None
    → (lits : List Lit) × (o ≡ Some lits) × (later lits ≡ None)
known_found None hint later e = absurd (cc)
known_found (Some lits) hint later e = (lits, refl, e)

-- the bits satisfy each live clause
abbrev LiveHolds : List Bool → Live → Type 0
LiveHolds bits live = (id : ℕ) (lits : List Lit) → live id ≡ Some lits → list_any (lit_bit bits) lits ≡ true

-- no hints without a fault, where all of these literals are true
refuted : (bits : List Bool) (live : Live) → LiveHolds bits live → (trues : List Lit) (hints : List ℕ)
    → list_all (lit_bit bits) trues ≡ true
    → hints_fault live trues hints ≡ None → ⊥
refuted bits live holds trues [] all e = cc
refuted bits live holds trues (hint ∷ []) all e =
    let known = known_found (live hint) hint (λ lits. false_at (non_false_of (non_false_lits trues lits)) hint) e in
    nothing_holds bits hint (non_false_lits trues known.0) known.2 (non_false_holds bits trues known.0 all (holds hint known.0 known.1))
refuted bits live holds trues (hint ∷ next ∷ later) all e =
    let known =
    known_found (live hint) hint
    (λ lits. unit_then (non_false_of (non_false_lits trues lits)) trues hint (λ lit. hints_fault live (trues ++ lit ∷ []) (next ∷ later)))
    e in
    let unit = unit_found trues hint (non_false_lits trues known.0) (λ lit. hints_fault live (trues ++ lit ∷ []) (next ∷ later)) known.2 in
    let true_lit : lit_bit bits unit.0 ≡ true =
    one_holds bits unit.0 (non_false_lits trues known.0) unit.1 (non_false_holds bits trues known.0 all (holds hint known.0 known.1)) in
    refuted bits live holds (trues ++ unit.0 ∷ []) (next ∷ later) (all_more bits trues unit.0 all true_lit) unit.2

-- steps

clause_holds : (bits : List Bool) (live : Live) → LiveHolds bits live → (lits : List Lit) (hints : List ℕ)
    → clause_fault live lits hints ≡ None → list_any (lit_bit bits) lits ≡ true
clause_holds bits live holds lits hints e = pick (list_any (lit_bit bits) lits) refl where
  none : (b : Bool) → (if b then Some whys.Tautology else hints_fault live (map inverse lits) hints) ≡ None
      → hints_fault live (map inverse lits) hints ≡ None
  none true f = absurd (cc)
  none false f = f

  pick : (b : Bool) → list_any (lit_bit bits) lits ≡ b → list_any (lit_bit bits) lits ≡ true
  pick true f = f
  pick false f = absurd (refuted bits live holds (map inverse lits) hints (all_false bits lits f) (none (is_tautology lits) e))

addition_holds : (bits : List Bool) (state : State) → LiveHolds bits state.live → (id : ℕ) (lits : List Lit) (hints : List ℕ)
    → addition_fault state id lits hints ≡ None → list_any (lit_bit bits) lits ≡ true
addition_holds bits state holds id lits hints e = pick (nat_le id state.greatest) e where
  pick : (b : Bool) → (if b then Some (whys.UsedId id) else clause_fault state.live lits hints) ≡ None → list_any (lit_bit bits) lits ≡ true
  pick true f = absurd (cc)
  pick false f = clause_holds bits state.live holds lits hints f

put_holds : (bits : List Bool) (live : Live) → LiveHolds bits live → (id : ℕ) (lits : List Lit) → list_any (lit_bit bits) lits ≡ true
    → LiveHolds bits (update nat_eq live id (Some lits))
put_holds bits live holds id lits any q found = pick (nat_eq id q) where
  pick : (b : Bool) → (if b then Some lits else live q) ≡ Some found → list_any (lit_bit bits) found ≡ true
  pick true e = let same : lits ≡ found = cc in ap (list_any (lit_bit bits)) (sym same) ∙ any
  pick false e = holds q found e

without_holds : (bits : List Bool) (live : Live) → LiveHolds bits live → (ids : List ℕ) → LiveHolds bits (without live ids)
without_holds bits live holds [] = holds
without_holds bits live holds (id ∷ later) = without_holds bits (update nat_eq live id None) removed later where
  removed : LiveHolds bits (update nat_eq live id None)
  removed q found = pick (nat_eq id q) where
    pick : (b : Bool) → (if b then None else live q) ≡ Some found → list_any (lit_bit bits) found ≡ true
    pick true e = absurd (cc)
    pick false e = holds q found e

step_holds : (bits : List Bool) (state : State) → LiveHolds bits state.live → (body : Body) (id : ℕ) → fault_of state body id ≡ None
    → LiveHolds bits (state_after state body id).live
step_holds bits state holds (Add clause hints) id e =
    put_holds bits state.live holds id clause.lits (addition_holds bits state holds id clause.lits hints e)
step_holds bits state holds (Delete ids) id e = without_holds bits state.live holds ids

no_empty : (bits : List Bool) (lits : List Lit) → (length lits == 0) ≡ true → list_any (lit_bit bits) lits ≡ true → ⊥
no_empty bits [] e any = cc
no_empty bits (l ∷ ls) e any = let no : suc (length ls) ≡ 0 = eqb-true (suc (length ls)) 0 e in cc

empty_refused : (bits : List Bool) (state : State) → LiveHolds bits state.live → (body : Body) (id : ℕ) → fault_of state body id ≡ None
    → adds_empty body ≡ true → ⊥
empty_refused bits state holds (Add clause hints) id e empty =
    no_empty bits clause.lits empty (addition_holds bits state holds id clause.lits hints e)
empty_refused bits state holds (Delete ids) id e empty = cc

pub accepted_holds : (bits : List Bool) (state : State) → LiveHolds bits state.live → (steps : List Step)
    → verdict_from state steps ≡ Accepted → ⊥
accepted_holds bits state holds [] e = cc
accepted_holds bits state holds (step ∷ later) e =
    pick (fault_of state step.body step.id) refl (adds_empty step.body) refl e
    (λ none. accepted_holds bits (state_after state step.body step.id) (step_holds bits state holds step.body step.id none) later) where
      pick : (fault : Option Why) → fault_of state step.body step.id ≡ fault → (empty : Bool) → adds_empty step.body ≡ empty
          → step_verdict fault empty step.line (verdict_from (state_after state step.body step.id) later) ≡ Accepted
          → (fault_of state step.body step.id ≡ None → verdict_from (state_after state step.body step.id) later ≡ Accepted → ⊥) → ⊥
      pick (Some why) f empty g e rest = cc
      pick None f true g e rest = empty_refused bits state holds step.body step.id f g
      pick None f false g e rest = rest f e

-- the formula

first_holds : (bits : List Bool) (id : ℕ) (clauses : List Clause) (live : Live) → LiveHolds bits live
    → list_all (clause_bit bits) clauses ≡ true → LiveHolds bits (with_clauses id clauses live)
first_holds bits id [] live holds all = holds
first_holds bits id (c ∷ cs) live holds all =
    let parts = and_parts (clause_bit bits c) (list_all (clause_bit bits) cs) all in
    first_holds bits (id + 1) cs (update nat_eq live id (Some c.lits)) (put_holds bits live holds id c.lits parts.0) parts.1

nothing_live : (bits : List Bool) → LiveHolds bits (λ _. None)
nothing_live bits id lits e = absurd (cc)

-- an accepted log proves that no bits satisfy the formula
pub accepted_unsatisfiable : (formula : Formula) (log : Log) → verdict formula log ≡ Accepted → IsUnsatisfiable formula
accepted_unsatisfiable formula log e bits satisfies =
    accepted_holds bits (first_state formula) (first_holds bits 1 formula.clauses (λ _. None) (nothing_live bits) satisfies.each_clause)
    log.steps e

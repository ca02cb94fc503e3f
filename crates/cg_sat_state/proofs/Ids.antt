-- Hints without a fault are ids of clauses.
use Rattle.std.proofs.Common.{◌≡◌, ℕ, zero, suc, ◌<◌, ◌≤◌, List, [], ◌∷◌, ◌++◌, Some, None}
use Rattle.std.proofs.Common.{length, arith}
use Rattle.std.specs.List.{AllByRecursion}
use Rattle.cg_formula.specs.declared.formula.Lit.{Lit}
use Rattle.cg_lrat.specs.Accepted.{unit_then, non_false_of, non_false_lits, false_at, hints_fault}
use Rattle.cg_sat_state.specs.Store.{Store, live_of}
use Rattle.cg_sat_state.proofs.Store.{clause_within}
use Rattle.cg_lrat.proofs.HintIds.{unit}
use Rattle.cg_lrat.proofs.Sound.{known_found}

abbrev pub IsPlace : ℕ → ℕ → Type 0
IsPlace count id = (1 ≤ id) × (id ≤ count)

live_within : (clauses : Store) (id : ℕ) (lits : List Lit) → live_of clauses id ≡ Some lits → IsPlace (length clauses) id
live_within clauses zero lits e = absurd (cc)
live_within clauses (suc k) lits e = let within : k < length clauses = clause_within clauses k lits e in (omega arith, omega arith)

pub hints_are_ids : (clauses : Store) (trues : List Lit) (hints : List ℕ) → hints_fault (live_of clauses) trues hints ≡ None → AllByRecursion (IsPlace (length clauses)) hints
hints_are_ids clauses trues [] e = tt
hints_are_ids clauses trues (hint ∷ []) e =
    let found = known_found (live_of clauses hint) hint (λ lits. false_at (non_false_of (non_false_lits trues lits)) hint) e in
    (live_within clauses hint found.0 found.1, tt)
hints_are_ids clauses trues (hint ∷ next ∷ later) e =
    let found = known_found (live_of clauses hint) hint (λ lits. unit_then (non_false_of (non_false_lits trues lits)) trues hint (λ lit. hints_fault (live_of clauses) (trues ++ lit ∷ []) (next ∷ later))) e in
    let one = unit (non_false_of (non_false_lits trues found.0)) trues hint (λ lit. hints_fault (live_of clauses) (trues ++ lit ∷ []) (next ∷ later)) found.2 in
    (live_within clauses hint found.0 found.1, hints_are_ids clauses (trues ++ one.0 ∷ []) (next ∷ later) one.1)

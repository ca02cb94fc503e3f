-- Hints without a fault are ids of live clauses.
use Rattle.std.proofs.Common.{◌≡◌, ℕ, zero, suc, ◌<◌, ◌≤◌, Bool, true, false, List, [], ◌∷◌, ◌++◌, Option, Some, None, refl, length}
use Rattle.std.proofs.Common.{arith}
use Rattle.std.specs.List.{AllByRecursion}
use Rattle.std.proofs.lemmas.Option.{slice_get_within}
use Rattle.cg_formula.specs.declared.formula.Lit.{Lit}
use Rattle.cg_lrat.specs.declared.verdict.Why.{Why}
use Rattle.cg_lrat.specs.declared.hint.NonFalse.{NonFalse}
use Rattle.cg_lrat.specs.declared.hint.NonFalse.TheVariants as left
use Rattle.cg_formula.specs.Lits.{is_in}
use Rattle.cg_lrat.specs.Accepted.{unit_then, non_false_of, non_false_lits, false_at, hints_fault}
use Rattle.cg_lrat.specs.GrownLog.{live_of}
use Rattle.cg_lrat.proofs.Sound.{known_found}

-- the id of one of so many clauses
abbrev pub IsAmong : ℕ → ℕ → Type 0
IsAmong count id = (1 ≤ id) × (id ≤ count)

live_within : (clauses : List (List Lit)) (id : ℕ) (lits : List Lit) → live_of clauses id ≡ Some lits → IsAmong (length clauses) id
live_within clauses zero lits e = absurd (cc)
live_within clauses (suc k) lits e = let within : k < length clauses = slice_get_within clauses k lits e in (omega arith, omega arith)

pub unit : (o : NonFalse) (trues : List Lit) (hint : ℕ) (later : Lit → Option Why) → unit_then o trues hint later ≡ None
    → (lit : Lit) × (later lit ≡ None)
unit left.Nothing trues hint later e = absurd (cc)
unit (left.One lit) trues hint later e = pick (is_in lit trues) refl where
  pick : (b : Bool) → is_in lit trues ≡ b → (l : Lit) × (later l ≡ None)
  pick true f = absurd (cc (rw f at e))
  pick false f = (lit, rw f at e)
unit left.Many trues hint later e = absurd (cc)

pub hints_are_ids : (clauses : List (List Lit)) (trues : List Lit) (hints : List ℕ) → hints_fault (live_of clauses) trues hints ≡ None
    → AllByRecursion (IsAmong (length clauses)) hints
hints_are_ids clauses trues [] e = tt
hints_are_ids clauses trues (hint ∷ []) e =
    let found = known_found (live_of clauses hint) hint (λ lits. false_at (non_false_of (non_false_lits trues lits)) hint) e in
    (live_within clauses hint found.0 found.1, tt)
hints_are_ids clauses trues (hint ∷ next ∷ later) e =
    let found =
    known_found (live_of clauses hint) hint
    (λ lits. unit_then (non_false_of (non_false_lits trues lits)) trues hint (λ lit. hints_fault (live_of clauses) (trues ++ lit ∷ []) (next ∷ later)))
    e in
    let one =
    unit (non_false_of (non_false_lits trues found.0)) trues hint
    (λ lit. hints_fault (live_of clauses) (trues ++ lit ∷ []) (next ∷ later)) found.2 in
    (live_within clauses hint found.0 found.1, hints_are_ids clauses (trues ++ one.0 ∷ []) (next ∷ later) one.1)

-- Hints that refute what is needed.
use Rattle.std.specs.Prelude.{◌≡◌, ℕ, Bool, true, false, List, ◌∷◌, ◌++◌, None, ◌⊎◌}
use Rattle.cg_formula.specs.declared.formula.Lit.{Lit}
use Rattle.cg_formula.specs.Lits.{inverse, is_in}
use Rattle.cg_lrat.specs.Accepted.{Live, hints_fault}
use Rattle.cg_formula.specs.Assignments.{IsUnassigned}

-- what is to be true before the hints are taken: of the first literals what is needed, all that are kept, and nothing else
pub record Suits (before : List Lit) (needs : Lit → Bool) (held trues : List Lit) : Type 0 where
  pub needed : (lit : Lit) → is_in lit before ≡ true → needs lit ≡ true → is_in lit trues ≡ true
  pub kept : (lit : Lit) → is_in lit held ≡ true → is_in lit trues ≡ true
  pub only : (lit : Lit) → is_in lit trues ≡ true → (is_in lit before ≡ true) ⊎ (is_in lit held ≡ true)

-- then the hints have no fault
pub record Refutes (live : Live) (before : List Lit) (needs : Lit → Bool) (kept : List Lit) (hints : List ℕ) : Type 0 where
  pub fine : (trues : List Lit) → Suits before needs kept trues → hints_fault live trues hints ≡ None

-- what is kept stands apart from the first literals, and in itself
pub record IsApart (before kept : List Lit) : Type 0 where
  pub open_in : (lit : Lit) → is_in lit before ≡ true → IsUnassigned kept lit
  pub one_sign : (lit : Lit) → is_in lit kept ≡ true → is_in (inverse lit) kept ≡ false

-- once these hints are taken the last literals are true, where at first the first were
abbrev pub Follows : Live → List Lit → List ℕ → List Lit → Type 0
Follows live first hints last = (next : ℕ) (later : List ℕ) →
    hints_fault live first (hints ++ next ∷ later) ≡ hints_fault live last (next ∷ later)

-- The table of an assignment: which literals are marked.
use Rattle.std.specs.Prelude.{◌≡◌, ℕ, Bool, false, List, length, if◌then◌else◌, nat_lt, nat_eq}
use Rattle.std.specs.List.{slice_index_or, list_any}
use Rattle.cg_formula.specs.declared.formula.Lit.{Lit}
use Rattle.cg_formula.specs.Lits.{lit_number, is_in}

-- whether a literal is marked: near ones at their number in the table, far ones by their number in a set
abbrev pub is_marked : List Bool → List ℕ → Lit → Bool
is_marked near far lit =
    if nat_lt (lit_number lit) (length near) then slice_index_or near (lit_number lit) false
    else list_any (nat_eq (lit_number lit)) far

-- what is marked is what was made true
pub record Marks (near : List Bool) (far : List ℕ) (trail : List Lit) : Type 0 where
  pub same : (lit : Lit) → is_marked near far lit ≡ is_in lit trail

-- The clauses of a store, in one list of literals.
use Rattle.std.specs.Prelude.{ℕ, ◌≤◌, List, Option, Some, None, map, nat_le, if◌then◌else◌}
use Rattle.std.specs.List.{slice_range}
use Rattle.cg_formula.specs.declared.formula.Lit.{Lit}
use Rattle.cg_sat_state.specs.declared.clauses.Span.{Span}
use Rattle.cg_sat_state.specs.Store.{Store}

-- the clause between two places of the list; it was taken away where they do not stand in order
abbrev pub held : List Lit → Span → Option (List Lit)
held lits span = if nat_le span.from span.to then Some (slice_range lits span.from span.to) else None

-- the clause of each span, in order
abbrev pub store_of : List Lit → List Span → Store
store_of lits spans = map (λ span. held lits span) spans

-- the places are those of a list of this length
pub record IsWithin (count : ℕ) (span : Span) : Type 0 where
  pub within : span.to ≤ count

-- The live clauses as a function of the id.
use Rattle.std.specs.Prelude.{ℕ, ◌-◌, ◌&&◌, Bool, false, List, Option, Some, None, if◌then◌else◌, nat_eq, nat_lt}
use Rattle.std.specs.Option.{option_map}
use Rattle.std.specs.HashMap.{get}
use Rattle.std.specs.List.{slice_get, slice_index_or}
use Rattle.cg_formula.specs.declared.formula.Lit.{Lit}
use Rattle.cg_formula.specs.declared.formula.Clause.{Clause}
use Rattle.cg_lrat.specs.declared.added.AddedClauses.{AddedClauses}
use Rattle.cg_lrat.specs.declared.live.LiveClauses.{LiveClauses}

abbrev pub added_in : AddedClauses → ℕ → Option (List Lit)
added_in added id = option_map (λ clause. clause.now) (get nat_eq added.by_id id)

-- whether the clause with this id, from 1 on, is marked as live still
abbrev pub is_kept : List Bool → ℕ → Bool
is_kept kept id = nat_lt 0 id && slice_index_or kept (id - 1) false

-- the clause of a formula that has this id, if it is live still
abbrev pub kept_clause : List Clause → List Bool → ℕ → Option (List Lit)
kept_clause clauses kept id = if is_kept kept id then option_map (λ (clause : Clause). clause.lits) (slice_get clauses (id - 1)) else None

abbrev pub or_else : Option (List Lit) → Option (List Lit) → Option (List Lit)
or_else (Some clause) other = Some clause
or_else None other = other

abbrev pub live_in : LiveClauses → ℕ → Option (List Lit)
live_in live id = or_else (kept_clause live.given.now live.kept.items id) (added_in live.added id)

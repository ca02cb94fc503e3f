-- Which cells fit a need of clock gating, by their truth tables.
use Rattle.std.specs.Prelude.{ℕ, Bool, true, false, not, ◌&&◌, ◌==◌, List, [], ◌∷◌, Option, None, Some, count_by}
use Rattle.cg_cell.specs.Cell.{CellData, has_test}
use Rattle.cg_cell.specs.Pins.{is_data}
use Rattle.cg_cell.specs.Term.{Term, term_value}
use Rattle.cg_cell.specs.declared.cell.CellKind.{CellKind}
use Rattle.cg_cell.specs.declared.cell.CellKind.TheVariants.{Logic, Gater as GaterCell}
use Rattle.cg_cell.specs.declared.fit.FitKind.{FitKind}
use Rattle.cg_cell.specs.declared.fit.FitKind.TheVariants.{Gater, TestGater, Inv, And2, Or2}

abbrev pub is_logic : CellKind → Bool
is_logic Logic = true
is_logic _ = false

abbrev pub is_gater : CellKind → Bool
is_gater GaterCell = true
is_gater _ = false

-- a logic cell of so many inputs
abbrev pub is_gate : ℕ → CellData → Bool
is_gate inputs cell = is_logic cell.kind && count_by is_data cell.pins == inputs

-- whether a function is 1 at these bits
abbrev pub is_one : Option Term → List Bool → Bool
is_one None bits = false
is_one (Some function) bits = term_value bits function

-- 1 where its input is 0
abbrev pub is_inversion : (List Bool → Bool) → Bool
is_inversion f = f (false ∷ []) && not (f (true ∷ []))

-- 1 where both inputs are 1
abbrev pub is_conjunction : (List Bool → Bool) → Bool
is_conjunction f =
    not (f (false ∷ false ∷ [])) && not (f (false ∷ true ∷ [])) && not (f (true ∷ false ∷ [])) && f (true ∷ true ∷ [])

-- 1 where some input is 1
abbrev pub is_disjunction : (List Bool → Bool) → Bool
is_disjunction f = not (f (false ∷ false ∷ [])) && f (false ∷ true ∷ []) && f (true ∷ false ∷ []) && f (true ∷ true ∷ [])

-- whether a cell is of the kind that is needed
abbrev pub is_fit : FitKind → CellData → Bool
is_fit Gater cell = is_gater cell.kind && not (has_test cell)
is_fit TestGater cell = is_gater cell.kind && has_test cell
is_fit Inv cell = is_gate 1 cell && is_inversion (is_one cell.function)
is_fit And2 cell = is_gate 2 cell && is_conjunction (is_one cell.function)
is_fit Or2 cell = is_gate 2 cell && is_disjunction (is_one cell.function)

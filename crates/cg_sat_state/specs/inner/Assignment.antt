-- The literals that are true, marked in a table.
use Rattle.std.specs.Prelude.{◌≡◌, Bool, false, List}
use Rattle.std.specs.List.{slice_index_or}
use Rattle.cg_formula.specs.declared.formula.Lit.{Lit}
use Rattle.cg_formula.specs.Lits.{is_in, lit_number}
use Rattle.cg_sat_state.specs.declared.trail.Entry.{Entry}
use Rattle.cg_sat_state.specs.Trail.{lits_of}

-- the table of true literals tells what is in the trail
pub record IsAssignmentOf (trues : List Bool) (trail : List Entry) : Type 0 where
  pub same : (lit : Lit) → slice_index_or trues (lit_number lit) false ≡ is_in lit (lits_of trail)

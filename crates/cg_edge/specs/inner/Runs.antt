-- Registers in runs: each of one clock net, one run behind the other.
use Rattle.std.specs.Prelude.{◌≡◌, ◌<◌, ◌≤◌, ℕ, List, [], ◌∷◌, slice_get, Some}
use Rattle.cg_netlist.specs.Circuit.{RegisterCell}
use Rattle.cg_edge.specs.declared.runs.Run.{Run}

-- the registers from one number up to the run's end are some, and have its clock net
pub record IsRun (rs : List (RegisterCell ℕ ℕ)) (first : ℕ) (run : Run) : Type 0 where
  pub some : first < run.end
  pub clocked : (k : ℕ) (r : RegisterCell ℕ ℕ) → first ≤ k → k < run.end → slice_get rs k ≡ Some r → r.clock ≡ run.clock

-- the registers from one number up to another stand in runs
abbrev pub AreRuns : List (RegisterCell ℕ ℕ) → ℕ → ℕ → List Run → Type 0
AreRuns rs first last [] = first ≡ last
AreRuns rs first last (run ∷ runs) = IsRun rs first run × AreRuns rs run.end last runs

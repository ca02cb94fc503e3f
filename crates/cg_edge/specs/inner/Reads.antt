-- How often logic cells read a net.
use Rattle.std.specs.Prelude.{ℕ, ◌+◌, ◌<◌, ◌≤◌, List, length, nat_eq, slice_index_or}
use Rattle.std.specs.List.{count_by, sum_by}
use Rattle.cg_netlist.specs.Circuit.{LogicCell}
use Rattle.cg_edge.specs.inner.Keeping.{readers_at}
use Rattle.cg_edge.specs.inner.Spans.{Filled}

-- how often a net is an input of logic cells
abbrev pub reads : ℕ → List (LogicCell ℕ) → ℕ
reads x cells = sum_by (λ (cell : LogicCell ℕ). count_by (nat_eq x) cell.inputs) cells

-- there is room for one place more for each time that an input is a net
abbrev pub HasRoom : Filled → List ℕ → Type 0
HasRoom f inputs = (x : ℕ) → x < length f.lists → length (readers_at f.lists x) + count_by (nat_eq x) inputs ≤ slice_index_or f.room x 0

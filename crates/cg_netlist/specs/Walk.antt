-- Walks over logic cells: there is a value at each net, a closure is called once at each cell of a list of cells, with
-- the values of the cell's inputs as they are then, and its answer is put at the cell's output.
use Rattle.std.specs.Prelude.{◌≡◌, ℕ, List, [], ◌∷◌, length, slice_get, slice_set, Some}
use Rattle.std.specs.Borrow.{Bor}
use Rattle.std.specs.Fn.{Called, Mut}
use Rattle.cg_netlist.specs.Circuit.{Circuit, LogicCell}
use Rattle.cg_netlist.specs.Moment.{values_at}

-- what a walk calls: it takes the number of a cell and the values of the cell's inputs, and answers a value
abbrev pub Step : Type 0 → Type 0 → Type 1
Step F T = Mut F (ℕ × (Bor (List T) × Unit {0})) T

-- the closure may be called at cell k, with these values of its inputs
abbrev pub TakesCell : {F T : Type 0} → Step F T → F → ℕ → List T → Type 0
TakesCell g f k xs = (shown : Bor (List _)) → shown.now ≡ xs → g.pre f (k, (shown, tt))

-- such a call may answer y, and leave the closure in the state f'
pub record CalledAtCell {F T : Type 0} (g : Step F T) (f : F) (k : ℕ) (xs : List T) (y : T) (f' : F) : Type 0 where
  pub shown : Bor (List T)
  pub shows : shown.now ≡ xs
  pub called : Called g f (k, (shown, tt)) y f'

-- The closure may be called at these cells one after another: at the first now, and after each call that this one may
-- be, at those behind it.
abbrev pub TakesEach : {F T : Type 0} → Step F T → List (LogicCell ℕ) → List ℕ → F → List T → Type 0
TakesEach g cells [] f values = Unit {0}
TakesEach {F} {T} g cells (k ∷ ks) f values = (cell : LogicCell ℕ) → slice_get cells k ≡ Some cell
    → TakesCell g f k (values_at values cell.inputs)
    × ((y : T) (f' : F) → CalledAtCell g f k (values_at values cell.inputs) y f' →
    TakesEach g cells ks f' (slice_set values cell.output y))

-- The closure was called at these cells one after another. It went from the state f to `last`, and the values of the
-- nets from `values` to `left`.
abbrev pub CalledEach : {F T : Type 0} → Step F T → List (LogicCell ℕ) → List ℕ → F → List T → F → List T → Type 0
CalledEach g cells [] f values last left = (last ≡ f) × (left ≡ values)
CalledEach {F} {T} g cells (k ∷ ks) f values last left = (cell : LogicCell ℕ) × (y : T) × (f' : F) × (slice_get cells k ≡ Some cell)
    × CalledAtCell g f k (values_at values cell.inputs) y f' × CalledEach g cells ks f' (slice_set values cell.output y) last left

-- a walk over these cells may be made, and was made
pub record MayWalk {F T : Type 0} (g : Step F T) (cells : List (LogicCell ℕ)) (ks : List ℕ) (f : F) (values : List T) : Type 0 where
  pub takes : TakesEach g cells ks f values

pub record Walks {F T : Type 0} (g : Step F T) (cells : List (LogicCell ℕ)) (ks : List ℕ) (f : F) (values : List T) (last : F)
    (left : List T) : Type 0 where
  pub called : CalledEach g cells ks f values last left

-- k is a logic cell, and there are as many values as it has inputs
abbrev pub IsCellCall : {T : Type 0} → Circuit → ℕ → List T → Type 0
IsCellCall c k xs = (cell : LogicCell ℕ) × (slice_get c.cells k ≡ Some cell) × (length xs ≡ length cell.inputs)

-- Walks over logic cells that may fail: a closure is called at each cell of a list of cells, with a state that goes from
-- call to call and the values of the cell's inputs as they are then; its answer is put at the cell's output, and its first
-- fault ends the walk.
use Rattle.std.specs.Prelude.{◌≡◌, ◌⊎◌, ℕ, List, [], ◌∷◌, slice_get, slice_set, Some, Result, Ok, Err}
use Rattle.std.specs.Borrow.{Bor, MutBor}
use Rattle.std.specs.Fn.{Shared}
use Rattle.cg_netlist.specs.Circuit.{LogicCell}
use Rattle.cg_netlist.specs.Moment.{values_at}

-- what such a walk calls: it takes the state, the number of a cell and the values of the cell's inputs, and answers a value
-- or a fault
abbrev pub Trial : Type 0 → Type 0 → Type 0 → Type 0 → Type 1
Trial F S T E = Shared F (MutBor S × (ℕ × (Bor (List T) × Unit {0}))) (Result T E × (MutBor S × Unit {0}))

module _ {F S T E : Type 0} (g : Trial F S T E) (f : F) where
  -- the closure may be called with this state at cell k, with these values of its inputs
  abbrev pub TakesCell : S → ℕ → List T → Type 0
  TakesCell s k xs = (held : MutBor S) (shown : Bor (List T)) → held.now ≡ s → shown.now ≡ xs → g.pre f (held, (k, (shown, tt)))

  -- such a call may give this answer, and leave the state s'
  pub record AnswersAtCell (s : S) (k : ℕ) (xs : List T) (answer : Result T E) (s' : S) : Type 0 where
    pub held : MutBor S
    pub holds : held.now ≡ s
    pub shown : Bor (List T)
    pub shows : shown.now ≡ xs
    pub left : MutBor S
    pub met : g.post f (held, (k, (shown, tt))) (answer, (left, tt))
    pub leaves : left.now ≡ s'

  module _ (cells : List (LogicCell ℕ)) where
    -- it may be called at these cells one after another: at the first now, and after each answer that this call may give,
    -- at those behind it
    abbrev pub TakesEach : List ℕ → S → List T → Type 0
    TakesEach [] s values = Unit {0}
    TakesEach (k ∷ ks) s values = (cell : LogicCell ℕ) → slice_get cells k ≡ Some cell
        → TakesCell s k (values_at values cell.inputs)
        × ((y : T) (s' : S) → AnswersAtCell s k (values_at values cell.inputs) (Ok y) s' →
        TakesEach ks s' (slice_set values cell.output y))

    -- it was called at these cells one after another, up to the end or to the first fault: that came of it, and that is left
    abbrev pub TriesEach : List ℕ → S → List T → Result (Unit {0}) E → S → List T → Type 0
    TriesEach [] s values result last left = (result ≡ Ok tt) × (last ≡ s) × (left ≡ values)
    TriesEach (k ∷ ks) s values result last left = (cell : LogicCell ℕ) × (slice_get cells k ≡ Some cell)
        × (((y : T) × (s' : S) × AnswersAtCell s k (values_at values cell.inputs) (Ok y) s'
        × TriesEach ks s' (slice_set values cell.output y) result last left)
        ⊎ ((fault : E) × AnswersAtCell s k (values_at values cell.inputs) (Err fault) last × (result ≡ Err fault)
        × (left ≡ values)))

    -- a walk over these cells may be tried, and was tried
    pub record MayTry (ks : List ℕ) (s : S) (values : List T) : Type 0 where
      pub takes : TakesEach ks s values

    pub record Tries (ks : List ℕ) (s : S) (values : List T) (result : Result (Unit {0}) E) (last : S)
        (left : List T) : Type 0 where
      pub tried : TriesEach ks s values result last left

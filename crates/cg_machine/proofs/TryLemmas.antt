-- What a walk that may fail keeps from cell to cell.
use Rattle.std.proofs.Common.{◌≡◌, ◌⊎◌, ℕ, ◌+◌, ◌<◌, List, [], ◌∷◌, ◌++◌, length, map, slice_get, slice_set, Option, Some, Result}
use Rattle.std.proofs.Common.{Ok, Err, refl, sym, ◌∙◌, ap, subst, inl, inr, arith}
use Rattle.std.specs.Borrow.{Bor, MutBor}
use Rattle.std.specs.List.{All}
use Rattle.cg_netlist.specs.Circuit.{LogicCell, used_nets}
use Rattle.cg_netlist.specs.Moment.{values_at}
use Rattle.cg_netlist.specs.Netlist.{widest_of}
use Rattle.cg_netlist.proofs.CellFits.{widest_at}
use Rattle.cg_netlist.proofs.DriverTable.{cell_net_within}
use Rattle.cg_net.proofs.Members.{All-from_members, All-member}
use Rattle.cg_netlist.proofs.Used.{input_is_used}
use Rattle.cg_machine.specs.Machine.{IsMachine, MachineData}
use Rattle.cg_machine.specs.Tries.{AnswersAtCell, Trial, TriesEach}

-- an answer at references to these values
pub answers_at_cell : {F S T E : Type 0} (g : Trial F S T E) (f : F) (s : S) (k : ℕ) (xs : List T) (answer : Result T E) (s' : S) {held : MutBor S} {shown : Bor (List T)} {left : MutBor S}
    → g.post f (held, (k, (shown, tt))) (answer, (left, tt)) → held.now ≡ s → shown.now ≡ xs → left.now ≡ s' → AnswersAtCell g f s k xs answer s'
answers_at_cell g f s k xs answer s' {held} {shown} {left} met holds shows leaves = record { held = held; holds = holds; shown = shown; shows = shows; left = left; met = met; leaves = leaves }

module _ {F S T E : Type 0} (g : Trial F S T E) (f : F) (cells : List (LogicCell ℕ)) where
  -- what was called so far, and what is still to be called, make one walk
  abbrev pub GoesOn : List ℕ → S → List T → List ℕ → S → List T → Type 0
  GoesOn order s values ks s' values' = (result : Result (Unit {0}) E) (last : S) (left : List T) → TriesEach g f cells ks s' values' result last left → TriesEach g f cells order s values result last left

  pub goes_on : (order : List ℕ) (s : S) (values : List T) (k : ℕ) (ks : List ℕ) (s' : S) (values' : List T) (cell : LogicCell ℕ) (y : T) (s'' : S)
      → GoesOn order s values (k ∷ ks) s' values' → slice_get cells k ≡ Some cell → AnswersAtCell g f s' k (values_at values' cell.inputs) (Ok y) s'' → GoesOn order s values ks s'' (slice_set values' cell.output y)
  goes_on order s values k ks s' values' cell y s'' so_far at answers result last left rest = so_far result last left (cell, at, inl (y, s'', answers, rest))

  pub ends_there : (order : List ℕ) (s : S) (values : List T) (k : ℕ) (ks : List ℕ) (s' : S) (values' : List T) (cell : LogicCell ℕ) (fault : E) (s'' : S)
      → GoesOn order s values (k ∷ ks) s' values' → slice_get cells k ≡ Some cell → AnswersAtCell g f s' k (values_at values' cell.inputs) (Err fault) s'' → TriesEach g f cells order s values (Err fault) s'' values'
  ends_there order s values k ks s' values' cell fault s'' so_far at answers = so_far (Err fault) s'' values' (cell, at, inr (fault, answers, refl, refl))

-- what a walk needs of a logic cell of a machine
pub record Fits (m : MachineData) (cell : LogicCell ℕ) : Type 0 where
  pub inputs : (n : ℕ) → length m.circuit.names ≡ n → All (λ net. net < n) cell.inputs
  pub output : cell.output < length m.circuit.names
  pub wide : Rattle.std.proofs.Common.◌≤◌ (length cell.inputs) (widest_of m.circuit.cells)

pub fits_at : (m : MachineData) → IsMachine m → (k : ℕ) (cell : LogicCell ℕ) → slice_get m.circuit.cells k ≡ Some cell → Fits m cell
fits_at m good k cell at = record {
  inputs = λ n is. All-from_members (λ net. net < n) cell.inputs (λ net among. let small = All-member (λ x. x < length m.circuit.names) (used_nets m.circuit) net good.well_formed.used (input_is_used m.circuit k net cell at among) in omega (arith, small, is));
  output = cell_net_within m.circuit good.well_formed.driven k cell at;
  wide = widest_at m.circuit.cells k cell at;
}

-- the cell of a number among these
pub cell_of : (m : MachineData) (ks order : List ℕ) → order ≡ ks → All (λ k. k < length m.circuit.cells) ks → (i id : ℕ) → i < length order → id ≡ Rattle.std.proofs.Common.get_or order i id → (cell : LogicCell ℕ) × (slice_get m.circuit.cells id ≡ Some cell)
cell_of m ks order same within i id below is =
    let inside : All (λ k. k < length m.circuit.cells) order = subst (All (λ k. k < length m.circuit.cells)) (sym same) within in
    Rattle.cg_netlist.proofs.Values.element_at m.circuit.cells id (subst (λ k. k < length m.circuit.cells) (sym is) (Rattle.std.proofs.lemmas.List.Elements.All-get_or (λ k. k < length m.circuit.cells) order i id below inside))

-- Logic cells that are laid out, one behind the other.
use Rattle.std.proofs.Common.{◌≡◌, ℕ, ◌+◌, ◌<◌, ◌≤◌, inl, inr, Bool, true, false, nat_eq, List, [], ◌∷◌, ◌++◌, take}
use Rattle.std.proofs.Common.{drop, length, get_or, slice_get, Some, sym, ◌∙◌, ap, subst, arith}
use Rattle.std.specs.List.{All}
use Rattle.std.proofs.lemmas.List.{drop-append-le, drop_at, length-append, length-drop, take-append-le, take_all}
use Rattle.std.proofs.lemmas.Option.{same_Some, slice_get-get_or, slice_get_within}
use Rattle.cg_cell.specs.Bits.{one_if}
use Rattle.cg_netlist.specs.Circuit.{Circuit, LogicCell}
use Rattle.cg_netlist.specs.Nets.{walk_order}
use Rattle.cg_edge.specs.declared.flat.FlatCell.{FlatCell}
use Rattle.cg_edge.specs.inner.Flat.{AreLaid, IsLaid, IsLaidAt, IsPushed, IsTruthTable, Layout}
use Rattle.cg_edge.proofs.Walk.{walk_within}
use Rattle.cg_netlist.proofs.SearchSteps.{push_cases}

-- more inputs behind the others change no laid out cell
laid_grown : (inputs more : List ℕ) (laid : FlatCell) (cell : LogicCell ℕ) → IsLaid inputs laid cell → IsLaid (inputs ++ more) laid cell
laid_grown inputs more laid cell is = record {
  output = is.output;
  count = is.count;
  within = let long = length-append inputs more in let within = is.within in omega (arith, long, within);
  inputs =
      ap (take laid.count) (drop-append-le laid.first inputs more (let within = is.within in omega (arith, within)))
      ∙ (take-append-le laid.count (drop laid.first inputs) more (let long = length-drop laid.first inputs in let within = is.within in omega (arith, long, within)) ∙ is.inputs);
  table = is.table;
}

-- a cell whose inputs stand behind all others
pub laid_last : (inputs : List ℕ) (laid : FlatCell) (cell : LogicCell ℕ) → laid.output ≡ cell.output → laid.first ≡ length inputs → laid.count ≡ length cell.inputs → (length cell.inputs ≤ 6 → IsTruthTable cell.function (length cell.inputs) laid.table)
    → IsLaid (inputs ++ cell.inputs) laid cell
laid_last inputs laid cell output first count table = record {
  output = output;
  count = count;
  within = let long = length-append inputs cell.inputs in omega (arith, long, first, count);
  inputs = ap (take laid.count) (drop_at inputs cell.inputs laid.first (sym first)) ∙ take_all laid.count cell.inputs (omega (arith, count));
  table = table;
}

pub laid_none : (c : Circuit) (order : List ℕ) (layout : Layout) → layout.cells ≡ [] → AreLaid c order 0 layout
laid_none c order layout none = record {
  long = ap length none;
  laid = λ p k at laid cell here there. absurd (let low = slice_get_within layout.cells p laid here in let long = ap length none in omega (arith, low, long));
}

-- one more cell
pub laid_more : (c : Circuit) (order : List ℕ) (n k : ℕ) (cell : LogicCell ℕ) (old new : Layout) → slice_get order n ≡ Some k → slice_get c.cells k ≡ Some cell → IsPushed cell old new → AreLaid c order n old → AreLaid c order (n + 1) new
laid_more c order n k cell old new at is pushed are = record {
  long = ap length pushed.cells ∙ (length-append old.cells (pushed.laid ∷ []) ∙ ap (λ m. m + 1) are.long);
  laid = λ p j ordered laid other here there. elim (push_cases old.cells pushed.laid laid p (ap (λ cells. slice_get cells p) (sym pushed.cells) ∙ here)) [
    | inl earlier ↦ subst (λ inputs. IsLaid inputs laid other) (sym pushed.inputs) (laid_grown old.inputs cell.inputs laid other (are.laid p j ordered laid other earlier there))
    | inr last ↦
        let number : k ≡ j = same_Some k j (sym at ∙ (ap (slice_get order) (sym (last.0 ∙ are.long)) ∙ ordered)) in
        let same : cell ≡ other = same_Some cell other (sym is ∙ (ap (slice_get c.cells) number ∙ there)) in
        subst (λ one. IsLaid new.inputs one other) last.1 (subst (IsLaid new.inputs pushed.laid) same pushed.is)
  ];
}

-- a table's bit at a row is the value at the bits that stand there
pub looked_up : (b : Bool) (bit : ℕ) → bit ≡ one_if b → nat_eq bit 1 ≡ b
looked_up true bit is = ap (λ n. nat_eq n 1) is
looked_up false bit is = ap (λ n. nat_eq n 1) is

pub order_cells : (cells : List (LogicCell ℕ)) (order : List ℕ) → order ≡ walk_order cells → All (λ k. k < length cells) order
order_cells cells order is = subst (All (λ k. k < length cells)) (sym is) (walk_within cells)

-- what stands at a place is laid out
pub laid_here : (c : Circuit) (k p : ℕ) (inside seen : Layout) (laid : FlatCell) → inside ≡ seen → IsLaidAt c k seen p → p < length seen.cells → laid ≡ get_or inside.cells p laid → (cell : LogicCell ℕ) → slice_get c.cells k ≡ Some cell → IsLaid inside.inputs laid cell
laid_here c k p inside seen laid same at below is cell there =
    let low : p < length inside.cells = let long = ap (λ (l : Layout). length l.cells) same in omega (arith, below, long) in
    subst (λ layout. IsLaidAt c k layout p) (sym same) at laid cell (slice_get-get_or inside.cells p laid low ∙ ap (λ x. Some x) (sym is)) there

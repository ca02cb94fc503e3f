-- The logic cells and added gates of a machine, by their numbers.
use Rattle.std.proofs.Common.{◌≡◌, ℕ, zero, suc, ◌+◌, ◌-◌, ◌<◌, ◌≤◌, List, [], ◌∷◌, ◌++◌, map, length, take, drop, slice_get, Some}
use Rattle.std.proofs.Common.{sym, ◌∙◌, ap, arith}
use Rattle.std.specs.List.{All, cons_option}
use Rattle.std.proofs.lemmas.List.{length-take-le}
use Rattle.std.proofs.lemmas.Option.{none-some, same_Some}
use Rattle.cg_netlist.specs.Circuit.{Circuit, LogicCell, used_nets}
use Rattle.cg_netlist.specs.Moment.{values_at}
use Rattle.cg_netlist.specs.WellFormed.{IsOver}
use Rattle.cg_netlist.proofs.DriverTable.{cell_net_within}
use Rattle.cg_net.proofs.Members.{All-from_members, All-member}
use Rattle.cg_netlist.proofs.Used.{input_is_used}
use Rattle.cg_machine.specs.Added.{own_netlist}
use Rattle.cg_machine.specs.Gates.{AddedGate, gate_cell}
use Rattle.cg_machine.specs.Machine.{IsMachine, MachineData}
use Rattle.cg_machine.proofs.Lists.{all_at, take_get}
use Rattle.cg_net.proofs.TableLemmas.{drop_cons}
use Rattle.cg_machine.proofs.Cycles.{get_back}

gate_mapped : (gate : AddedGate) (gs : List AddedGate) (k : ℕ) → slice_get gs k ≡ Some gate → slice_get (map gate_cell gs) k ≡ Some (gate_cell gate)
gate_mapped gate [] k at = absurd (none-some gate at)
gate_mapped gate (g ∷ gs) zero at = ap Some (ap gate_cell (same_Some g gate at))
gate_mapped gate (g ∷ gs) (suc k) at = gate_mapped gate gs k at

module _ (m : MachineData) (good : IsMachine m) where
  own_long : length (take m.own_cells m.circuit.cells) ≡ m.own_cells
  own_long = length-take-le m.own_cells m.circuit.cells (omega (arith, good.own_cells))

  pub output_within : (k : ℕ) (cell : LogicCell ℕ) → slice_get m.circuit.cells k ≡ Some cell → cell.output < length m.circuit.names
  output_within k cell at = cell_net_within m.circuit good.well_formed.driven k cell at

  pub inputs_within : (n k : ℕ) (cell : LogicCell ℕ) → length m.circuit.names ≤ n → slice_get m.circuit.cells k ≡ Some cell → All (λ net. net < n) cell.inputs
  inputs_within n k cell is at =
      All-from_members (λ net. net < n) cell.inputs (λ net among.
      let small = All-member (λ x. x < length m.circuit.names) (used_nets m.circuit) net good.well_formed.used (input_is_used m.circuit k net cell at among) in
      omega (arith, small, is))

  pub over_at : (k : ℕ) (cell : LogicCell ℕ) → slice_get m.circuit.cells k ≡ Some cell → IsOver (length cell.inputs) cell.function
  over_at k cell at = all_at (λ (c : LogicCell ℕ). IsOver (length c.inputs) c.function) m.circuit.cells k cell good.well_formed.functions at

  -- the netlist, as it is read
  module _ (c : Circuit) (own_is : c ≡ own_netlist m) where
    pub cells_long : length c.cells ≡ m.own_cells
    cells_long = ap (λ (n : Circuit). length n.cells) own_is ∙ own_long

    pub gates_long : length c.cells + length m.gates ≡ length m.circuit.cells
    gates_long = omega (arith, cells_long, good.own_cells)

    pub read_own : (k : ℕ) (v cell : LogicCell ℕ) → k < length c.cells → slice_get c.cells k ≡ Some v → slice_get m.circuit.cells k ≡ Some cell → v ≡ cell
    read_own k v cell low is stands =
        same_Some v cell (sym is ∙ (ap (λ (n : Circuit). slice_get n.cells k) own_is ∙ (take_get m.own_cells m.circuit.cells k (omega (arith, low, cells_long)) ∙ stands)))

    pub read_gate : (k : ℕ) (gate : AddedGate) (cell : LogicCell ℕ) → length c.cells ≤ k → slice_get m.gates (k - length c.cells) ≡ Some gate → slice_get m.circuit.cells k ≡ Some cell → gate_cell gate ≡ cell
    read_gate k gate cell past is stands =
        let own : List (LogicCell ℕ) = take m.own_cells m.circuit.cells in
        let e : k ≡ length own + (k - length c.cells) = omega (arith, past, cells_long, own_long) in
        same_Some (gate_cell gate) cell
        (sym (gate_mapped gate m.gates (k - length c.cells) is)
        ∙ (sym (get_back own (map gate_cell m.gates) (k - length c.cells))
        ∙ (ap (slice_get (own ++ map gate_cell m.gates)) (sym e)
        ∙ (ap (λ cells. slice_get cells k) (sym good.gates) ∙ stands))))

-- the cells that are left begin with one, and then those behind it
pub left_cons : (cells : List (LogicCell ℕ)) (ids : List ℕ) (k id : ℕ) (cell : LogicCell ℕ) → slice_get ids k ≡ Some id → slice_get cells id ≡ Some cell → values_at cells (drop k ids) ≡ cell ∷ values_at cells (drop (k + 1) ids)
left_cons cells ids k id cell at is =
    let e : suc k ≡ k + 1 = omega arith in
    ap (values_at cells) (drop_cons ids k id at ∙ ap (λ n. id ∷ drop n ids) e) ∙ ap (λ o. cons_option o (values_at cells (drop (k + 1) ids))) is

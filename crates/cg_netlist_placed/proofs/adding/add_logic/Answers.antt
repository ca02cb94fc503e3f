use Rattle.std.proofs.Common.{◌≡◌, ℕ, length, List, Bor, Some, map, sym, ap, ◌∙◌}
use Rattle.std.proofs.lemmas.List.{length-map}
use Rattle.cg_cell.specs.Pins.{is_data, is_output}
use Rattle.cg_netlist_placed.specs.Placed.{at_role, nets_at}
use Rattle.cg_netlist_placed.proofs.AddingLemmas.{logic_count, logic_inputs, logic_output, one_at}
use Rattle.cg_netlist_placed.proofs.adding.add_logic.Goals as goal

abbrev bytes : List (Bor (List ℕ)) → List (List ℕ)
bytes nets = map (λ (net : Bor (List ℕ)). net.now) nets

-- src/adding.rt:99:11
pub logic-requires-clause-count : goal.logic-requires-clause-count
logic-requires-clause-count c =
    let nets = nets_at c.args.cell.now.pins c.args.words.now in
    let i : Some (bytes c.deref.result.now) ≡ at_role is_data c.args.cell.now.pins nets = ap (λ xs. Some (bytes xs)) c.deref.ensures.value ∙ sym c.in_ok-inputs.ensures.nets in
    let one : length c.in_ok-outputs.outputs.items ≡ 1 = sym c.in_ok-outputs.outputs.ok.0 ∙ sym c.len.ensures ∙ c.if-len-ne1.false in
    let o = one_at (at_role is_output c.args.cell.now.pins nets) c.in_ok-outputs.outputs.items c.index.result.now c.in_ok-outputs.ensures.nets one c.index.ensures in
    logic_count c.args.cell.now c.args.words.now c.all_at.ensures.cell c.requires.words c.requires.kind (bytes c.deref.result.now) c.index.result.now.now i o ∙ length-map c.deref.result.now (λ (net : Bor (List ℕ)). net.now)

-- src/adding.rt:99:11
pub logic-requires-clause-inputs : goal.logic-requires-clause-inputs
logic-requires-clause-inputs c =
    let nets = nets_at c.args.cell.now.pins c.args.words.now in
    let i : Some (bytes c.deref.result.now) ≡ at_role is_data c.args.cell.now.pins nets = ap (λ xs. Some (bytes xs)) c.deref.ensures.value ∙ sym c.in_ok-inputs.ensures.nets in
    let one : length c.in_ok-outputs.outputs.items ≡ 1 = sym c.in_ok-outputs.outputs.ok.0 ∙ sym c.len.ensures ∙ c.if-len-ne1.false in
    let o = one_at (at_role is_output c.args.cell.now.pins nets) c.in_ok-outputs.outputs.items c.index.result.now c.in_ok-outputs.ensures.nets one c.index.ensures in
    logic_inputs c.args.cell.now c.args.words.now c.all_at.ensures.cell c.requires.words c.requires.kind (bytes c.deref.result.now) c.index.result.now.now i o

-- src/adding.rt:99:11
pub logic-requires-clause-output : goal.logic-requires-clause-output
logic-requires-clause-output c =
    let nets = nets_at c.args.cell.now.pins c.args.words.now in
    let i : Some (bytes c.deref.result.now) ≡ at_role is_data c.args.cell.now.pins nets = ap (λ xs. Some (bytes xs)) c.deref.ensures.value ∙ sym c.in_ok-inputs.ensures.nets in
    let one : length c.in_ok-outputs.outputs.items ≡ 1 = sym c.in_ok-outputs.outputs.ok.0 ∙ sym c.len.ensures ∙ c.if-len-ne1.false in
    let o = one_at (at_role is_output c.args.cell.now.pins nets) c.in_ok-outputs.outputs.items c.index.result.now c.in_ok-outputs.ensures.nets one c.index.ensures in
    logic_output c.args.cell.now c.args.words.now c.all_at.ensures.cell c.requires.words c.requires.kind (bytes c.deref.result.now) c.index.result.now.now i o

use Rattle.std.proofs.Common.{◌∷◌, [], Bor, ℕ, List, map, ap, sym, ◌∙◌, subst}
use Rattle.std.specs.List.{AllByRecursion}
use Rattle.std.specs.Option.{option_to_list}
use Rattle.std.specs.Prelude.{IsTrue}
use Rattle.cg_cell.specs.Name.{is_name}
use Rattle.cg_netlist.proofs.Each.{each_back, each_front}
use Rattle.cg_netlist.specs.Circuit.{LogicCell}
use Rattle.cg_netlist.specs.View.{cell_seen}
use Rattle.cg_netlist_parts.specs.Says.{IsPart}
use Rattle.cg_net.specs.Names.{NetName, net_name}
use Rattle.cg_netlist_telling.specs.NamedParts.{cell_part, cell_parts}
use Rattle.cg_netlist_telling.specs.Telling.{MayTell}
use Rattle.cg_netlist_telling.proofs.parts.tell_cell.Goals as goal

pub logic-requires-clause-inputs : goal.logic-requires-clause-inputs
logic-requires-clause-inputs c =
    let Named : NetName → Type 0 = λ name. IsTrue (is_name name) in
    let name : Bor (List ℕ) → NetName = λ n. n.now in
    let cell : LogicCell ℕ = cell_seen c.cell-cell.result in
    let names = c.args.names.now in
    let part : IsPart (cell_part names cell) = (subst (MayTell c.args.builder.now) (ap (λ o. cell_parts names (option_to_list o)) c.cell-cell.ensures) c.requires.part).each.0 in
    subst (AllByRecursion Named) (sym (ap (map name) c.deref.ensures.value ∙ c.in_ok-inputs.ensures)) (each_front Named (map (net_name names) cell.inputs) (net_name names cell.output ∷ []) part.named)

pub logic-requires-clause-output : goal.logic-requires-clause-output
logic-requires-clause-output c =
    let Named : NetName → Type 0 = λ name. IsTrue (is_name name) in
    let name : Bor (List ℕ) → NetName = λ n. n.now in
    let cell : LogicCell ℕ = cell_seen c.cell-cell.result in
    let names = c.args.names.now in
    let part : IsPart (cell_part names cell) = (subst (MayTell c.args.builder.now) (ap (λ o. cell_parts names (option_to_list o)) c.cell-cell.ensures) c.requires.part).each.0 in
    subst Named (sym c.name-output.ensures) (each_back Named (map (net_name names) cell.inputs) (net_name names cell.output ∷ []) part.named).0

pub cover-requires-clause-inputs : goal.cover-requires-clause-inputs
cover-requires-clause-inputs c =
    let Named : NetName → Type 0 = λ name. IsTrue (is_name name) in
    let name : Bor (List ℕ) → NetName = λ n. n.now in
    let cell : LogicCell ℕ = cell_seen c.cell-cell.result in
    let names = c.args.names.now in
    let part : IsPart (cell_part names cell) = (subst (MayTell c.args.builder.now) (ap (λ o. cell_parts names (option_to_list o)) c.cell-cell.ensures) c.requires.part).each.0 in
    subst (AllByRecursion Named) (sym (ap (map name) c.deref-in-Cover.ensures.value ∙ c.in_ok-inputs.ensures)) (each_front Named (map (net_name names) cell.inputs) (net_name names cell.output ∷ []) part.named)

pub cover-requires-clause-output : goal.cover-requires-clause-output
cover-requires-clause-output c =
    let Named : NetName → Type 0 = λ name. IsTrue (is_name name) in
    let name : Bor (List ℕ) → NetName = λ n. n.now in
    let cell : LogicCell ℕ = cell_seen c.cell-cell.result in
    let names = c.args.names.now in
    let part : IsPart (cell_part names cell) = (subst (MayTell c.args.builder.now) (ap (λ o. cell_parts names (option_to_list o)) c.cell-cell.ensures) c.requires.part).each.0 in
    subst Named (sym c.name-output.ensures) (each_back Named (map (net_name names) cell.inputs) (net_name names cell.output ∷ []) part.named).0

-- By the names of its nets, what is kept of a netlist is what is kept of its wiring.
use Rattle.std.proofs.Common.{[], ◌≡◌, ℕ, ◌<◌, Bool, true, false, not, List, ◌∷◌, ◌++◌, map, length, nat_eq}
use Rattle.std.proofs.Common.{refl, ap, sym, ◌∙◌, cond, Option, None, Some}
use Rattle.std.specs.List.{AllByRecursion, filter}
use Rattle.std.specs.Option.{option_map, option_to_list}
use Rattle.std.specs.Str.{bytes_eq}
use Rattle.std.proofs.lemmas.List.{map-append}
use Rattle.cg_net.specs.NetSets.{is_in}
use Rattle.cg_net.specs.Names.{NetName, is_known, net_name}
use Rattle.cg_netlist.specs.Circuit.{Circuit, LogicCell, RegisterCell}
use Rattle.cg_netlist.specs.WellFormed.{IsInNetOrder, IsWellFormed}
use Rattle.cg_netlist.specs.Wiring.{Wiring, map_cell, map_register, named}
use Rattle.cg_netlist_parts.proofs.Kept.{CellNets}
use Rattle.cg_netlist_parts.proofs.SaidByItsParts.{same_wiring}
use Rattle.cg_netlist_parts.proofs.ToldByNames.{known_as, told, wiring_within}
use Rattle.cg_verilog_text.specs.Kept.{kept_cell, kept_netlist}
use Rattle.cg_verilog_text.specs.VEqual.{kept}
use Rattle.cg_verilog_text.specs.WrittenItems.{inputs_with_clock}
use Rattle.cg_verilog_text.proofs.Renamed.{function_renamed}

-- what is kept of a wiring
abbrev pub kept_wiring : Wiring NetName → Wiring NetName
kept_wiring w = record {
  inputs = inputs_with_clock w;
  clock = w.clock;
  outputs = w.outputs;
  cells = map (kept_cell bytes_eq) w.cells;
  gaters = w.gaters;
  registers = map kept w.registers;
}

module _ (c : Circuit) (formed : IsWellFormed c) (ordered : IsInNetOrder c) where
  abbrev name : ℕ → NetName
  name = net_name c.names

  abbrev Is : ℕ → Type 0
  Is x = x < length c.names

  pub clock_too : (inputs : List ℕ) (clock : Option ℕ) → AllByRecursion Is inputs → AllByRecursion Is (option_to_list clock)
      → map name (filter (λ net. not (is_in inputs net)) (option_to_list clock)) ≡ filter (λ net. not (is_known (map name inputs) net)) (option_to_list (option_map name clock))
  clock_too inputs None ins clk = refl
  clock_too inputs (Some k) ins clk = step (is_in inputs k) ∙ sym (ap (λ b. cond (not b) (name k ∷ []) []) (known_as c.names formed.different inputs k ins clk.0))
    where
      step : (b : Bool) → map name (cond (not b) (k ∷ []) []) ≡ cond (not b) (name k ∷ []) []
      step true = refl
      step false = refl

  cells_too : (cells : List (LogicCell ℕ)) → AllByRecursion (CellNets Is) cells → map (map_cell name) (map (kept_cell nat_eq) cells) ≡ map (kept_cell bytes_eq) (map (map_cell name) cells)
  cells_too [] all = refl
  cells_too (cell ∷ cells) all =
      ap (λ k. k ∷ map (map_cell name) (map (kept_cell nat_eq) cells)) (sym (function_renamed nat_eq bytes_eq name Is (told c.names formed.different) cell.inputs cell.output cell.function all.0.inputs))
      ∙ ap (λ l. kept_cell bytes_eq (map_cell name cell) ∷ l) (cells_too cells all.1)

  registers_too : (rs : List (RegisterCell ℕ ℕ)) → map (map_register name) (map kept rs) ≡ map kept (map (map_register name) rs)
  registers_too [] = refl
  registers_too (r ∷ rs) = ap (λ l. kept (map_register name r) ∷ l) (registers_too rs)

  pub named_kept : named (kept_netlist c) ≡ kept_wiring (named c)
  named_kept =
      let within = wiring_within c formed ordered in
      same_wiring (named (kept_netlist c)) (kept_wiring (named c))
      (map-append name c.inputs (filter (λ net. not (is_in c.inputs net)) (option_to_list c.clock)) ∙ ap (λ l. map name c.inputs ++ l) (clock_too c.inputs c.clock within.inputs within.clock))
      refl refl (cells_too c.cells within.cells) refl (registers_too c.registers)

-- The lines of covers, row by row.
use Rattle.std.proofs.Common.{[], ◌≡◌, ℕ, suc, ◌+◌, ◌<◌, Bool, List, ◌∷◌, ◌++◌, map, length, take, get_or, nat_eq, refl, sym, ap, ◌∙◌, subst, arith}
use Rattle.std.proofs.Common.{append-nil, Option, None, Some, option_map, slice_get, unwrap_or}
use Rattle.std.specs.List.{AllByRecursion, cons_option, filter_map}
use Rattle.std.specs.Option.{option_to_list}
use Rattle.std.specs.Str.{bytes_eq}
use Rattle.std.proofs.lemmas.List.{map-append, take_more}
use Rattle.std.proofs.lemmas.List.Elements.{filter_map-append}
use Rattle.std.proofs.lemmas.Option.{same_Some}
use Rattle.cg_cell.specs.Cover.{CoverData}
use Rattle.cg_net.specs.Names.{NetName, net_name}
use Rattle.cg_netlist.specs.Circuit.{Circuit, LogicCell}
use Rattle.cg_netlist.specs.Netlist.{IsNetlist}
use Rattle.cg_netlist.specs.Wiring.{map_cell}
use Rattle.cg_netlist.specs.declared.parts.LogicFunction.TheVariants.{Cover}
use Rattle.cg_netlist_parts.proofs.ToldByNames.{told}
use Rattle.cg_netlist_placed.specs.Within.{AreNets}
use Rattle.cg_verilog_text.specs.CoverForms.{sum_or_constant, term_of}
use Rattle.cg_verilog_text.specs.Forms.{Literal}
use Rattle.cg_verilog_text.specs.Items.{Assign}
use Rattle.cg_verilog_text.specs.Written.{item_line}
use Rattle.cg_verilog_text.specs.WrittenItems.{function_item}
use Rattle.cg_verilog_text.proofs.Renamed.{rows_terms_renamed}
use Rattle.cg_verilog_out.specs.Writing.{Writes, cell_items}
use Rattle.cg_verilog_out.specs.inner.OpenTerms.{literal_named}

abbrev Terms : Type 0
Terms = List (List (Literal NetName))

-- the terms of the rows up to the one at k, and its term, if it has one
module _ (names : List NetName) (inputs : List ℕ) where
  abbrev terms_of : List (List (Option Bool)) → List (List (Literal NetName))
  terms_of rows = map (map (literal_named names)) (filter_map (term_of nat_eq inputs) rows)

  one_term : (o : Option (List (Literal ℕ))) → map (map (literal_named names)) (cons_option o []) ≡ option_to_list (option_map (map (literal_named names)) o)
  one_term None = refl
  one_term (Some t) = refl

  pub rows_next : (rows : List (List (Option Bool))) (k : ℕ) (row d : List (Option Bool)) (term : Option (List (Literal NetName))) (old new : List (List (Literal NetName))) → k < length rows → row ≡ get_or rows k d
      → term ≡ option_map (map (literal_named names)) (term_of nat_eq inputs row) → old ≡ terms_of (take k rows) → new ≡ old ++ option_to_list term → new ≡ terms_of (take (k + 1) rows)
  rows_next rows k row d term old new below at term_is old_is new_is =
      let more : terms_of (take (k + 1) rows) ≡ terms_of (take k rows) ++ option_to_list (option_map (map (literal_named names)) (term_of nat_eq inputs (get_or rows k d))) =
      ap terms_of (take_more rows k d below)
      ∙ (ap (map (map (literal_named names))) (filter_map-append (term_of nat_eq inputs) (take k rows) (get_or rows k d ∷ []))
      ∙ (map-append (map (literal_named names)) (filter_map (term_of nat_eq inputs) (take k rows)) (cons_option (term_of nat_eq inputs (get_or rows k d)) [])
      ∙ ap (λ l. terms_of (take k rows) ++ l) (one_term (term_of nat_eq inputs (get_or rows k d))))) in
      new_is ∙ (ap (λ l. l ++ option_to_list term) old_is
      ∙ (ap (λ o. terms_of (take k rows) ++ option_to_list o) (term_is ∙ ap (λ r. option_map (map (literal_named names)) (term_of nat_eq inputs r)) at) ∙ sym more))

by_index : (c : Circuit) (nets : List ℕ) → AreNets c nets → AllByRecursion (λ net. net < length c.names) nets
by_index c [] are = tt
by_index c (net ∷ nets) are = (are 0 (omega arith), by_index c nets (λ k below. are (suc k) (omega (arith, below))))

-- the assignment of a cover
pub cover_item : (c : Circuit) (cell : LogicCell ℕ) (cover : CoverData) (rows : List (List (Option Bool))) (terms : List (List (Literal NetName))) (net : NetName) (on : Bool) → IsNetlist c → AreNets c cell.inputs
    → slice_get c.names cell.output ≡ Some net → rows ≡ cover.rows → terms ≡ map (map (literal_named c.names)) (filter_map (term_of nat_eq cell.inputs) rows) → on ≡ cover.on
    → Assign net (sum_or_constant on terms) ≡ function_item (map_cell (net_name c.names) cell) (Cover cover)
cover_item c cell cover rows terms net on is nets at rows_are terms_are on_is =
    let named : net ≡ net_name c.names cell.output = ap (λ o. unwrap_or o []) (sym at) in
    let renamed = rows_terms_renamed nat_eq bytes_eq (net_name c.names) (λ net. net < length c.names) (told c.names is.well_formed.different) cell.inputs cover.rows (by_index c cell.inputs nets) in
    ap (λ n. Assign n (sum_or_constant on terms)) named
    ∙ (ap (λ o. Assign (net_name c.names cell.output) (sum_or_constant o terms)) on_is
    ∙ ap (λ ts. Assign (net_name c.names cell.output) (sum_or_constant cover.on ts)) (terms_are ∙ (ap (λ rs. map (map (literal_named c.names)) (filter_map (term_of nat_eq cell.inputs) rs)) rows_are ∙ sym renamed)))

-- what is written of one logic cell is written of each at its place
pub cover_written : (names : List NetName) (cells : List (LogicCell ℕ)) (id : ℕ) (seen : LogicCell ℕ) (cover : CoverData) (out new : List ℕ) (labels : List (List ℕ)) → slice_get cells id ≡ Some seen → seen.function ≡ Cover cover
    → new ≡ out ++ item_line (function_item (map_cell (net_name names) seen) (Cover cover)) → (cell : LogicCell ℕ) → slice_get cells id ≡ Some cell → Writes (cell_items names cell) out new labels labels
cover_written names cells id seen cover out new labels at function line cell here =
    let same : seen ≡ cell = same_Some seen cell (sym at ∙ here) in
    subst (λ k. Writes (cell_items names k) out new labels labels) same
    (subst (λ f. Writes (function_item (map_cell (net_name names) seen) f ∷ []) out new labels labels) (sym function)
    (record { text = line ∙ ap (λ l. out ++ l) (sym (append-nil (item_line (function_item (map_cell (net_name names) seen) (Cover cover))))); taken = refl }))

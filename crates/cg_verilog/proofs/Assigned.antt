-- What a builder answers to the cover of a form.
use Rattle.std.proofs.Common.{◌≡◌, Bool, false, List, [], ◌∷◌, length, map, nat_lt, if◌then◌else◌, ap, sym, ◌∙◌, subst, Option, None, Result, Ok, Err}
use Rattle.std.specs.List.{flat_map}
use Rattle.std.specs.Str.{bytes_eq}
use Rattle.std.proofs.lemmas.List.{length-map}
use Rattle.cg_cell.specs.Cover.{CoverData}
use Rattle.cg_limit.specs.declared.Limit.TheVariants.{CoverInputs}
use Rattle.cg_limit.specs.declared.TheConstants.{MOST_COVER_INPUTS}
use Rattle.cg_net.specs.Names.{NetName}
use Rattle.cg_netlist.specs.Circuit.{LogicCell}
use Rattle.cg_netlist.specs.declared.fault.AddFault.{AddFault}
use Rattle.cg_netlist.specs.declared.parts.LogicFunction.TheVariants.{Cover}
use Rattle.cg_netlist_builder.specs.Building.{Building, Takes}
use Rattle.cg_netlist_builder.specs.Calls.{cell_of}
use Rattle.cg_netlist_parts.specs.Part.{Logic}
use Rattle.cg_verilog_text.specs.Forms.{Form, Literal, nets_of, on_of, terms_of}
use Rattle.cg_verilog_text.specs.Meaning.{cover_on, cover_part, form_cell, once, row_of}
use Rattle.cg_verilog_text.specs.Telling.{with_parts}
use Rattle.cg_verilog_text.specs.declared.fault.ItemFault.TheVariants.{Limit as Passed}
use Rattle.cg_verilog.specs.Hearing.{Hears, HearsItem, heard}
use Rattle.cg_verilog.proofs.HearingLemmas.{hears_one}
use Rattle.cg_verilog.proofs.TellingLemmas.{heard_item}

-- names that are lent are as many as they are
pub lent_count : {B : Type 0} (name : B → NetName) (items : List B) (names : List NetName) → map name items ≡ names → length items ≡ length names
lent_count name items names is = sym (length-map items name) ∙ ap length is

-- a cover that is told with names that were lent
pub hears_cover : (old new : Building) (inputs named : List NetName) (net output : NetName) (cover : CoverData) (answer : Result (Unit {0}) AddFault) → old.refused ≡ None → inputs ≡ named → net ≡ output
    → Takes old (Logic (cell_of inputs net (Cover cover))) new answer → Hears old new (with_parts (Logic (cell_of named output (Cover cover)) ∷ []) old.said) answer
hears_cover old new inputs named net output cover answer fine same is takes =
    hears_one old new (Logic (cell_of named output (Cover cover))) answer fine
    (subst (λ (n : NetName). Takes old (Logic (cell_of named n (Cover cover))) new answer) is
    (subst (λ (ns : List NetName). Takes old (Logic (cell_of ns net (Cover cover))) new answer) same takes))

-- the cover of rows, and of terms
abbrev pub cover_of : List (List (Option Bool)) → Bool → CoverData
cover_of rows on = record { rows = rows; on = on }

abbrev pub cover_with : List NetName → List (List (Literal NetName)) → Bool → CoverData
cover_with inputs terms on = cover_of (map (row_of bytes_eq inputs) terms) on

-- the cover of a form
module _ (output : NetName) (form : Form NetName) (terms : List (List (Literal NetName))) (inputs : List NetName) (terms_are : terms ≡ terms_of form)
    (inputs_are : inputs ≡ once bytes_eq (flat_map (λ term. map (λ literal. literal.net) term) terms)) where
  nets_are : inputs ≡ once bytes_eq (nets_of form)
  nets_are = inputs_are ∙ ap (λ (ts : List (List (Literal NetName))). once bytes_eq (flat_map (λ term. map (λ literal. literal.net) term) ts)) terms_are

  cell_is : (cover : CoverData) → cover ≡ cover_with inputs terms (on_of form) → cell_of inputs output (Cover cover) ≡ form_cell bytes_eq output form
  cell_is cover is =
      ap (λ (c : CoverData). cell_of inputs output (Cover c)) is
      ∙ (ap (λ (ts : List (List (Literal NetName))). cell_of inputs output (Cover (cover_with inputs ts (on_of form)))) terms_are
      ∙ ap (λ (ns : List NetName). cell_of ns output (Cover (cover_on bytes_eq ns form))) nets_are)

  width : (b : Bool) → nat_lt MOST_COVER_INPUTS (length inputs) ≡ b → nat_lt MOST_COVER_INPUTS (length (form_cell bytes_eq output form).inputs) ≡ b
  width b is = ap (λ (ns : List NetName). nat_lt MOST_COVER_INPUTS (length ns)) (sym nets_are) ∙ is

  pub assigned : (old new : Building) (cover : CoverData) (answer : Result (Unit {0}) AddFault) → nat_lt MOST_COVER_INPUTS (length inputs) ≡ false → cover ≡ cover_with inputs terms (on_of form)
      → Hears old new (with_parts (Logic (cell_of inputs output (Cover cover)) ∷ []) old.said) answer → HearsItem old new (cover_part (form_cell bytes_eq output form)) (heard answer)
  assigned old new cover answer narrow is hears =
      subst (λ b. HearsItem old new (if b then Err (Passed CoverInputs) else Ok (Logic (form_cell bytes_eq output form) ∷ [])) (heard answer)) (sym (width false narrow))
      (heard_item old new (Logic (form_cell bytes_eq output form) ∷ []) answer
      (subst (λ (cell : LogicCell NetName). Hears old new (with_parts (Logic cell ∷ []) old.said) answer) (cell_is cover is) hears))

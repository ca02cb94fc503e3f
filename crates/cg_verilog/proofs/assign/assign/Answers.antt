use Rattle.std.proofs.Common.{◌≡◌, ◌≤◌, ◌∙◌, Bool, List, Option, Result, ap, arith, false, length, map, nat_lt, subst, sym}
use Rattle.std.specs.List.{AllByRecursion, flat_map}
use Rattle.std.specs.Str.{bytes_eq}
use Rattle.std.proofs.lemmas.Bool.Decides.{nat_tests}
use Rattle.cg_cell.specs.Cover.{CoverData}
use Rattle.cg_limit.specs.declared.TheConstants.{MOST_COVER_INPUTS}
use Rattle.cg_net.specs.Names.{NetName}
use Rattle.cg_verilog_text.specs.Forms.{Literal, on_of}
use Rattle.cg_verilog_text.specs.Meaning.{cover_part, form_cell, once, row_of}
use Rattle.cg_verilog.specs.Hearing.{HearsItem}
use Rattle.cg_verilog.specs.declared.refusal.Refusal.{Refusal}
use Rattle.cg_verilog.proofs.Assigned.{assigned, cover_of, cover_with}
use Rattle.cg_verilog.proofs.CoverFits.{rows_fit}
use Rattle.cg_verilog.proofs.assign.assign.Goals as goal

pub tell_cover-requires-clause-fits : goal.tell_cover-requires-clause-fits
tell_cover-requires-clause-fits c =
    let inputs = c.in_ok-inputs.inputs in
    let rows : c.in_ok-cover.cover.rows ≡ map (row_of bytes_eq inputs) c.as_slice-2.result.now = ap (λ (k : CoverData). k.rows) c.in_ok-cover.ensures ∙ c.in_ok-rows.ensures in
    subst (λ (rs : List (List (Option Bool))). AllByRecursion (λ row. length row ≡ length inputs) rs) (sym rows) (rows_fit inputs c.as_slice-2.result.now)

pub returns : goal.returns
returns c =
    let old = c.args.builder.now in
    let new = c.tell_cover.new.builder in
    let output = c.args.output.now in
    let form = c.args.form in
    let inputs = c.in_ok-inputs.inputs in
    let terms = c.in_ok-terms.terms in
    let few : length inputs ≤ MOST_COVER_INPUTS = omega arith in
    let narrow : nat_lt MOST_COVER_INPUTS (length inputs) ≡ false = grind (arith, nat_tests) in
    let named : inputs ≡ once bytes_eq (flat_map (λ (term : List (Literal NetName)). map (λ (l : Literal NetName). l.net) term) terms) =
    c.in_ok-inputs.ensures.names ∙ ap (λ (ts : List (List (Literal NetName))). once bytes_eq (flat_map (λ (term : List (Literal NetName)). map (λ (l : Literal NetName). l.net) term) ts)) c.as_slice.ensures in
    let rows : c.in_ok-rows.rows ≡ map (row_of bytes_eq inputs) terms = c.in_ok-rows.ensures ∙ ap (map (row_of bytes_eq inputs)) c.as_slice-2.ensures in
    let cover : c.in_ok-cover.cover ≡ cover_with inputs terms (on_of form) =
    c.in_ok-cover.ensures ∙ (ap (λ (rs : List (List (Option Bool))). cover_of rs c.on-on.result) rows ∙ ap (cover_with inputs terms) c.on-on.ensures) in
    subst (λ (r : Result (Unit {0}) Refusal). HearsItem old new (cover_part (form_cell bytes_eq output form)) r) (sym c.heard.ensures)
    (assigned output form terms inputs c.in_ok-terms.ensures.terms named old new c.in_ok-cover.cover c.tell_cover.result narrow cover c.tell_cover.ensures)

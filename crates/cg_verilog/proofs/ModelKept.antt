-- A builder keeps the name of its model.
use Rattle.std.proofs.Common.{◌≡◌, ℕ, List, [], ◌∷◌, refl, ap, sym, ◌∙◌, subst, Option, None, Some, Result, Ok, Err}
use Rattle.std.specs.List.{fold}
use Rattle.cg_cell.specs.Cell.{CellData}
use Rattle.cg_limit.specs.declared.Limit.{Limit}
use Rattle.cg_net.specs.Names.{NetName}
use Rattle.cg_netlist_builder.specs.Building.{Building}
use Rattle.cg_netlist_parts.specs.Part.{Clock, Part}
use Rattle.cg_netlist_parts.specs.Said.{Said}
use Rattle.cg_text.specs.Lines.{end_line}
use Rattle.cg_verilog_text.specs.Items.{ItemAt, header, items}
use Rattle.cg_verilog_text.specs.Meaning.{said_by}
use Rattle.cg_verilog_text.specs.Reading.{Got, Read, Stuck}
use Rattle.cg_verilog_text.specs.Telling.{Fault, with_parts}
use Rattle.cg_verilog_text.specs.TextItems.{text_from, text_of}
use Rattle.cg_verilog_text.specs.Tokens.{tokens}
use Rattle.cg_verilog_text.specs.declared.fault.ItemFault.{ItemFault}
use Rattle.cg_verilog_text.specs.declared.fault.ItemFault.TheVariants.{BadText, Placed, Limit as Passed}
use Rattle.cg_verilog.specs.Ending.{bad_of, builder_of, clocked, clocked_said, closed, go_on, outcome, outcome_of, summary_from, with_bad}
use Rattle.cg_verilog.specs.GivenInits.{GivenInits}
use Rattle.cg_verilog.specs.Summary.{Summary, empty, ending, put, put_parts, put_result, put_said}

abbrev HasModel : NetName → Option Building → Type 0
HasModel model None = Unit {0}
HasModel model (Some b) = b.model ≡ model

module _ (model : NetName) where
  passed : (s : Summary) (line : ℕ) (b : Building) (r : Result Said Limit) → b.model ≡ model → HasModel model (put_said s line b r).built
  passed s line b (Ok t) is = is
  passed s line b (Err limit) is = tt

  told : (s : Summary) (line : ℕ) (ps : List Part) (o : Option Building) → s.built ≡ o → HasModel model o → HasModel model (put_parts s line o ps).built
  told s line ps None same has = subst (HasModel model) (sym same) tt
  told s line ps (Some b) same has = passed s line b (with_parts ps b.said) has

  result : (s : Summary) (line : ℕ) (r : Result (List Part) ItemFault) → HasModel model s.built → HasModel model (put_result s line r).built
  result s line (Ok ps) has = told s line ps s.built refl has
  result s line (Err BadText) has = has
  result s line (Err (Placed fault)) has = has
  result s line (Err (Passed limit)) has = tt

  put_all : (library : List CellData) (found : List ItemAt) (s : Summary) → HasModel model s.built → HasModel model (fold (put library) s found).built
  put_all library [] s has = has
  put_all library (one ∷ found) s has = put_all library found (put library s one) (result s one.line (said_by library [] one.item) has)

  bad_kept : (s : Summary) (bad : Option ℕ) → HasModel model s.built → HasModel model (with_bad s bad).built
  bad_kept s None has = has
  bad_kept s (Some line) has = has

  with_clock : (clock : Option NetName) (b c : Building) → b.model ≡ model → clocked clock b ≡ Ok c → c.model ≡ model
  with_clock None b c has is = let same : b ≡ c = cc in ap (λ (b : Building). b.model) (sym same) ∙ has
  with_clock (Some net) b c has is = go (with_parts (Clock net ∷ []) b.said) is
    where
      go : (r : Result Said Limit) → clocked_said b r ≡ Ok c → c.model ≡ model
      go (Ok s) e = let same : record b { said = s } ≡ c = cc in ap (λ (b : Building). b.model) (sym same) ∙ has
      go (Err limit) e = absurd (cc)

  ended : (clock : Option NetName) (first : Option Fault) (o : Option Building) (given : GivenInits) (c : Building) → HasModel model o → go_on (outcome_of first o given) (clocked clock) ≡ Ok c → c.model ≡ model
  ended clock (Some fault) o given c has is = absurd (cc)
  ended clock None None given c has is = absurd (cc)
  ended clock None (Some b) given c has is = with_clock clock _ c has is

from_model : (library : List CellData) (clock : Option NetName) (end : ℕ) (read : Read NetName) (c : Building) → go_on (go_on (summary_from library end read) outcome) (clocked clock) ≡ Ok c → (text_from end read).model ≡ c.model
from_model library clock end (Stuck left) c is = absurd (cc)
from_model library clock end (Got model later) c is =
    let e = ending library (empty model) (items later) in
    sym (ended model clock (closed end e).first (closed end e).built (closed end e).inits c (bad_kept model e.summary (bad_of end e) (put_all model library (items later).found (empty model) refl)) is)

pub model_kept : (library : List CellData) (clock : Option NetName) (text : List ℕ) (c : Building) → builder_of library clock text ≡ Ok c → (text_of text).model ≡ c.model
model_kept library clock text c is = from_model library clock (end_line text) (header (tokens text)) c is

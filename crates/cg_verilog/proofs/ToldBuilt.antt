-- What a text tells is what its builder has said.
use Rattle.std.proofs.Common.{◌≡◌, ℕ, Bool, true, false, ◌&&◌, List, [], ◌∷◌, ◌++◌, refl, ap, sym, ◌∙◌, if◌then◌else◌, Option, None, Some, option_map, Result, Ok, Err}
use Rattle.std.specs.List.{fold}
use Rattle.std.proofs.lemmas.List.{append-nil}
use Rattle.cg_cell.specs.Cell.{CellData}
use Rattle.cg_cell.specs.Name.{are_distinct}
use Rattle.cg_limit.specs.declared.Limit.{Limit}
use Rattle.cg_net.specs.Names.{NetName}
use Rattle.cg_netlist_builder.specs.Building.{Building}
use Rattle.cg_netlist_builder.specs.Inits.{with_inits}
use Rattle.cg_netlist_parts.specs.Part.{Clock}
use Rattle.cg_netlist_parts.specs.Said.{Said}
use Rattle.cg_text.specs.Lines.{end_line}
use Rattle.cg_verilog_text.specs.Items.{ItemAt, header, items, line_of}
use Rattle.cg_verilog_text.specs.Meaning.{Init}
use Rattle.cg_verilog_text.specs.Reading.{Got, Read, Stuck, behind}
use Rattle.cg_verilog_text.specs.Telling.{Fault, ItemsSaid, bad_fault, faults_of, first_of, is_before, sooner, tell_item, tell_items, untold, with_parts}
use Rattle.cg_verilog_text.specs.TextItems.{Text, bad_behind, bad_in, inits_of, text_from}
use Rattle.cg_verilog_text.specs.Tokens.{Token, tokens}
use Rattle.cg_verilog_text.specs.VerilogText.{clock_said, said_or, told_by, told_of, with_clock}
use Rattle.cg_verilog_text.specs.declared.fault.ItemFault.TheVariants.{BadText}
use Rattle.cg_verilog_text.specs.declared.fault.VerilogFault.{VerilogFault}
use Rattle.cg_verilog_text.proofs.InitsLast.{init_nets, init_numbers, items_late}
use Rattle.cg_verilog.specs.Ending.{bad_of, builder_of, built_or, clocked, clocked_said, closed, go_on, outcome, outcome_of, summary_from, with_bad, with_given}
use Rattle.cg_verilog.specs.GivenInits.{are_of}
use Rattle.cg_verilog.specs.Summary.{Ending, Summary, empty, ending}
use Rattle.cg_verilog.proofs.InitsSummed.{Sums}
use Rattle.cg_verilog.proofs.ItemsSummed.{inits_same, sums}
use Rattle.cg_verilog.proofs.Summed.{Agrees, agrees_items, first_more}

-- what a builder has said, where one is answered
abbrev pub saying : Result Building VerilogFault → Result Said VerilogFault
saying (Ok b) = Ok b.said
saying (Err fault) = Err fault

-- the first fault, with the bad token
first_bad : (faults : List Fault) (s : Summary) (bad : Option ℕ) → first_of faults ≡ s.first → first_of (faults ++ bad_fault bad) ≡ (with_bad s bad).first
first_bad faults s None is = ap first_of (append-nil faults) ∙ is
first_bad faults s (Some line) is = first_more faults (record { line = line; cause = BadText }) ∙ ap (λ f. sooner f (record { line = line; cause = BadText })) is

-- where no fault is first, there is no bad token
sooner_some : (first : Option Fault) (fault : Fault) → sooner first fault ≡ None → ⊥
sooner_some None fault is = absurd (cc)
sooner_some (Some first) fault is = go (is_before fault first) is
  where
    go : (b : Bool) → (if b then Some fault else Some first) ≡ None → ⊥
    go true e = absurd (cc)
    go false e = absurd (cc)

none_bad : (s : Summary) (bad : Option ℕ) → (with_bad s bad).first ≡ None → bad ≡ None
none_bad s None is = refl
none_bad s (Some line) is = absurd (sooner_some s.first (record { line = line; cause = BadText }) is)

both_true : (a b : Bool) → (a && b) ≡ true → b ≡ true
both_true true b is = is
both_true false b is = absurd (cc)

-- no bad token: each init is of a register, and none is given twice
given_right : (end : ℕ) (e : Ending) → bad_of end e ≡ None → are_of e.summary.updated e.summary.inits ≡ true
given_right end e is = go (e.whole && are_of e.summary.updated e.summary.inits) refl is
  where
    go : (b : Bool) → (e.whole && are_of e.summary.updated e.summary.inits) ≡ b → (if b then bad_behind (behind e.left) else Some (line_of end e.left)) ≡ None → are_of e.summary.updated e.summary.inits ≡ true
    go true here none = both_true e.whole (are_of e.summary.updated e.summary.inits) here
    go false here none = absurd (cc)

built_kept : (s : Summary) (bad : Option ℕ) → (with_bad s bad).built ≡ s.built
built_kept s None = refl
built_kept s (Some line) = refl

inits_kept : (s : Summary) (bad : Option ℕ) → (with_bad s bad).inits ≡ s.inits
inits_kept s None = refl
inits_kept s (Some line) = refl

module _ (library : List CellData) (clock : Option NetName) (end : ℕ) (model : NetName) (later : List Token) where
  abbrev found : List ItemAt
  found = (items later).found

  abbrev inits : List Init
  inits = inits_of found

  abbrev e : Ending
  e = ending library (empty model) (items later)

  abbrev told : ItemsSaid
  told = fold (tell_item library []) untold found

  agrees : Agrees told e.summary
  agrees = agrees_items library found untold (empty model) (record { said = refl; first = refl })

  abbrev late : Said → Said
  late s = with_inits (init_nets inits) (init_numbers inits) s

  told_late : tell_items library found ≡ record told { said = option_map late told.said }
  told_late = items_late library inits untold found

  bad_same : bad_of end e ≡ bad_in end (items later)
  bad_same = ap (λ b. if (items later).whole && b then bad_behind (behind (items later).left) else Some (line_of end (items later).left)) (inits_same library (empty model) found refl refl)

  abbrev text : Text
  text = record { model = model; items = found; bad = bad_in end (items later) }

  first_same : first_of (faults_of library text) ≡ (closed end e).first
  first_same =
      ap (λ t. first_of (t.faults ++ bad_fault (bad_in end (items later)))) told_late
      ∙ (ap (λ bad. first_of (told.faults ++ bad_fault bad)) (sym bad_same)
      ∙ first_bad told.faults e.summary (bad_of end e) agrees.first)

  said_same : (tell_items library found).said ≡ option_map late (option_map (λ b. b.said) e.summary.built)
  said_same = ap (λ t. t.said) told_late ∙ ap (option_map late) agrees.said

  -- where there is no fault, the builder has said with the inits what the items tell
  given_same : (closed end e).first ≡ None → (s : Said) → with_inits e.summary.inits.nets e.summary.inits.values s ≡ late s
  given_same none s =
      let right : are_of e.summary.updated e.summary.inits ≡ true = given_right end e (none_bad e.summary (bad_of end e) none) in
      let sum : Sums inits e.summary.inits = sums library (empty model) found refl refl in
      let distinct : are_distinct (init_nets inits) ≡ true = both_true _ _ (sym (inits_same library (empty model) found refl refl) ∙ right) in
      ap (λ ns. with_inits ns e.summary.inits.values s) (sum.nets distinct) ∙ ap (λ vs. with_inits (init_nets inits) vs s) (sum.values distinct)

  clock_same : (b : Building) → with_clock clock (Some b.said) ≡ saying (clocked clock b)
  clock_same b = go clock
    where
      go : (c : Option NetName) → with_clock c (Some b.said) ≡ saying (clocked c b)
      go None = refl
      go (Some net) = said (with_parts (Clock net ∷ []) b.said)
        where
          said : (r : Result Said Limit) → clock_said r ≡ saying (clocked_said b r)
          said (Ok s) = refl
          said (Err limit) = refl

  built_same : (o : Option Building) → (closed end e).first ≡ None → with_clock clock (option_map late (option_map (λ b. b.said) o)) ≡ saying (go_on (built_or o e.summary.inits) (clocked clock))
  built_same None none = refl
  built_same (Some b) none =
      ap (λ s. with_clock clock (Some s)) (sym (given_same none b.said)) ∙ clock_same (with_given e.summary.inits b)

  outcome_same : (first : Option Fault) → (closed end e).first ≡ first → said_or first (with_clock clock (tell_items library found).said) ≡ saying (go_on (outcome_of first (closed end e).built (closed end e).inits) (clocked clock))
  outcome_same (Some fault) is = refl
  outcome_same None is =
      ap (with_clock clock) said_same
      ∙ (built_same e.summary.built is
      ∙ ap (λ o. saying (go_on (built_or o e.summary.inits) (clocked clock))) (sym (built_kept e.summary (bad_of end e)))
      ∙ ap (λ g. saying (go_on (built_or (closed end e).built g) (clocked clock))) (sym (inits_kept e.summary (bad_of end e))))

  text_same : told_of library clock text ≡ saying (go_on (outcome (closed end e)) (clocked clock))
  text_same =
      ap (λ first. said_or first (with_clock clock (tell_items library found).said)) first_same
      ∙ outcome_same (closed end e).first refl

from_same : (library : List CellData) (clock : Option NetName) (end : ℕ) (read : Read NetName) → told_of library clock (text_from end read) ≡ saying (go_on (go_on (summary_from library end read) outcome) (clocked clock))
from_same library clock end (Stuck left) = refl
from_same library clock end (Got model later) = text_same library clock end model later

pub told_built : (library : List CellData) (clock : Option NetName) (text : List ℕ) → told_by library clock text ≡ saying (builder_of library clock text)
told_built library clock text = from_same library clock (end_line text) (header (tokens text))

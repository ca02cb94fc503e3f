-- What items tell is what is summed up of them.
use Rattle.std.proofs.Common.{◌≡◌, ℕ, List, [], ◌∷◌, ◌++◌, refl, ap, sym, ◌∙◌, subst, Option, None, Some, option_map, Result, Ok, Err}
use Rattle.std.specs.List.{fold}
use Rattle.std.proofs.lemmas.List.Sums.{fold-append}
use Rattle.cg_cell.specs.Cell.{CellData}
use Rattle.cg_limit.specs.declared.Limit.{Limit}
use Rattle.cg_netlist_builder.specs.Building.{Building}
use Rattle.cg_netlist_parts.specs.Part.{Part}
use Rattle.cg_netlist_parts.specs.Said.{Said}
use Rattle.cg_verilog_text.specs.Items.{ItemAt}
use Rattle.cg_verilog_text.specs.Meaning.{said_by}
use Rattle.cg_verilog_text.specs.Telling.{Fault, ItemsSaid, first_of, sooner, tell_item, tell_parts, tell_passed, tell_result, with_parts, without_said}
use Rattle.cg_verilog_text.specs.declared.fault.ItemFault.{ItemFault}
use Rattle.cg_verilog_text.specs.declared.fault.ItemFault.TheVariants.{BadText, Placed, Limit as Passed}
use Rattle.cg_verilog.specs.Summary.{Summary, put, put_parts, put_result, put_said, without_built}

-- one fault more
pub first_more : (faults : List Fault) (fault : Fault) → first_of (faults ++ fault ∷ []) ≡ sooner (first_of faults) fault
first_more faults fault = fold-append sooner None faults (fault ∷ [])

-- what was told agrees with the summary
abbrev pub said_in : Option Building → Option Said
said_in built = option_map (λ b. b.said) built

pub record Agrees (told : ItemsSaid) (s : Summary) : Type 0 where
  pub said : told.said ≡ option_map (λ b. b.said) s.built
  pub first : first_of told.faults ≡ s.first

agrees_fault : (told : ItemsSaid) (s : Summary) (line : ℕ) (cause : ItemFault) → Agrees told s → Agrees (tell_result told line (Err cause)) (put_result s line (Err cause))
agrees_fault told s line cause agrees = record {
  said = go cause;
  first = first_more told.faults (record { line = line; cause = cause }) ∙ ap (λ f. sooner f (record { line = line; cause = cause })) agrees.first;
}
  where
    go : (c : ItemFault) → without_said c told.said ≡ said_in (without_built c s.built)
    go BadText = agrees.said
    go (Placed fault) = agrees.said
    go (Passed limit) = refl

agrees_parts : (told : ItemsSaid) (s : Summary) (line : ℕ) (ps : List Part) → Agrees told s → (o : Option Building) → s.built ≡ o → Agrees (tell_parts told line (said_in o) ps) (put_parts s line o ps)
agrees_parts told s line ps agrees None is = agrees
agrees_parts told s line ps agrees (Some b) is = go (with_parts ps b.said)
  where
    go : (r : Result Said Limit) → Agrees (tell_passed told line r) (put_said s line b r)
    go (Ok t) = record { said = refl; first = agrees.first }
    go (Err limit) = record {
      said = refl;
      first = first_more told.faults (record { line = line; cause = Passed limit }) ∙ ap (λ f. sooner f (record { line = line; cause = Passed limit })) agrees.first;
    }

agrees_result : (told : ItemsSaid) (s : Summary) (line : ℕ) (r : Result (List Part) ItemFault) → Agrees told s → Agrees (tell_result told line r) (put_result s line r)
agrees_result told s line (Ok ps) agrees = subst (λ o. Agrees (tell_parts told line o ps) (put_parts s line s.built ps)) (sym agrees.said) (agrees_parts told s line ps agrees s.built refl)
agrees_result told s line (Err cause) agrees = agrees_fault told s line cause agrees

module _ (library : List CellData) where
  agrees_item : (told : ItemsSaid) (s : Summary) (one : ItemAt) → Agrees told s → Agrees (tell_item library [] told one) (put library s one)
  agrees_item told s one agrees =
      let now = agrees_result told s one.line (said_by library [] one.item) agrees in
      record { said = now.said; first = now.first }

  pub agrees_items : (found : List ItemAt) (told : ItemsSaid) (s : Summary) → Agrees told s → Agrees (fold (tell_item library []) told found) (fold (put library) s found)
  agrees_items [] told s agrees = agrees
  agrees_items (one ∷ found) told s agrees = agrees_items found (tell_item library [] told one) (put library s one) (agrees_item told s one agrees)

-- What is summed up of items: their inits, and the nets of their registers.
use Rattle.std.proofs.Common.{◌≡◌, List, [], ◌∷◌, refl, ap, sym, ◌∙◌}
use Rattle.std.specs.List.{fold}
use Rattle.std.proofs.lemmas.List.Sums.{fold-append}
use Rattle.cg_cell.specs.Cell.{CellData}
use Rattle.cg_net.specs.Names.{NetName, is_known, with_names}
use Rattle.cg_netlist_builder.proofs.Mentions.{with_names-append}
use Rattle.cg_verilog_text.specs.Items.{ItemAt}
use Rattle.cg_verilog_text.specs.Meaning.{are_inits, inits_in, updated_in}
use Rattle.cg_verilog_text.specs.TextItems.{inits_of, updated}
use Rattle.cg_verilog_expression.proofs.KnownNets.{known_names}
use Rattle.cg_verilog.specs.GivenInits.{are_of, no_inits, with_init}
use Rattle.cg_verilog.specs.Summary.{Summary, put}
use Rattle.cg_verilog.proofs.InitsSummed.{Sums, are_of_inits, sums_more, sums_none}

module _ (library : List CellData) where
  inits_summed : (found : List ItemAt) (s : Summary) → (fold (put library) s found).inits ≡ fold with_init s.inits (inits_of found)
  inits_summed [] s = refl
  inits_summed (one ∷ found) s =
      inits_summed found (put library s one) ∙ sym (fold-append with_init s.inits (inits_in one.item) (inits_of found))

  updated_summed : (found : List ItemAt) (s : Summary) → (fold (put library) s found).updated ≡ with_names s.updated (updated found)
  updated_summed [] s = refl
  updated_summed (one ∷ found) s =
      updated_summed found (put library s one) ∙ sym (with_names-append s.updated (updated_in one.item) (updated found))

  module _ (s : Summary) (found : List ItemAt) (none : s.inits ≡ no_inits) (new : s.updated ≡ []) where
    abbrev whole : Summary
    whole = fold (put library) s found

    pub sums : Sums (inits_of found) whole.inits
    sums = rw (inits_summed found s, none) (sums_more [] (inits_of found) no_inits sums_none)

    known : (x : NetName) → is_known whole.updated x ≡ is_known (updated found) x
    known x = ap (λ ns. is_known ns x) (updated_summed found s ∙ ap (λ ns. with_names ns (updated found)) new) ∙ known_names [] (updated found) x

    pub inits_same : are_of whole.updated whole.inits ≡ are_inits (updated found) (inits_of found)
    inits_same = are_of_inits whole.updated (updated found) (inits_of found) whole.inits known sums

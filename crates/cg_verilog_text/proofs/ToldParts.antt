-- What items tell is what parts say.
use Rattle.std.proofs.Common.{[], ◌≡◌, ℕ, List, ◌∷◌, ◌++◌, refl, sym, ap, ◌∙◌, subst, Option, None, Some, Result, Ok, Err}
use Rattle.std.specs.List.{fold}
use Rattle.cg_cell.specs.Cell.{CellData}
use Rattle.cg_limit.specs.declared.Limit.{Limit}
use Rattle.cg_net.specs.Names.{NetName}
use Rattle.cg_netlist_parts.specs.Part.{Part, Clock}
use Rattle.cg_netlist_parts.specs.Said.{Said, limit_of, said, with_part}
use Rattle.cg_netlist_parts.proofs.SaidMore.{said_more}
use Rattle.cg_verilog_text.specs.Items.{ItemAt}
use Rattle.cg_verilog_text.specs.Meaning.{Init, said_by}
use Rattle.cg_verilog_text.specs.Telling.{ItemsSaid, tell_item, tell_items, tell_passed, tell_result, unless, untold, with_parts}
use Rattle.cg_verilog_text.specs.TextItems.{inits_of}
use Rattle.cg_verilog_text.specs.VerilogText.{clock_said, with_clock}
use Rattle.cg_verilog_text.specs.declared.fault.ItemFault.{ItemFault}
use Rattle.cg_verilog_text.specs.declared.fault.ItemFault.TheVariants.{BadText, Placed, Limit as Passed}

pub record IsSaid (s : Said) : Type 0 where
  pub parts : List Part
  pub is : s ≡ said parts

abbrev pub SaidIn : Option Said → Type 0
SaidIn None = Unit {0}
SaidIn (Some s) = IsSaid s

more_said : (more : List Part) (s t : Said) → IsSaid s → with_parts more s ≡ Ok t → IsSaid t
more_said [] s t told is = let same : s ≡ t = cc in subst IsSaid same told
more_said (p ∷ more) s t told is = go (limit_of (with_part s p)) is (more_said more (with_part s p) t (record { parts = told.parts ++ p ∷ []; is = ap (λ u. with_part u p) told.is ∙ sym (said_more told.parts p) }))
  where
    go : (o : Option Limit) → unless o (with_parts more (with_part s p)) ≡ Ok t → (with_parts more (with_part s p) ≡ Ok t → IsSaid t) → IsSaid t
    go None q back = back q
    go (Some limit) q back = absurd (cc)

passed_said : (told : ItemsSaid) (line : ℕ) (s : Said) (parts : List Part) → IsSaid s → SaidIn (tell_passed told line (with_parts parts s)).said
passed_said told line s parts is = go (with_parts parts s) refl
  where
    go : (r : Result Said Limit) → with_parts parts s ≡ r → SaidIn (tell_passed told line r).said
    go (Ok t) e = more_said parts s t is e
    go (Err limit) e = tt

result_said : (told : ItemsSaid) (line : ℕ) (o : Option Said) (r : Result (List Part) ItemFault) → SaidIn o → SaidIn (tell_result (record told { said = o }) line r).said
result_said told line None (Ok parts) is = tt
result_said told line (Some s) (Ok parts) is = passed_said (record told { said = Some s }) line s parts is
result_said told line o (Err BadText) is = is
result_said told line o (Err (Placed fault)) is = is
result_said told line o (Err (Passed limit)) is = tt

-- items one after another
pub items_said : (library : List CellData) (inits : List Init) (told : ItemsSaid) (found : List ItemAt) → SaidIn told.said → SaidIn (fold (tell_item library inits) told found).said
items_said library inits told [] is = is
items_said library inits told (one ∷ found) is = items_said library inits (tell_item library inits told one) found (result_said told one.line told.said (said_by library inits one.item) is)

pub told_parts : (library : List CellData) (found : List ItemAt) (s : Said) → (tell_items library found).said ≡ Some s → IsSaid s
told_parts library found s is = subst SaidIn is (items_said library (inits_of found) untold found (record { parts = []; is = refl }))

-- and the clock of the option behind them
pub told_with_clock : (library : List CellData) (clock : Option NetName) (found : List ItemAt) (s : Said) → with_clock clock (tell_items library found).said ≡ Ok s → IsSaid s
told_with_clock library clock found s is = go clock (tell_items library found).said (items_said library (inits_of found) untold found (record { parts = []; is = refl })) is
  where
    passed : (net : NetName) (t : Said) (r : Result Said Limit) → IsSaid t → with_parts (Clock net ∷ []) t ≡ r → clock_said r ≡ Ok s → IsSaid s
    passed net t (Err limit) told e q = absurd (cc)
    passed net t (Ok u) told e q = let same : u ≡ s = cc in subst IsSaid same (more_said (Clock net ∷ []) t u told e)

    go : (clock : Option NetName) (o : Option Said) → SaidIn o → with_clock clock o ≡ Ok s → IsSaid s
    go clock None told q = absurd (cc)
    go None (Some t) told q = let same : t ≡ s = cc in subst IsSaid same told
    go (Some net) (Some t) told q = passed net t (with_parts (Clock net ∷ []) t) told refl q

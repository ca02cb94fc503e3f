-- What finishing answers a builder that was told the gated netlist's parts.
use Rattle.std.proofs.Common.{◌≡◌, ℕ, ◌+◌, ◌<◌, ◌≤◌, ◌^◌, if◌then◌else◌, List, length, take, Option, None, Some, Ok, Err}
use Rattle.std.proofs.Common.{ap, sym, ◌∙◌, subst, inl, inr}
use Rattle.std.specs.List.{All, AllByRecursion}
use Rattle.std.proofs.lemmas.Bool.{le-leb}
use Rattle.cg_limit.specs.declared.TheConstants.{MOST_NETS}
use Rattle.cg_cell.specs.Cell.{CellData}
use Rattle.cg_limit.specs.declared.Limit.{Limit}
use Rattle.cg_limit.specs.declared.Limit.TheVariants.{Nets}
use Rattle.cg_machine.specs.Added.{own_netlist}
use Rattle.cg_machine.specs.Machine.{IsMachine, MachineData}
use Rattle.cg_netlist_parts.proofs.AtMostOne.{says_one}
use Rattle.cg_netlist_parts.proofs.NoneBeside.{faultless}
use Rattle.cg_netlist_parts.proofs.OneFault.{no_fault}
use Rattle.cg_netlist.specs.Circuit.{Circuit}
use Rattle.cg_netlist.specs.Netlist.{IsNetlist}
use Rattle.cg_netlist_parts.specs.declared.fault.NetFault.{NetFault}
use Rattle.cg_netlist_parts.specs.declared.fault.NetFault.TheVariants.{NoMemory}
use Rattle.cg_netlist_builder.specs.Building.{Building, Finishes, fresh}
use Rattle.cg_netlist_parts.specs.Part.{Part}
use Rattle.cg_netlist_parts.specs.Said.{said}
use Rattle.cg_insert.proofs.Inserted.{insertion_is_right}
use Rattle.cg_insert.proofs.InsertedParts.{is_netlist, may_tell, outputs_once, parts_say, told_said}
use Rattle.cg_netlist_parts.specs.Writable.{IsOf}
use Rattle.cg_insert.proofs.StillWritable.{still_writable}
use Rattle.cg_insert.specs.Insert.{CanInsert, enables_of, first_gater_output, inserted, insertion_limit}
use Rattle.cg_insert.specs.Inserting.{IsWhole, RunsAs, StaysWritable, insertion, unless_passed}
use Rattle.cg_insert.specs.inner.GatedParts.{gated_names, gated_parts}
use Rattle.cg_netlist_telling.specs.Telling.{MayTell, told}

pub no_limit : (test : Option (List ℕ)) (m : MachineData) → first_gater_output m test + length (enables_of m) ≤ MOST_NETS → insertion_limit test m ≡ None
no_limit test m small = ap {B = Option Limit} (λ b. if b then None else Some Nets) (le-leb (first_gater_output m test + length (enables_of m)) MOST_NETS small)

module _ (library : List CellData) (test : Option (List ℕ)) (m : MachineData) (good : IsMachine m) (can : CanInsert library test m) (own : IsNetlist (own_netlist m)) (small : insertion_limit test m ≡ None) where
  narrow : All (λ cell. length cell.inputs < 2 ^ 32) (take m.own_cells m.circuit.cells)
  narrow = own.inputs

  abbrev parts : List Part
  parts = gated_parts (gated_names test m) library test m

  pub may : (b : Building) (names : List (List ℕ)) → b ≡ fresh m.circuit.model → names ≡ gated_names test m → MayTell b (gated_parts names library test m)
  may b names b_is names_are =
      subst (λ ns. MayTell b (gated_parts ns library test m)) (sym names_are) (subst (λ c. MayTell c parts) (sym b_is) (may_tell library test m good can small narrow))

  its_said : (b : Building) → b ≡ told (fresh m.circuit.model) parts → said parts ≡ b.said
  its_said b is = sym (told_said library test m good can small narrow) ∙ ap (λ (c : Building). c.said) (sym is)

  pub finished : (b : Building) → b ≡ told (fresh m.circuit.model) parts → (netlist : Circuit) → Finishes b (Ok netlist) → netlist ≡ inserted library test m
  finished b is netlist finishes =
      says_one m.circuit.model parts netlist (inserted library test m) (subst (λ model. Rattle.cg_netlist_parts.specs.Says.Says model parts netlist) (ap (λ (c : Building). c.model) is) (finishes parts (its_said b is))) (parts_say library test m good can small narrow)

  pub wanting : (b : Building) → b ≡ told (fresh m.circuit.model) parts → (fault : NetFault) → Finishes b (Err fault) → fault ≡ NoMemory
  wanting b is fault finishes = elim (finishes parts (its_said b is)) [
    | inl none ↦ none
    | inr there ↦ absurd (no_fault parts fault there (faultless m.circuit.model parts (inserted library test m) (parts_say library test m good can small narrow)))
  ]

  module _ (netlist : Circuit) (is : netlist ≡ inserted library test m) where
    pub answered : insertion library test m ≡ Ok netlist
    answered = ap (λ limit. unless_passed limit (inserted library test m)) small ∙ ap Ok (sym is)

    pub whole : IsWhole netlist
    whole = subst IsWhole (sym is) (record { netlist = is_netlist library test m good can small narrow; outputs_once = outputs_once library test m good can small narrow })

    pub runs : RunsAs library test m netlist
    runs = subst (RunsAs library test m) (sym is) (insertion_is_right library test m good can)

    pub writable : AllByRecursion (IsOf library) library → StaysWritable library m netlist
    writable its = subst (StaysWritable library m) (sym is) (λ own_writable. still_writable library test m good can (is_netlist library test m good can small narrow) (outputs_once library test m good can small narrow) its own_writable)

-- What gating needs of a netlist with gating cells: of the netlist that is left, and of the machine.
use Rattle.std.proofs.Common.{[], ◌≡◌, ℕ, true, false, List, ◌∷◌, map, length, get_or, unwrap_or, is_some, nat_eq, Option, None}
use Rattle.std.proofs.Common.{Some, refl, ap, sym, ◌∙◌, subst}
use Rattle.std.specs.Option.{option_map}
use Rattle.std.proofs.lemmas.Bool.{both_ways, eq-eqb, or_left, or_parts, or_right}
use Rattle.std.proofs.lemmas.List.{length-map}
use Rattle.std.proofs.lemmas.List.Elements.{All-map, All-nil, All-weaker}
use Rattle.std.proofs.lemmas.Option.{slice_get-get_or, slice_get-map}
use Rattle.cg_netlist_telling.proofs.OrderedNames.{named_ordered}
use Rattle.cg_netlist.specs.Circuit.{Circuit, GatingCell, LogicCell, RegisterCell, data_inputs}
use Rattle.cg_net.specs.NetSets.{is_in}
use Rattle.cg_netlist.specs.Netlist.{IsNetlist}
use Rattle.cg_netlist.specs.Wiring.{map_cell, map_register}
use Rattle.cg_net.specs.Names.{net_name}
use Rattle.cg_netlist_parts.specs.Writable.{FunctionIsOf, IsOf, KindIsOf}
use Rattle.cg_extract.proofs.Asked.{asked}
use Rattle.cg_extract.proofs.Bare.{bare_formed, bare_netlist, data_is, in_order}
use Rattle.cg_extract.proofs.Kept.{data_kept, placed}
use Rattle.cg_extract.proofs.LiftedMoments.{shown_kept}
use Rattle.cg_extract.proofs.LiftedOfUngated.{lifted_same}
use Rattle.cg_extract.proofs.OwnKept.{own_kept}
use Rattle.cg_extract.proofs.Renumbered.{none_found}
use Rattle.cg_extract.proofs.BareParts.{outputs_once}
use Rattle.cg_extract.specs.Laws.{BareIsNetlist, BareIsPlaceable, LiftedAsks, LiftedOfUngated, LiftedOwn, LiftedShowsNets}
use Rattle.cg_extract.specs.Laws.{UnrefusedHasNoTests}
use Rattle.cg_extract.specs.Lifted.{bare, is_refused, kept_nets, number_of, on_clock, ungated}

no_test : (test : Option ℕ) → is_some test ≡ false → test ≡ None
no_test None is = refl
no_test (Some net) is = absurd (both_ways true is refl)

pub unrefused_untested : UnrefusedHasNoTests
unrefused_untested c and2 none k d below =
    let g : GatingCell ℕ = get_or c.gaters k d in
    no_test g.test (or_parts (is_some g.test) _ (none_found (is_refused c and2) c.gaters 0 none k g (slice_get-get_or c.gaters k d below))).0

-- nets that are kept have their names
module _ (c : Circuit) (whole : IsNetlist c) where
  pub name_kept : (x : ℕ) → is_in (kept_nets c) x ≡ true → net_name (bare c).names (number_of c x) ≡ net_name c.names x
  name_kept x among = ap (λ o. unwrap_or o []) (slice_get-map (net_name c.names) (kept_nets c) (number_of c x) ∙ ap (option_map (net_name c.names)) (placed c whole x among))

  names_kept : (xs : List ℕ) → ((x : ℕ) → is_in xs x ≡ true → is_in (kept_nets c) x ≡ true) → map (net_name (bare c).names) (map (number_of c) xs) ≡ map (net_name c.names) xs
  names_kept [] kept = refl
  names_kept (x ∷ xs) kept =
      ap (λ name. name ∷ map (net_name (bare c).names) (map (number_of c) xs)) (name_kept x (kept x (or_left (nat_eq x x) (is_in xs x) (eq-eqb x x refl))))
      ∙ ap (λ names. net_name c.names x ∷ names) (names_kept xs (λ y among. kept y (or_right (nat_eq y x) (is_in xs y) among)))

pub bare_is_netlist : BareIsNetlist
bare_is_netlist c whole = (
  bare_netlist c whole,
  record {
    parts = named_ordered (ungated c) (bare_formed c whole) (in_order c whole);
    inputs = ap (map (net_name (bare c).names)) (data_is c whole) ∙ names_kept c whole (data_inputs c) (data_kept c whole);
  },
)

pub bare_is_placeable : BareIsPlaceable
bare_is_placeable library c placeable =
    let f : ℕ → ℕ = number_of c in
    record {
      netlist = bare_netlist c placeable.netlist;
      outputs_once = outputs_once c placeable.netlist placeable.outputs_once;
      functions = All-map (λ (cell : LogicCell ℕ). FunctionIsOf library (length cell.inputs) cell.function) (map_cell f) c.cells
          (All-weaker (λ (cell : LogicCell ℕ). FunctionIsOf library (length cell.inputs) cell.function) (λ (cell : LogicCell ℕ). FunctionIsOf library (length (map f cell.inputs)) cell.function)
          (λ cell is. subst (λ k. FunctionIsOf library k cell.function) (sym (length-map cell.inputs f)) is) c.cells placeable.functions);
      gating = All-nil (λ (gater : GatingCell ℕ). IsOf library gater.cell);
      kinds = All-map (λ (r : RegisterCell ℕ ℕ). KindIsOf library r.init r.kind) (map_register f) (map (on_clock c) c.registers)
          (All-map (λ (r : RegisterCell ℕ ℕ). KindIsOf library r.init r.kind) (on_clock c) c.registers placeable.kinds);
    }

pub lifted_own : LiftedOwn
lifted_own c prefix can = own_kept c prefix

pub lifted_asks : LiftedAsks
lifted_asks c prefix can = asked c prefix can

pub lifted_of_ungated : LiftedOfUngated
lifted_of_ungated c prefix can none = lifted_same c can.netlist none prefix can.outputs_once

pub lifted_shows_nets : LiftedShowsNets
lifted_shows_nets c prefix can inputs state gates nets there state_long inputs_long x among = shown_kept c prefix can inputs state gates nets there state_long inputs_long x among

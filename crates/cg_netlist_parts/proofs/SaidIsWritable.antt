-- A netlist that taken parts say is placeable, if each of the parts can be placed, and writable, if a line can say each.
use Rattle.std.specs.Prelude.{◌≡◌, ◌≢◌, ◌⊎◌, ◌<◌, ℕ, true, false, List, [], ◌∷◌, map, length, unwrap_or, Option, None, Some, nat_eq}
use Rattle.std.proofs.Common.{refl, ap, ◌∙◌, sym, subst, inl, inr}
use Rattle.std.specs.List.{All, AllByRecursion}
use Rattle.std.specs.Option.{option_map, option_or, option_to_list}
use Rattle.std.proofs.lemmas.Bool.{both_ways, or_left, eq-eqb}
use Rattle.std.proofs.lemmas.List.{length-map}
use Rattle.cg_cell.specs.Cell.{CellData}
use Rattle.cg_netlist.specs.declared.parts.RegisterKind.TheVariants.{Plain}
use Rattle.cg_netlist.proofs.Given.{clock_no_gater}
use Rattle.cg_net.proofs.Members.{is_in_left, is_in_right}
use Rattle.cg_netlist_parts.proofs.ByKind.{kind_each, picks_cell, picks_gater, picks_register}
use Rattle.cg_netlist.proofs.Each.{each, from_recursion}
use Rattle.cg_netlist_parts.proofs.NamePlaces.{same_net}
use Rattle.cg_netlist_parts.proofs.NoneBeside.{cells_are, clock_is, gaters_are}
use Rattle.cg_netlist_parts.proofs.SaidIsNetlist.{each_under, said_is_netlist, said_outputs_once}
use Rattle.cg_netlist_parts.proofs.ToldByNames.{clock_net_within}
use Rattle.cg_netlist.specs.Circuit.{Circuit, GatingCell, LogicCell, RegisterCell, gater_outputs}
use Rattle.cg_net.specs.NetSets.{is_in}
use Rattle.cg_netlist_parts.specs.Part.{GaterPart, Logic, Part, Register, cell_in, clock_of, gater_in, on_clock, register_in, registers}
use Rattle.cg_netlist_parts.specs.Says.{AreTaken, Says}
use Rattle.cg_net.specs.Names.{NetName, net_name}
use Rattle.cg_netlist.specs.Wiring.{map_cell, map_gater, map_register}
use Rattle.cg_netlist_parts.specs.Writable.{FunctionIsOf, IsLine, IsOf, IsPlaceable, IsPlaceablePart, IsWritable, KindIsOf, NIL}

module _ (library : List CellData) (model : List ℕ) (parts : List Part) (c : Circuit) (taken : AreTaken model parts) (placed : AllByRecursion (IsPlaceablePart library) parts) (says : Says model parts c) where
  abbrev name : ℕ → NetName
  name = net_name c.names

  functions : All (λ (m : LogicCell ℕ). FunctionIsOf library (length m.inputs) m.function) c.cells
  functions =
      let named : AllByRecursion (λ (m : LogicCell ℕ). FunctionIsOf library (length (map name m.inputs)) m.function) c.cells =
      each_under (λ (m : LogicCell NetName). FunctionIsOf library (length m.inputs) m.function) (map_cell name) c.cells
      (subst (AllByRecursion (λ (m : LogicCell NetName). FunctionIsOf library (length m.inputs) m.function)) (cells_are model parts c says) (kind_each cell_in (λ m. Logic m) picks_cell (IsPlaceablePart library) parts placed)) in
      from_recursion (λ (m : LogicCell ℕ). FunctionIsOf library (length m.inputs) m.function) c.cells
      (each (λ (m : LogicCell ℕ). FunctionIsOf library (length (map name m.inputs)) m.function) (λ (m : LogicCell ℕ). FunctionIsOf library (length m.inputs) m.function)
      (λ m is. subst (λ n. FunctionIsOf library n m.function) (length-map m.inputs name) is) c.cells named)

  gating : All (λ (g : GatingCell ℕ). IsOf library g.cell) c.gaters
  gating =
      from_recursion (λ (g : GatingCell ℕ). IsOf library g.cell) c.gaters
      (each_under (λ (g : GatingCell NetName). IsOf library g.cell) (map_gater name) c.gaters
      (subst (AllByRecursion (λ (g : GatingCell NetName). IsOf library g.cell)) (gaters_are model parts c says) (kind_each gater_in (λ g. GaterPart g) picks_gater (IsPlaceablePart library) parts placed)))

  of_kind : (rs : List (RegisterCell NetName (Option NetName))) → AllByRecursion (λ (r : RegisterCell NetName (Option NetName)). IsPlaceablePart library (Register r)) rs → AllByRecursion (λ (r : RegisterCell NetName NetName). KindIsOf library r.init r.kind) (map (on_clock (clock_of parts)) rs)
  of_kind [] all = tt
  of_kind (r ∷ rs) all = (all.0, of_kind rs all.1)

  kinds : All (λ (r : RegisterCell ℕ ℕ). KindIsOf library r.init r.kind) c.registers
  kinds =
      from_recursion (λ (r : RegisterCell ℕ ℕ). KindIsOf library r.init r.kind) c.registers
      (each_under (λ (r : RegisterCell NetName NetName). KindIsOf library r.init r.kind) (map_register name) c.registers
      (subst (AllByRecursion (λ (r : RegisterCell NetName NetName). KindIsOf library r.init r.kind)) (sym (ap (λ v. v.registers) says.wired_is)) (of_kind (registers parts) (kind_each register_in (λ r. Register r) picks_register (IsPlaceablePart library) parts placed))))

  pub said_is_placeable : IsPlaceable library c
  said_is_placeable = record {
    netlist = said_is_netlist model parts c taken says;
    outputs_once = said_outputs_once model parts c taken says;
    functions = functions;
    gating = gating;
    kinds = kinds;
  }

-- what a line can say can be placed
pub line_placed : (library : List CellData) (part : Part) → IsLine library part → IsPlaceablePart library part
line_placed library (Register r) line = line.0
line_placed library part line = line

pub lines_placed : (library : List CellData) (parts : List Part) → AllByRecursion (IsLine library) parts → AllByRecursion (IsPlaceablePart library) parts
lines_placed library [] lines = tt
lines_placed library (part ∷ parts) lines = (line_placed library part lines.0, lines_placed library parts lines.1)

module _ (library : List CellData) (model : List ℕ) (parts : List Part) (c : Circuit) (taken : AreTaken model parts) (lines : AllByRecursion (IsLine library) parts) (says : Says model parts c) where
  abbrev called : ℕ → NetName
  called = net_name c.names

  abbrev k : Option NetName
  k = clock_of parts

  -- if a register of the wiring is plain, its clock is not called `NIL` or is the netlist's
  abbrev OnLine : RegisterCell NetName NetName → Type 0
  OnLine r = r.kind ≡ Plain → (r.clock ≢ NIL) ⊎ (r.clock ≡ unwrap_or k [])

  on_line : (r : RegisterCell NetName (Option NetName)) → IsLine library (Register r) → OnLine (on_clock k r)
  on_line r line plain = go r.clock (line.1 plain)
    where
      go : (o : Option NetName) → o ≢ Some NIL → (unwrap_or (option_or o k) [] ≢ NIL) ⊎ (unwrap_or (option_or o k) [] ≡ unwrap_or k [])
      go None other = inr refl
      go (Some x) other = inl (λ same. other (ap (λ y. Some y) same))

  all_on_line : (rs : List (RegisterCell NetName (Option NetName))) → AllByRecursion (λ (r : RegisterCell NetName (Option NetName)). IsLine library (Register r)) rs → AllByRecursion OnLine (map (on_clock k) rs)
  all_on_line [] all = tt
  all_on_line (r ∷ rs) all = (on_line r all.0, all_on_line rs all.1)

  registers_on_line : AllByRecursion (λ (r : RegisterCell ℕ ℕ). OnLine (map_register called r)) c.registers
  registers_on_line =
      each_under OnLine (map_register called) c.registers
      (subst (AllByRecursion OnLine) (sym (ap (λ v. v.registers) says.wired_is)) (all_on_line (registers parts) (kind_each register_in (λ r. Register r) picks_register (IsLine library) parts lines)))

  -- the clock is no output of a gating cell
  not_gated : (o : Option ℕ) (x : ℕ) → c.clock ≡ o → x < length c.names → ((y : ℕ) → o ≡ Some y → y < length c.names) → called x ≡ unwrap_or (option_map called o) [] → is_in (gater_outputs c) x ≡ true → called x ≢ NIL
  not_gated None x clock lt within same gated is = let e : [] ≡ NIL = sym same ∙ is in cc
  not_gated (Some y) x clock lt within same gated is =
      let one : x ≡ y = same_net c.names x y says.formed.different lt (within y refl) same in
      both_ways (is_in (gater_outputs c) y) (clock_no_gater c says.formed.driven y clock) (ap (is_in (gater_outputs c)) (sym one) ∙ gated)

  clock_in_names : (y : ℕ) → c.clock ≡ Some y → y < length c.names
  clock_in_names y is = clock_net_within c says.formed says.ordered y (is_in_left (option_to_list c.clock) (gater_outputs c) y (ap (λ o. is_in (option_to_list o) y) is ∙ or_left (nat_eq y y) false (eq-eqb y y refl)))

  abbrev Clocked : RegisterCell ℕ ℕ → Type 0
  Clocked r = r.kind ≡ Plain → is_in (gater_outputs c) r.clock ≡ true → called r.clock ≢ NIL

  clocked : (r : RegisterCell ℕ ℕ) → OnLine (map_register called r) → Clocked r
  clocked r on plain gated = elim (on plain) [
    | inl other ↦ other
    | inr same ↦ not_gated c.clock r.clock refl (clock_net_within c says.formed says.ordered r.clock (is_in_right (option_to_list c.clock) (gater_outputs c) r.clock gated)) clock_in_names (same ∙ ap (λ o. unwrap_or o []) (clock_is model parts c says)) gated
  ]

  clocks_named : All Clocked c.registers
  clocks_named = from_recursion Clocked c.registers (each (λ (r : RegisterCell ℕ ℕ). OnLine (map_register called r)) Clocked clocked c.registers registers_on_line)

  pub said_is_writable : IsWritable library c
  said_is_writable = record { placeable = said_is_placeable library model parts c taken (lines_placed library parts lines) says; clocks = clocks_named }

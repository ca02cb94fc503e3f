-- A logic cell and a gating cell of a library are placed by the pins with their nets.
use Rattle.std.specs.Prelude.{◌≡◌, suc, Bool, true, false, ◌||◌, if◌then◌else◌, IsTrue, List, [], ◌∷◌, map, length, count_by}
use Rattle.std.specs.Prelude.{Option, None, Some, Ok}
use Rattle.std.proofs.Common.{refl, ap, ◌∙◌, sym, subst, inl, inr, arith}
use Rattle.std.specs.List.{AllByRecursion, filter}
use Rattle.std.specs.Option.{option_to_list}
use Rattle.std.proofs.lemmas.Bool.{both_ways, cases_Bool}
use Rattle.std.proofs.lemmas.List.{length-map}
use Rattle.cg_cell.specs.Cell.{CellData, HasLogicPins, HasPins}
use Rattle.cg_cell.specs.Name.{is_name}
use Rattle.cg_cell.specs.Pins.{PinData, is_clock, is_data, is_enable, is_output, is_test}
use Rattle.cg_cell.specs.declared.cell.CellKind.TheVariants.{Gater as GaterKind, Logic as LogicKind}
use Rattle.cg_cell.specs.declared.cell.Role.{Role}
use Rattle.cg_cell.specs.declared.cell.Role.TheVariants.{Output}
use Rattle.cg_net.specs.Names.{NetName}
use Rattle.cg_netlist.specs.WellFormed.{IsOver}
use Rattle.cg_netlist.specs.declared.parts.LogicFunction.{LogicFunction}
use Rattle.cg_netlist.specs.declared.parts.LogicFunction.TheVariants.{Cell, Cover}
use Rattle.cg_netlist.specs.Circuit.{GatingCell}
use Rattle.cg_netlist_parts.specs.Part.{Logic, GaterPart, mentioned}
use Rattle.cg_netlist_parts.specs.Writable.{FunctionIsOf, IsOf, cell_named}
use Rattle.cg_netlist.proofs.Each.{each_back, each_front}
use Rattle.cg_netlist_placed.specs.Laws.{GaterIsPlaced, LogicIsPlaced}
use Rattle.cg_netlist_placed.specs.PinsOf.{gater_net, logic_nets, logic_pins, pin_pairs}
use Rattle.cg_netlist_placed.specs.Placed.{at_role, logic_part, placed_by, put_net}
use Rattle.cg_netlist_placed.proofs.NetsAtPins.{counted, gater_back, gater_nets, one_left}
use Rattle.cg_netlist_placed.proofs.WordsForPins.{AreNamed, IsNamed, at_step, count_step, placed_known}

-- an output is no input
apart_roles : (name : NetName) (role : Role) → is_output (record { name = name; role = role }) ≡ true → is_data (record { name = name; role = role }) ≡ false
apart_roles name Output is = refl
apart_roles name role is = absurd (both_ways false refl is)

-- the nets of a logic cell, at its pins
abbrev OnlyLogic : List PinData → Type 0
OnlyLogic pins = AllByRecursion (λ pin. IsTrue (is_data pin || is_output pin)) pins

data_only : (d o : Bool) → (d || o) ≡ true → o ≡ false → d ≡ true
data_only true o is none = refl
data_only false o is none = absurd (both_ways o none is)

nets_long : (pins : List PinData) (inputs : List NetName) (output : NetName) → length (logic_nets pins inputs output) ≡ length pins
nets_long [] inputs output = refl
nets_long (p ∷ pins) [] output = go (is_output p) (nets_long pins [] output)
  where
    go : (b : Bool) → length (logic_nets pins [] output) ≡ length pins → length ((if b then Some output else None) ∷ logic_nets pins [] output) ≡ suc (length pins)
    go true rest = ap suc rest
    go false rest = ap suc rest
nets_long (p ∷ pins) (i ∷ is) output = go (is_output p) (nets_long pins (i ∷ is) output) (nets_long pins is output)
  where
    go : (b : Bool) → length (logic_nets pins (i ∷ is) output) ≡ length pins → length (logic_nets pins is output) ≡ length pins → length (if b then Some output ∷ logic_nets pins (i ∷ is) output else Some i ∷ logic_nets pins is output) ≡ suc (length pins)
    go true rest more = ap suc rest
    go false rest more = ap suc more

kept : (p : PinData) (pins : List PinData) (output : NetName) (b : Bool) → is_output p ≡ b → Some (map (λ (pin : PinData). output) (if b then p ∷ filter is_output pins else filter is_output pins)) ≡ Some (map (λ (pin : PinData). output) (filter is_output (p ∷ pins)))
kept p pins output b is = ap (λ c. Some (map (λ (pin : PinData). output) (if c then p ∷ filter is_output pins else filter is_output pins))) (sym is)

outputs_at : (pins : List PinData) (inputs : List NetName) (output : NetName) → at_role is_output pins (logic_nets pins inputs output) ≡ Some (map (λ (pin : PinData). output) (filter is_output pins))
outputs_at [] inputs output = refl
outputs_at (p ∷ pins) [] output = elim (cases_Bool (is_output p)) [
  | inl e ↦ ap (λ b. at_role is_output (p ∷ pins) ((if b then Some output else None) ∷ logic_nets pins [] output)) e
      ∙ (at_step is_output p pins (Some output) (logic_nets pins [] output) true e ∙ (ap (put_net (Some output)) (outputs_at pins [] output) ∙ kept p pins output true e))
  | inr e ↦ ap (λ b. at_role is_output (p ∷ pins) ((if b then Some output else None) ∷ logic_nets pins [] output)) e
      ∙ (at_step is_output p pins None (logic_nets pins [] output) false e ∙ (outputs_at pins [] output ∙ kept p pins output false e))
]
outputs_at (p ∷ pins) (i ∷ is) output = elim (cases_Bool (is_output p)) [
  | inl e ↦ ap (λ b. at_role is_output (p ∷ pins) (if b then Some output ∷ logic_nets pins (i ∷ is) output else Some i ∷ logic_nets pins is output)) e
      ∙ (at_step is_output p pins (Some output) (logic_nets pins (i ∷ is) output) true e ∙ (ap (put_net (Some output)) (outputs_at pins (i ∷ is) output) ∙ kept p pins output true e))
  | inr e ↦ ap (λ b. at_role is_output (p ∷ pins) (if b then Some output ∷ logic_nets pins (i ∷ is) output else Some i ∷ logic_nets pins is output)) e
      ∙ (at_step is_output p pins (Some i) (logic_nets pins is output) false e ∙ (outputs_at pins is output ∙ kept p pins output false e))
]

inputs_at : (pins : List PinData) (inputs : List NetName) (output : NetName) → OnlyLogic pins → count_by is_data pins ≡ length inputs → at_role is_data pins (logic_nets pins inputs output) ≡ Some inputs
inputs_at [] [] output only count = refl
inputs_at [] (i ∷ is) output only count = absurd (omega arith)
inputs_at (p ∷ pins) [] output only count = elim (cases_Bool (is_output p)) [
  | inl e ↦
      let d : is_data p ≡ false = apart_roles p.name p.role e in
      let less : count_by is_data pins ≡ length {A = NetName} [] = omega (arith, count, count_step p pins false d) in
      ap (λ b. at_role is_data (p ∷ pins) ((if b then Some output else None) ∷ logic_nets pins [] output)) e
      ∙ (at_step is_data p pins (Some output) (logic_nets pins [] output) false d ∙ inputs_at pins [] output only.1 less)
  | inr e ↦
      let one = count_step p pins true (data_only (is_data p) (is_output p) only.0 e) in
      absurd (omega (arith, count, one))
]
inputs_at (p ∷ pins) (i ∷ is) output only count = elim (cases_Bool (is_output p)) [
  | inl e ↦
      let d : is_data p ≡ false = apart_roles p.name p.role e in
      let less : count_by is_data pins ≡ length (i ∷ is) = omega (arith, count, count_step p pins false d) in
      ap (λ b. at_role is_data (p ∷ pins) (if b then Some output ∷ logic_nets pins (i ∷ is) output else Some i ∷ logic_nets pins is output)) e
      ∙ (at_step is_data p pins (Some output) (logic_nets pins (i ∷ is) output) false d ∙ inputs_at pins (i ∷ is) output only.1 less)
  | inr e ↦
      let d : is_data p ≡ true = data_only (is_data p) (is_output p) only.0 e in
      let less : count_by is_data pins ≡ length is = omega (arith, count, count_step p pins true d) in
      ap (λ b. at_role is_data (p ∷ pins) (if b then Some output ∷ logic_nets pins (i ∷ is) output else Some i ∷ logic_nets pins is output)) e
      ∙ (at_step is_data p pins (Some i) (logic_nets pins is output) true d ∙ ap (put_net (Some i)) (inputs_at pins is output only.1 less))
]

pub logic_named : (pins : List PinData) (inputs : List NetName) (output : NetName) → AllByRecursion (λ net. IsTrue (is_name net)) inputs → IsTrue (is_name output) → AreNamed (logic_nets pins inputs output)
logic_named [] inputs output ins out = tt
logic_named (p ∷ pins) [] output ins out = go (is_output p) (logic_named pins [] output tt out)
  where
    go : (b : Bool) → AreNamed (logic_nets pins [] output) → AreNamed ((if b then Some output else None) ∷ logic_nets pins [] output)
    go true rest = ((out, tt), rest)
    go false rest = (tt, rest)
logic_named (p ∷ pins) (i ∷ is) output ins out = go (is_output p) (logic_named pins (i ∷ is) output ins out) (logic_named pins is output ins.1 out)
  where
    go : (b : Bool) → AreNamed (logic_nets pins (i ∷ is) output) → AreNamed (logic_nets pins is output) → AreNamed (if b then Some output ∷ logic_nets pins (i ∷ is) output else Some i ∷ logic_nets pins is output)
    go true rest more = ((out, tt), rest)
    go false rest more = ((ins.0, tt), more)

-- a logic cell is placed by its pins
pub logic_placed : (library : List CellData) (inputs : List NetName) (output : NetName) (cell : CellData) → IsOver (length inputs) (Cell cell) → AllByRecursion IsNamed inputs → IsNamed output → IsOf library cell
    → placed_by (cell_named library cell.name) (pin_pairs cell.pins (logic_nets cell.pins inputs output)) ≡ Ok (Logic (record { inputs = inputs; output = output; function = Cell cell }))
logic_placed library inputs output cell over ins out of =
    let pins : HasLogicPins cell.pins = subst (λ k. HasPins k cell.pins) over.1 over.0.roles in
    let nets : List (Option NetName) = logic_nets cell.pins inputs output in
    let i : at_role is_data cell.pins (logic_nets cell.pins inputs output) ≡ Some inputs = inputs_at cell.pins inputs output pins.only over.2 in
    let o : at_role is_output cell.pins (logic_nets cell.pins inputs output) ≡ Some (output ∷ []) = outputs_at cell.pins inputs output ∙ ap (λ xs. Some xs) (one_left output (filter is_output cell.pins) (sym (counted is_output cell.pins) ∙ pins.output)) in
    placed_known library cell nets (Logic (record { inputs = inputs; output = output; function = Cell cell })) LogicKind of over.1 over.0.distinct (nets_long cell.pins inputs output) (logic_named cell.pins inputs output ins out)
    (ap (λ x. logic_part cell x (at_role is_output cell.pins (logic_nets cell.pins inputs output))) i ∙ ap (λ x. logic_part cell (Some inputs) x) o)

pub logic_is_placed : LogicIsPlaced
logic_is_placed library cell logic is part of = go logic.function is part.fits.over of
  where
    ins : AllByRecursion IsNamed logic.inputs
    ins = each_front IsNamed logic.inputs (logic.output ∷ []) part.named

    out : IsNamed logic.output
    out = (each_back IsNamed logic.inputs (logic.output ∷ []) part.named).0

    go : (f : LogicFunction) → f ≡ Cell cell → IsOver (length logic.inputs) f → FunctionIsOf library (length logic.inputs) f
        → placed_by (cell_named library cell.name) (logic_pins cell logic) ≡ Ok (Logic (record { inputs = logic.inputs; output = logic.output; function = f }))
    go (Cover cover) e over of = absurd (cc)
    go (Cell placed) e over of =
        let same : placed ≡ cell = cc in
        subst (λ (c : CellData). placed_by (cell_named library c.name) (logic_pins c logic) ≡ Ok (Logic (record { inputs = logic.inputs; output = logic.output; function = Cell placed }))) same (logic_placed library logic.inputs logic.output placed over ins out of)

pub gater_named : (g : GatingCell NetName) → AllByRecursion (λ net. IsTrue (is_name net)) (mentioned (GaterPart g)) → (pins : List PinData) → AreNamed (gater_nets g pins)
gater_named g all [] = tt
gater_named g all (p ∷ pins) = (pin_is (is_clock p) (is_enable p) (is_test p) (is_output p), gater_named g all pins)
  where
    rest : AllByRecursion (λ net. IsTrue (is_name net)) (option_to_list g.test) × IsTrue (is_name g.output)
    rest = (each_front IsNamed (option_to_list g.test) (g.output ∷ []) all.1.1, (each_back IsNamed (option_to_list g.test) (g.output ∷ []) all.1.1).0)

    pin_is : (c e t o : Bool) → AllByRecursion (λ net. IsTrue (is_name net)) (option_to_list (if c then Some g.clock else if e then Some g.enable else if t then g.test else if o then Some g.output else None))
    pin_is true e t o = (all.0, tt)
    pin_is false true t o = (all.1.0, tt)
    pin_is false false true o = rest.0
    pin_is false false false true = (rest.1, tt)
    pin_is false false false false = tt

pub gater_is_placed : GaterIsPlaced
gater_is_placed library gater part of =
    placed_known library gater.cell (gater_nets gater gater.cell.pins) (GaterPart gater) GaterKind of part.fits.1 part.fits.0.distinct (length-map gater.cell.pins (gater_net gater)) (gater_named gater part.named gater.cell.pins) (gater_back gater part.fits)

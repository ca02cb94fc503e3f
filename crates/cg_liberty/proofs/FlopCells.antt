-- Registers meet the conditions of cells.
use Rattle.std.proofs.Common.{◌≡◌, ◌≤◌, ◌<◌, ◌+◌, ◌==◌, ℕ, suc, nat_le, nat_lt, Bool, true, false, cond, ◌&&◌, ◌||◌, IsTrue, List}
use Rattle.std.proofs.Common.{[], ◌∷◌, ◌++◌, length, map, Option, Some, Result, Ok, Err, refl, ap, ◌∙◌, subst, count_by, arith}
use Rattle.std.specs.List.{AllByRecursion}
use Rattle.std.proofs.lemmas.Bool.Decides.{nat_tests}
use Rattle.cg_cell.specs.Cell.{CellData, IsCell}
use Rattle.cg_cell.specs.Name.{has_no_equals, is_name}
use Rattle.cg_cell.specs.Pins.{PinData, is_clock, is_data, is_state}
use Rattle.cg_cell.specs.Term.{Term, Bit, Input, Inverse, Both, Either, Differ, is_within, lone_input}
use Rattle.cg_cell.specs.declared.cell.CellKind.TheVariants as kinds
use Rattle.cg_cell.specs.declared.cell.Role.{Role}
use Rattle.cg_cell.specs.declared.cell.Role.TheVariants as roles
use Rattle.cg_liberty_group.specs.Group.{text_of}
use Rattle.cg_liberty_group.specs.declared.group.FlopGroup.{FlopGroup}
use Rattle.cg_liberty.specs.Kinds.{all_known, are_flop_pins, flop_cell, flop_of, flop_pins, input_names, inverses_read, is_plain_flop}
use Rattle.cg_liberty.specs.Kinds.{output_role, output_texts, rest_of, restated, state_names}
use Rattle.cg_liberty.specs.Port.{ArePorts}
use Rattle.cg_liberty.specs.Reading.{reading, then_read}
use Rattle.cg_liberty.specs.inner.Parts.{Parts, parts_read}
use Rattle.cg_liberty.specs.declared.fault.CellFault.{CellFault}
use Rattle.cg_liberty.specs.declared.port.Port.{Port}
use Rattle.cg_liberty.proofs.Counts.{count_by-cons}
use Rattle.cg_liberty.proofs.Restated.{restated_within}

abbrev pub pin : List ℕ → Role → PinData
pin name role = record { name = name; role = role }

abbrev parts_are : Option Term → Option Term → Option (List Bool) → Result Parts CellFault
parts_are next clocked known = Ok (record { next = next; clocked = clocked; known = known })

-- what is true of the pins that are made of ports
record Made (ports : List Port) (pins : List PinData) : Type 0 where
  names : map (λ pin. pin.name) pins ≡ map (λ port. port.name) ports
  long : length pins ≡ length ports
  only : AllByRecursion (λ pin. IsTrue (is_data pin || is_clock pin || is_state pin)) pins
  inputs : count_by is_data pins + count_by is_clock pins ≡ length (input_names ports)
  named : AllByRecursion (λ port. IsTrue (is_name port.name)) ports → AllByRecursion (λ pin. IsTrue (is_name pin.name)) pins
  unsplit : AllByRecursion (λ port. IsTrue (has_no_equals port.name)) ports → AllByRecursion (λ pin. IsTrue (has_no_equals pin.name)) pins

made_input : (port : Port) (ports : List Port) (clock : Bool) (pins : List PinData) (output : Bool) → output ≡ false → port.marks.is_output ≡ output → Made ports pins → Made (port ∷ ports) (pin port.name (cond clock roles.Clock roles.Data) ∷ pins)
made_input port ports true pins output is own made = record {
  names = ap (λ (names : List (List ℕ)). port.name ∷ names) made.names;
  long = ap suc made.long;
  only = (refl, made.only);
  inputs = rw (own ∙ is) (let d = count_by-cons is_data (pin port.name roles.Clock) pins in let k = count_by-cons is_clock (pin port.name roles.Clock) pins in omega (arith, made.inputs));
  named = λ h. (h.0, made.named h.1);
  unsplit = λ h. (h.0, made.unsplit h.1);
}
made_input port ports false pins output is own made = record {
  names = ap (λ (names : List (List ℕ)). port.name ∷ names) made.names;
  long = ap suc made.long;
  only = (refl, made.only);
  inputs = rw (own ∙ is) (let d = count_by-cons is_data (pin port.name roles.Data) pins in let k = count_by-cons is_clock (pin port.name roles.Data) pins in omega (arith, made.inputs));
  named = λ h. (h.0, made.named h.1);
  unsplit = λ h. (h.0, made.unsplit h.1);
}

made_output : (port : Port) (ports : List Port) (inverses : List Bool) (pins : List PinData) → port.marks.is_output ≡ true → Made ports pins → Made (port ∷ ports) (pin port.name (output_role inverses) ∷ pins)
made_output port ports [] pins own made = record {
  names = ap (λ (names : List (List ℕ)). port.name ∷ names) made.names;
  long = ap suc made.long;
  only = (refl, made.only);
  inputs = rw own (let d = count_by-cons is_data (pin port.name roles.State) pins in let k = count_by-cons is_clock (pin port.name roles.State) pins in omega (arith, made.inputs));
  named = λ h. (h.0, made.named h.1);
  unsplit = λ h. (h.0, made.unsplit h.1);
}
made_output port ports (false ∷ later) pins own made = record {
  names = ap (λ (names : List (List ℕ)). port.name ∷ names) made.names;
  long = ap suc made.long;
  only = (refl, made.only);
  inputs = rw own (let d = count_by-cons is_data (pin port.name roles.State) pins in let k = count_by-cons is_clock (pin port.name roles.State) pins in omega (arith, made.inputs));
  named = λ h. (h.0, made.named h.1);
  unsplit = λ h. (h.0, made.unsplit h.1);
}
made_output port ports (true ∷ later) pins own made = record {
  names = ap (λ (names : List (List ℕ)). port.name ∷ names) made.names;
  long = ap suc made.long;
  only = (refl, made.only);
  inputs = rw own (let d = count_by-cons is_data (pin port.name roles.StateBar) pins in let k = count_by-cons is_clock (pin port.name roles.StateBar) pins in omega (arith, made.inputs));
  named = λ h. (h.0, made.named h.1);
  unsplit = λ h. (h.0, made.unsplit h.1);
}

made_one : (port : Port) (ports : List Port) (clock : Bool) (inverses : List Bool) (as_output as_input : List PinData) (output : Bool) → port.marks.is_output ≡ output → Made ports as_output → Made ports as_input → Made (port ∷ ports) (cond output (pin port.name (output_role inverses) ∷ as_output) (pin port.name (cond clock roles.Clock roles.Data) ∷ as_input))
made_one port ports clock inverses as_output as_input true own out into = made_output port ports inverses as_output own out
made_one port ports clock inverses as_output as_input false own out into = made_input port ports clock as_input false refl own into

made_all : (clock k : ℕ) (inverses : List Bool) (ports : List Port) → Made ports (flop_pins clock k inverses ports)
made_all clock k inverses [] = record { names = refl; long = refl; only = tt; inputs = refl; named = λ h. h; unsplit = λ h. h }
made_all clock k inverses (port ∷ ports) = made_one port ports (k == clock) inverses (flop_pins clock k (rest_of inverses) ports) (flop_pins clock (k + 1) inverses ports) port.marks.is_output refl (made_all clock k (rest_of inverses) ports) (made_all clock (k + 1) inverses ports)

parts : (a b : ℕ) → (a == 1 && nat_le 1 b) ≡ true → (a ≡ 1) × (1 ≤ b)
parts a b h = grind (arith, nat_tests)

-- one clock among the inputs, and outputs that give the state or the inverse, make a register
pub flop_is_cell : (name : List ℕ) (ports : List Port) (next : Term) (clock : ℕ) (inverses : List Bool) → IsTrue (is_name name) → ArePorts ports → are_flop_pins (flop_pins clock 0 inverses ports) ≡ true → clock < length (input_names ports) → IsTrue (is_within (length (input_names ports) + 2) next) → IsCell (record { name = name; kind = kinds.Flop; pins = flop_pins clock 0 inverses ports; function = Some (restated (length (input_names ports)) clock next) })
flop_is_cell name ports next clock inverses is_named are fits inside within =
    let made : Made ports (flop_pins clock 0 inverses ports) = made_all clock 0 inverses ports in
    let counts = parts (count_by is_clock (flop_pins clock 0 inverses ports)) (count_by is_state (flop_pins clock 0 inverses ports)) fits in
    let variables : length (input_names ports) ≡ count_by is_data (flop_pins clock 0 inverses ports) + 1 = omega (arith, made.inputs, counts.0) in
    record {
      named = is_named;
      pins_named = made.named are.named;
      few = rw made.long are.few;
      distinct = rw made.names are.distinct;
      unsplit = made.unsplit are.unsplit;
      roles = record { clock = counts.0; state = counts.1; only = made.only };
      computes = subst (λ (n : ℕ). IsTrue (is_within n (restated (length (input_names ports)) clock next))) variables (restated_within (length (input_names ports)) clock next inside within);
    }

pub flop_is_made : (name : List ℕ) (ports : List Port) (next function : Term) (inputs clock : ℕ) (inverses : List Bool) (pins : List PinData) → IsTrue (is_name name) → ArePorts ports → pins ≡ flop_pins clock 0 inverses ports → are_flop_pins pins ≡ true → inputs ≡ length (input_names ports) → clock < inputs → IsTrue (is_within (inputs + 2) next) → function ≡ restated inputs clock next → IsCell (record { name = name; kind = kinds.Flop; pins = pins; function = Some function })
flop_is_made name ports next function inputs clock inverses pins is_named are is fits counted inside within restates =
    let fits' : are_flop_pins (flop_pins clock 0 inverses ports) ≡ true = subst (λ (ps : List PinData). are_flop_pins ps ≡ true) is fits in
    let inside' : clock < length (input_names ports) = omega arith in
    let within' : IsTrue (is_within (length (input_names ports) + 2) next) = subst (λ (n : ℕ). IsTrue (is_within (n + 2) next)) counted within in
    rw (is, restates, counted) (flop_is_cell name ports next clock inverses is_named are fits' inside' within')

-- a lone input is in range
pub lone_below : (n : ℕ) (t : Term) (k : ℕ) → Some k ≡ lone_input t → IsTrue (is_within n t) → k < n
lone_below n (Input j) k is within = let same : k ≡ j = cc in below_of k j n same within
  where
    below_of : (k j n : ℕ) → k ≡ j → nat_lt j n ≡ true → k < n
    below_of k j n same h = grind (arith, nat_tests)
lone_below n (Bit bit) k is within = cc
lone_below n (Inverse t) k is within = cc
lone_below n (Both s t) k is within = cc
lone_below n (Either s t) k is within = cc
lone_below n (Differ s t) k is within = cc

-- there are no more inputs than pins
few_more : (name : List ℕ) (names : List (List ℕ)) (n : ℕ) (output : Bool) → length names ≤ n → length (cond output [] (name ∷ []) ++ names) ≤ suc n
few_more name names n true h = omega arith
few_more name names n false h = omega arith

pub few_inputs : (ports : List Port) → length (input_names ports) ≤ length ports
few_inputs [] = omega arith
few_inputs (port ∷ ports) = few_more port.name (input_names ports) (length ports) port.marks.is_output (few_inputs ports)

-- the cell of a register, from the parts that are read of it
pub cell_by_parts : (name : List ℕ) (ports : List Port) (flop : FlopGroup) → flop_cell name ports flop ≡ then_read (parts_read (input_names ports) (output_texts ports) flop) (λ parts. Ok (flop_of name ports (is_plain_flop (input_names ports) flop) parts.next parts.clocked parts.known))
cell_by_parts name ports flop = by_cases (reading (input_names ports ++ state_names flop.names) (text_of flop.next_state)) (reading (input_names ports) (text_of flop.clocked_on)) (inverses_read (state_names flop.names) (output_texts ports)) (λ next clocked known. flop_of name ports (is_plain_flop (input_names ports) flop) next clocked known)
  where
    by_cases : (next clocked : Result (Option Term) CellFault) (outputs : Result (List (Option Bool)) CellFault) (made : Option Term → Option Term → Option (List Bool) → CellData)
        → then_read next (λ a. then_read clocked (λ b. then_read outputs (λ c. Ok (made a b (all_known c)))))
        ≡ then_read (then_read next (λ a. then_read clocked (λ b. then_read outputs (λ c. parts_are a b (all_known c))))) (λ parts. Ok (made parts.next parts.clocked parts.known))
    by_cases (Ok a) (Ok b) (Ok c) made = refl
    by_cases (Ok a) (Ok b) (Err fault) made = refl
    by_cases (Ok a) (Err fault) outputs made = refl
    by_cases (Err fault) clocked outputs made = refl

-- What is true of the pins of a cell.
use Rattle.std.proofs.Common.{◌≡◌, ◌≤◌, ℕ, Bool, true, false, cond, not, ◌&&◌, ◌||◌, IfSome, IsTrue, nat_le, List, [], ◌∷◌, length}
use Rattle.std.proofs.Common.{map, Option, None, Some, refl, arith}
use Rattle.std.specs.List.{AllByRecursion}
use Rattle.std.specs.Option.{option_map}
use Rattle.std.proofs.lemmas.Bool.Decides.{nat_tests}
use Rattle.cg_cell.specs.Name.{are_distinct, has_no_equals, is_name}
use Rattle.cg_limit.specs.declared.TheConstants.{MOST_PINS}
use Rattle.cg_liberty_group.specs.declared.group.CellGroup.{CellGroup}
use Rattle.cg_liberty_group.specs.declared.pin_text.PinText.{PinText}
use Rattle.cg_liberty.specs.Port.{ArePorts, fit_together, is_sound, ports_among, ports_of, ports_that_fit, sound_ports}
use Rattle.cg_liberty.specs.declared.port.Port.{Port}

-- each port has a name that a word `pin=net` can give
pub record AreNamed (ports : List Port) : Type 0 where
  pub named : AllByRecursion (λ port. IsTrue (is_name port.name)) ports
  pub unsplit : AllByRecursion (λ port. IsTrue (has_no_equals port.name)) ports

abbrev pub IfNamed : Option (List Port) → Type 0
IfNamed None = Unit {0}
IfNamed (Some ports) = AreNamed ports

abbrev pub IfPorts : Option (List Port) → Type 0
IfPorts found = IfSome found ArePorts

both : (a b c : Bool) → (a && b) && c ≡ true → IsTrue a × IsTrue b
both true true c e = (refl, refl)
both true false c e = cc
both false b c e = cc

one_named : (port : Port) (later : Option (List Port)) (sound : Bool) → (sound ≡ true → IsTrue (is_name port.name) × IsTrue (has_no_equals port.name)) → IfNamed later → IfNamed (cond sound (option_map (λ ports. port ∷ ports) later) None)
one_named port (Some ports) true own others = record { named = ((own refl).0, others.named); unsplit = ((own refl).1, others.unsplit) }
one_named port None true own others = tt
one_named port later false own others = tt

all_named : (pins : List PinText) → IfNamed (sound_ports pins)
all_named [] = record { named = tt; unsplit = tt }
all_named (pin ∷ pins) = one_named (record { name = pin.name; marks = pin.marks }) (sound_ports pins) (is_sound pin) (both (is_name pin.name) (has_no_equals pin.name) ((pin.marks.is_input || pin.marks.is_output) && not pin.marks.is_three_state)) (all_named pins)

-- ports that fit together are the pins of a cell
together : (ports : List Port) → AreNamed ports → (nat_le (length ports) MOST_PINS && are_distinct (map (λ port. port.name) ports)) ≡ true → ArePorts ports
together ports names fits = record {
  few = few_of (length ports) (are_distinct (map (λ port. port.name) ports)) fits;
  distinct = distinct_of (nat_le (length ports) MOST_PINS) (are_distinct (map (λ port. port.name) ports)) fits;
  named = names.named;
  unsplit = names.unsplit;
}
  where
    few_of : (n : ℕ) (b : Bool) → (nat_le n MOST_PINS && b) ≡ true → n ≤ MOST_PINS
    few_of n b e = grind (arith, nat_tests)

    distinct_of : (a b : Bool) → (a && b) ≡ true → b ≡ true
    distinct_of true b e = e
    distinct_of false b e = cc

kept : (ports : List Port) (later : Option (List Port)) (fits : Bool) → cond fits (Some ports) None ≡ later → (fits ≡ true → ArePorts ports) → IfPorts later
kept ports (Some found) true e h = let same : ports ≡ found = cc in rw (← same) (h refl)
kept ports None fits e h = tt
kept ports (Some found) false e h = cc

fitting : (found : Option (List Port)) → IfNamed found → IfPorts (ports_that_fit found)
fitting None h = tt
fitting (Some ports) h = kept ports (ports_that_fit (Some ports)) (fit_together ports) refl (together ports h)

unspoiled : (later : Option (List Port)) (spoiled : Bool) → IfPorts later → IfPorts (cond spoiled None later)
unspoiled later true h = tt
unspoiled later false h = h

among : (pins : Option (List PinText)) → IfPorts (ports_among pins)
among None = tt
among (Some pins) = fitting (sound_ports pins) (all_named pins)

-- the pins of a cell whose kind is to be looked for further
pub found_ports : (cell : CellGroup) → IfPorts (ports_of cell)
found_ports cell = unspoiled (ports_among cell.pins) (cell.has_bus || not (has_no_equals cell.name)) (among cell.pins)

pub found_facts : (cell : CellGroup) (found : Option (List Port)) → found ≡ ports_of cell → IfSome found ArePorts
found_facts cell found is = rw is (found_ports cell)

-- The pins of a cell, from its `pin` groups.
use Rattle.std.specs.Prelude.{ℕ, ◌≤◌, IsTrue, Bool, cond, not, ◌&&◌, ◌||◌, nat_le, List, [], ◌∷◌, map, length}
use Rattle.std.specs.Prelude.{Option, None, Some, option_map}
use Rattle.std.specs.List.{AllByRecursion}
use Rattle.cg_cell.specs.Name.{are_distinct, has_no_equals, is_name}
use Rattle.cg_limit.specs.declared.TheConstants.{MOST_PINS}
use Rattle.cg_liberty_group.specs.declared.group.CellGroup.{CellGroup}
use Rattle.cg_liberty_group.specs.declared.pin_text.PinText.{PinText}
use Rattle.cg_liberty.specs.declared.port.Port.{Port}

-- a name that a word `pin=net` can give
abbrev pub is_pin_name : List ℕ → Bool
is_pin_name name = is_name name && has_no_equals name

-- a pin that a usable cell may have: with a name, an input or an output, and not three-state
abbrev pub is_sound : PinText → Bool
is_sound pin = is_pin_name pin.name && ((pin.marks.is_input || pin.marks.is_output) && not pin.marks.is_three_state)

-- the pins, where all of them are sound
abbrev pub sound_ports : List PinText → Option (List Port)
sound_ports [] = Some []
sound_ports (pin ∷ pins) =
    cond (is_sound pin) (option_map (λ ports. record { name = pin.name; marks = pin.marks } ∷ ports) (sound_ports pins)) None

-- pins that one usable cell may have together: not too many, of different names
abbrev pub fit_together : List Port → Bool
fit_together ports = nat_le (length ports) MOST_PINS && are_distinct (map (λ port. port.name) ports)

abbrev pub ports_that_fit : Option (List Port) → Option (List Port)
ports_that_fit None = None
ports_that_fit (Some ports) = cond (fit_together ports) (Some ports) None

abbrev pub ports_among : Option (List PinText) → Option (List Port)
ports_among None = None
ports_among (Some pins) = ports_that_fit (sound_ports pins)

-- the pins of a cell whose kind is to be looked for further
abbrev pub ports_of : CellGroup → Option (List Port)
ports_of cell = cond (cell.has_bus || not (has_no_equals cell.name)) None (ports_among cell.pins)

-- what is true of the pins of a cell whose kind is to be looked for further
pub record ArePorts (ports : List Port) : Type 0 where
  pub few : length ports ≤ MOST_PINS
  pub distinct : IsTrue (are_distinct (map (λ port. port.name) ports))
  pub named : AllByRecursion (λ port. IsTrue (is_name port.name)) ports
  pub unsplit : AllByRecursion (λ port. IsTrue (has_no_equals port.name)) ports

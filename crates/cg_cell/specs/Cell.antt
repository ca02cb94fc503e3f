-- Cells of a library, and what is true of each.
use Rattle.std.specs.Prelude.{◌≡◌, ℕ, ◌+◌, ◌≤◌, List, [], length, map, count_by, ◌||◌, Bool, IsTrue, Option, None, Some}
use Rattle.std.specs.List.{AllByRecursion, list_any}
use Rattle.cg_cell.specs.Name.{are_distinct, has_no_equals, is_name}
use Rattle.cg_cell.specs.Term.{Term, is_within}
use Rattle.cg_cell.specs.Pins.{PinData, is_data, is_clock, is_enable, is_test, is_output, is_state}
use Rattle.cg_cell.specs.declared.cell.CellKind.{CellKind}
use Rattle.cg_cell.specs.declared.cell.CellKind.TheVariants.{Logic, Flop, Gater, Unusable}

-- a cell: its name, what it is used as, its pins in order, and its function where it has one
pub record CellData : Type 0 where
  pub name : List ℕ
  pub kind : CellKind
  pub pins : List PinData
  pub function : Option Term

-- the pins of a logic cell: inputs of the function, and one output
pub record HasLogicPins (pins : List PinData) : Type 0 where
  pub output : count_by is_output pins ≡ 1
  pub only : AllByRecursion (λ pin. IsTrue (is_data pin || is_output pin)) pins

-- the pins of a register: inputs of the function, one clock, and one or more outputs with its bit or the inverse
pub record HasFlopPins (pins : List PinData) : Type 0 where
  pub clock : count_by is_clock pins ≡ 1
  pub state : 1 ≤ count_by is_state pins
  pub only : AllByRecursion (λ pin. IsTrue (is_data pin || is_clock pin || is_state pin)) pins

-- the pins of a gating cell: one clock, one enable, one output and at most one test input
pub record HasGaterPins (pins : List PinData) : Type 0 where
  pub clock : count_by is_clock pins ≡ 1
  pub enable : count_by is_enable pins ≡ 1
  pub output : count_by is_output pins ≡ 1
  pub test : count_by is_test pins ≤ 1
  pub only : AllByRecursion (λ pin. IsTrue (is_clock pin || is_enable pin || is_output pin || is_test pin)) pins

-- the pins are those of a cell of the kind
abbrev pub HasPins : CellKind → List PinData → Type 0
HasPins Logic pins = HasLogicPins pins
HasPins Flop pins = HasFlopPins pins
HasPins Gater pins = HasGaterPins pins
HasPins Unusable pins = pins ≡ []

abbrev pub own_bits : CellKind → ℕ
own_bits Flop = 1
own_bits _ = 0

-- the number of variables of a cell's function: its data pins, and for a register its own bit behind them
abbrev pub variables_of : CellData → ℕ
variables_of cell = count_by is_data cell.pins + own_bits cell.kind

-- logic cells and registers have a function, over so many variables, and the other kinds have none
abbrev pub HasFunction : CellKind → ℕ → Option Term → Type 0
HasFunction Logic variables (Some function) = IsTrue (is_within variables function)
HasFunction Flop variables (Some function) = IsTrue (is_within variables function)
HasFunction Gater variables None = Unit {0}
HasFunction Unusable variables None = Unit {0}
HasFunction _ variables _ = ⊥

-- whether the cell has a test input
abbrev pub has_test : CellData → Bool
has_test cell = list_any is_test cell.pins

-- what is true of every cell: it has a name, its pins have different names that a word `pin=net` can give, and pins and function
-- are those of its kind
pub record IsCell (cell : CellData) : Type 0 where
  pub named : IsTrue (is_name cell.name)
  pub pins_named : AllByRecursion (λ pin. IsTrue (is_name pin.name)) cell.pins
  pub few : length cell.pins ≤ 16
  pub distinct : IsTrue (are_distinct (map (λ pin. pin.name) cell.pins))
  pub unsplit : AllByRecursion (λ pin. IsTrue (has_no_equals pin.name)) cell.pins
  pub roles : HasPins cell.kind cell.pins
  pub computes : HasFunction cell.kind (variables_of cell) cell.function

-- The `cell` groups of a library text.
use Rattle.std.specs.Prelude.{◌≡◌, ℕ, zero, suc, Bool, true, false, cond, ◌||◌, List, [], ◌∷◌, ◌++◌, codes, Option, None, Some}
use Rattle.std.specs.Str.{bytes_eq}
use Rattle.cg_liberty_group.specs.Group.{flop_from, new_flop, new_pin, pin_from, stated}
use Rattle.cg_liberty_group.specs.PinText.{few_pins, group_pins}
use Rattle.cg_liberty_text.specs.Statement.{Read}
use Rattle.cg_liberty_group.specs.declared.fault.ReadFault.{ReadFault}
use Rattle.cg_liberty_group.specs.declared.fault.ReadFault.TheVariants as reads
use Rattle.cg_liberty_group.specs.declared.group.CellGroup.{CellGroup}
use Rattle.cg_liberty_group.specs.declared.group.FlopGroup.{FlopGroup}
use Rattle.cg_liberty_group.specs.declared.group.Flops.{Flops}
use Rattle.cg_liberty_group.specs.declared.group.Flops.TheVariants.{Absent, One, Several}
use Rattle.cg_liberty_group.specs.declared.group.PinGroup.{PinGroup}
use Rattle.cg_liberty_group.specs.declared.group.Stated.TheVariants.{Missing}
use Rattle.cg_liberty_group.specs.declared.pin_text.PinText.{PinText}
use Rattle.cg_liberty_text.specs.declared.statement.Statement.{Statement}
use Rattle.cg_liberty_text.specs.declared.statement.Statement.TheVariants.{Open, Close, Attribute}

-- groups of pins that are no single nets
abbrev pub is_bus : List ℕ → Bool
is_bus word = bytes_eq word (codes "bus") || bytes_eq word (codes "bundle")

-- groups of states other than one flip-flop
abbrev pub is_bank : List ℕ → Bool
is_bank word =
    bytes_eq word (codes "latch")
    || (bytes_eq word (codes "statetable") || (bytes_eq word (codes "ff_bank") || bytes_eq word (codes "latch_bank")))

-- a cell of which nothing is stated yet
abbrev pub new_cell : List ℕ → CellGroup
new_cell name = record { name = name; gating = Missing; has_bus = false; has_bank = false; pins = Some []; flops = Absent }

-- a cell behind one more attribute
abbrev pub cell_with : CellGroup → List ℕ → Option (List ℕ) → CellGroup
cell_with cell word text = cond (bytes_eq word (codes "clock_gating_integrated_cell")) (record cell { gating = stated text }) cell

-- a cell with one more group that is neither a `pin` nor an `ff` group
abbrev pub cell_with_other : CellGroup → List ℕ → CellGroup
cell_with_other cell word =
    cond (is_bus word) (record cell { has_bus = true }) (cond (is_bank word) (record cell { has_bank = true }) cell)

-- pins with those of one more `pin` group, unless there are more than a usable cell has
abbrev pub with_pins : Option (List PinText) → List PinText → Option (List PinText)
with_pins None more = None
with_pins (Some pins) more = few_pins (pins ++ more)

-- the `ff` groups with one more
abbrev pub with_flop : Flops → FlopGroup → Flops
with_flop Absent flop = One flop
with_flop _ flop = Several

-- a cell with one more `pin` group, or one more `ff` group
abbrev pub cell_with_pin : CellGroup → PinGroup → CellGroup
cell_with_pin cell pin = record cell { pins = with_pins cell.pins (group_pins pin) }

abbrev pub cell_with_flop : CellGroup → FlopGroup → CellGroup
cell_with_flop cell flop = record cell { flops = with_flop cell.flops flop }

-- a cell with one more group, whose statements begin with `after`
abbrev pub cell_with_group : CellGroup → List ℕ → List (List ℕ) → List Statement → CellGroup
cell_with_group cell word texts after =
    cond (bytes_eq word (codes "pin")) (cell_with_pin cell (pin_from 0 (new_pin texts) after))
    (cond (bytes_eq word (codes "ff")) (cell_with_flop cell (flop_from 0 (new_flop texts) after))
    (cell_with_other cell word))

-- a cell whose statements go on here inside so many further groups
abbrev pub cell_from : ℕ → CellGroup → List Statement → CellGroup
cell_from inside cell [] = cell
cell_from zero cell (Open word texts ∷ after) = cell_from 1 (cell_with_group cell word texts after) after
cell_from (suc inside) cell (Open word texts ∷ after) = cell_from (suc (suc inside)) cell after
cell_from zero cell (Close ∷ after) = cell
cell_from (suc inside) cell (Close ∷ after) = cell_from inside cell after
cell_from zero cell (Attribute word text ∷ after) = cell_from 0 (cell_with cell word text) after
cell_from (suc inside) cell (Attribute word text ∷ after) = cell_from (suc inside) cell after

-- a group is read up to a fault of the text, or until memory is wanting
abbrev pub GivesUp : Read → ReadFault → Type 0
GivesUp old (reads.Text fault) = old.1 ≡ Some fault
GivesUp old reads.NoMemory = Unit {0}

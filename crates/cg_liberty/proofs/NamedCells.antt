-- The cell that a group describes has the group's name.
use Rattle.std.proofs.Common.{◌≡◌, ℕ, Bool, true, false, cond, List, [], ◌∷◌, ◌++◌, Option, None, Some, Result, Ok, Err, refl}
use Rattle.std.proofs.Common.{subst}
use Rattle.cg_cell.specs.Cell.{CellData}
use Rattle.cg_cell.specs.Term.{Term}
use Rattle.cg_cell.specs.Pins.{PinData}
use Rattle.cg_liberty_group.specs.Group.{is_there, text_of}
use Rattle.cg_liberty_group.specs.declared.group.CellGroup.{CellGroup}
use Rattle.cg_liberty_group.specs.declared.group.Flops.{Flops}
use Rattle.cg_liberty_group.specs.declared.group.Flops.TheVariants.{Absent, One, Several}
use Rattle.cg_liberty.specs.Kinds.{all_known, cell_by_flops, cell_of, cell_with_ports, flop_clocked, flop_of, gater_pins}
use Rattle.cg_liberty.specs.Kinds.{gater_with, gating_cell, input_names, inverses_read, is_plain_flop, logic_of, output_texts}
use Rattle.cg_liberty.specs.Kinds.{state_names, unusable}
use Rattle.cg_liberty.specs.Port.{ports_of}
use Rattle.cg_liberty.specs.Reading.{reading, readings, then_read}
use Rattle.cg_liberty.specs.declared.fault.CellFault.{CellFault}
use Rattle.cg_liberty.specs.declared.port.Port.{Port}

-- a cell that was made has the name
abbrev pub HasName : List ℕ → Result CellData CellFault → Type 0
HasName name (Ok cell) = cell.name ≡ name
HasName name (Err fault) = Unit {0}

either_cell : (name : List ℕ) (b : Bool) (x y : CellData) → x.name ≡ name → y.name ≡ name → (cond b x y).name ≡ name
either_cell name true x y hx hy = hx
either_cell name false x y hx hy = hy

after_reading : {A : Type 0} (name : List ℕ) (read : Result A CellFault) (later : A → Result CellData CellFault) → ((x : A) → HasName name (later x)) → HasName name (then_read read later)
after_reading name (Ok x) later h = h x
after_reading name (Err fault) later h = tt

gater_name : (name : List ℕ) (tested : Bool) (pins : Option (List PinData)) → (gater_with name tested pins).name ≡ name
gater_name name tested None = refl
gater_name name tested (Some pins) = either_cell name _ _ _ refl refl

gating_name : (cell : CellGroup) (ports : List Port) → (gating_cell cell ports).name ≡ cell.name
gating_name cell ports = either_cell cell.name _ _ _ (gater_name cell.name false (gater_pins false ports)) (either_cell cell.name _ _ _ (gater_name cell.name true (gater_pins true ports)) refl)

logic_name : (name : List ℕ) (ports : List Port) (functions : List (Option Term)) → (logic_of name ports functions).name ≡ name
logic_name name ports [] = refl
logic_name name ports (None ∷ later) = refl
logic_name name ports (Some function ∷ []) = refl
logic_name name ports (Some function ∷ another ∷ later) = refl

clocked_name : (name : List ℕ) (ports : List Port) (next : Term) (clock : Option ℕ) (inverses : List Bool) → (flop_clocked name ports next clock inverses).name ≡ name
clocked_name name ports next None inverses = refl
clocked_name name ports next (Some clock) inverses = either_cell name _ _ _ refl refl

flop_name : (name : List ℕ) (ports : List Port) (plain : Bool) (next clocked : Option Term) (inverses : Option (List Bool)) → (flop_of name ports plain next clocked inverses).name ≡ name
flop_name name ports plain (Some next) (Some clocked) (Some inverses) = either_cell name plain _ _ (clocked_name name ports next _ inverses) refl
flop_name name ports plain None clocked inverses = refl
flop_name name ports plain (Some next) None inverses = refl
flop_name name ports plain (Some next) (Some clocked) None = refl

by_flops_name : (cell : CellGroup) (ports : List Port) (flops : Flops) → HasName cell.name (cell_by_flops cell ports flops)
by_flops_name cell ports Absent =
    after_reading cell.name (readings (input_names ports) (output_texts ports)) (λ functions. Ok (logic_of cell.name ports functions)) (λ functions. logic_name cell.name ports functions)
by_flops_name cell ports (One flop) =
    let plain : Bool = is_plain_flop (input_names ports) flop in
    let made : Option Term → Option Term → List (Option Bool) → Result CellData CellFault = λ next clocked outputs. Ok (flop_of cell.name ports plain next clocked (all_known outputs)) in
    let reads_outputs : Option Term → Option Term → Result CellData CellFault = λ next clocked. then_read (inverses_read (state_names flop.names) (output_texts ports)) (made next clocked) in
    let reads_clock : Option Term → Result CellData CellFault = λ next. then_read (reading (input_names ports) (text_of flop.clocked_on)) (reads_outputs next) in
    after_reading cell.name (reading (input_names ports ++ state_names flop.names) (text_of flop.next_state)) reads_clock (λ next.
    after_reading cell.name (reading (input_names ports) (text_of flop.clocked_on)) (reads_outputs next) (λ clocked.
    after_reading cell.name (inverses_read (state_names flop.names) (output_texts ports)) (made next clocked) (λ outputs.
    flop_name cell.name ports plain next clocked (all_known outputs))))
by_flops_name cell ports Several = refl

by_tests_name : (cell : CellGroup) (ports : List Port) (gating bank : Bool) → HasName cell.name (cond gating (Ok (gating_cell cell ports)) (cond bank (Ok (unusable cell.name)) (cell_by_flops cell ports cell.flops)))
by_tests_name cell ports true bank = gating_name cell ports
by_tests_name cell ports false true = refl
by_tests_name cell ports false false = by_flops_name cell ports cell.flops

with_ports_name : (cell : CellGroup) (ports : Option (List Port)) → HasName cell.name (cell_with_ports cell ports)
with_ports_name cell None = refl
with_ports_name cell (Some ports) = by_tests_name cell ports (is_there cell.gating) cell.has_bank

pub cell_name : (group : CellGroup) (cell : CellData) → cell_of group ≡ Ok cell → cell.name ≡ group.name
cell_name group cell is = subst (HasName group.name) is (with_ports_name group (ports_of group))

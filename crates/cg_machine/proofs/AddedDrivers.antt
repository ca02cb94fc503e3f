-- What drives the nets of a machine: the netlist's drivers stay, and each added net has one more.
use Rattle.std.proofs.Common.{◌≡◌, ℕ, ◌+◌, false, List, [], ◌∷◌, ◌++◌, length, slice_get, Some, ◌∙◌, ap}
use Rattle.std.proofs.Common.{subst, arith, inl, inr}
use Rattle.std.proofs.lemmas.List.{length-append}
use Rattle.cg_netlist.specs.Circuit.{Circuit, LogicCell, RegisterCell}
use Rattle.cg_netlist.specs.Drivers.{IsDriver}
use Rattle.cg_netlist.specs.declared.driver.Driver.{Driver}
use Rattle.cg_netlist.specs.declared.driver.Driver.TheVariants.{Input, Clock, Cell, Gater, Register}
use Rattle.cg_net.proofs.TableLemmas.{front_get}
use Rattle.cg_machine.specs.Added.{push_cell, push_register}
use Rattle.cg_machine.specs.Gates.{AddedGate}
use Rattle.cg_machine.specs.Machine.{delay_cell}
use Rattle.cg_machine.specs.inner.Kept.{AreAdded, grown}
use Rattle.cg_netlist.proofs.SearchSteps.{get_last, push_cases}

-- a driver of the netlist is one of the machine
pub grown_driver : (c : Circuit) (prefix : List ℕ) (gs : List AddedGate) (ds : List (ℕ × ℕ)) (y : ℕ) (d : Driver) → IsDriver c y d → IsDriver (grown c prefix gs ds) y d
grown_driver c prefix gs ds y Input is = is
grown_driver c prefix gs ds y Clock is = is
grown_driver c prefix gs ds y (Cell k) is = (is.0, front_get c.cells _ k is.0 is.1, is.2)
grown_driver c prefix gs ds y (Gater k) is = is
grown_driver c prefix gs ds y (Register r inverted) is = (is.0, is.1, front_get c.registers _ r is.0 is.2, is.3)

cell_driver : (c : Circuit) (name : List ℕ) (cell : LogicCell ℕ) (y : ℕ) (d : Driver) → IsDriver c y d → IsDriver (push_cell c name cell) y d
cell_driver c name cell y Input is = is
cell_driver c name cell y Clock is = is
cell_driver c name cell y (Cell k) is = (is.0, front_get c.cells (cell ∷ []) k is.0 is.1, is.2)
cell_driver c name cell y (Gater k) is = is
cell_driver c name cell y (Register r inverted) is = is

register_driver : (c : Circuit) (name : List ℕ) (register : RegisterCell ℕ ℕ) (y : ℕ) (d : Driver) → IsDriver c y d → IsDriver (push_register c name register) y d
register_driver c name register y Input is = is
register_driver c name register y Clock is = is
register_driver c name register y (Cell k) is = is
register_driver c name register y (Gater k) is = is
register_driver c name register y (Register r inverted) is = (is.0, is.1, front_get c.registers (register ∷ []) r is.0 is.2, is.3)

-- one more logic cell, whose output is the next net
pub added_cell : (c : Circuit) (n : ℕ) (drivers : List Driver) (name : List ℕ) (cell : LogicCell ℕ) (k : ℕ) → cell.output ≡ length c.names → k ≡ length c.cells → AreAdded c n drivers → AreAdded (push_cell c name cell) n (drivers ++ Cell k ∷ [])
added_cell c n drivers name cell k next last added = record {
  long = omega (arith, added.long, length-append drivers (Cell k ∷ []), length-append c.names (name ∷ []));
  each = λ i d at. elim (push_cases drivers (Cell k) d i at) [
    | inl old ↦ cell_driver c name cell (n + i) d (added.each i d old)
    | inr new ↦
        let there : slice_get (c.cells ++ cell ∷ []) k ≡ Some cell = ap (slice_get (c.cells ++ cell ∷ [])) last ∙ get_last c.cells cell in
        let number : cell.output ≡ n + i = let place = new.0 in omega (arith, next, place, added.long) in
        let here : IsDriver (push_cell c name cell) (n + i) (Cell k) = (cell, there, number) in
        subst (IsDriver (push_cell c name cell) (n + i)) new.1 here
  ];
}

-- one more delay register, whose output is the next net
pub added_register : (c : Circuit) (n : ℕ) (drivers : List Driver) (name : List ℕ) (clock net output r : ℕ) → output ≡ length c.names → r ≡ length c.registers → AreAdded c n drivers
    → AreAdded (push_register c name (delay_cell clock net output)) n (drivers ++ Register r false ∷ [])
added_register c n drivers name clock net output r next last added = record {
  long = omega (arith, added.long, length-append drivers (Register r false ∷ []), length-append c.names (name ∷ []));
  each = λ i d at. elim (push_cases drivers (Register r false) d i at) [
    | inl old ↦ register_driver c name register (n + i) d (added.each i d old)
    | inr new ↦
        let there : slice_get (c.registers ++ register ∷ []) r ≡ Some register = ap (slice_get (c.registers ++ register ∷ [])) last ∙ get_last c.registers register in
        let number : output ≡ n + i = let place = new.0 in omega (arith, next, place, added.long) in
        let shows : slice_get register.outputs 0 ≡ Some (n + i, false) = ap (λ y. Some (y, false)) number in
        let here : IsDriver (push_register c name register) (n + i) (Register r false) = (register, 0, there, shows) in
        subst (IsDriver (push_register c name register) (n + i)) new.1 here
  ];
}
  where
    register : RegisterCell ℕ ℕ
    register = delay_cell clock net output

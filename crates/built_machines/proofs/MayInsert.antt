-- What was found of a library and a name is what insertion asks for.
use Rattle.std.proofs.Common.{◌≡◌, ◌≢◌, ℕ, IsTrue, List, [], ◌∷◌, ◌++◌, None, Some, subst}
use Rattle.std.specs.List.{All}
use Rattle.std.proofs.lemmas.List.Elements.{All-cons, All-nil}
use Rattle.std.proofs.lemmas.Option.{none-some, same_Some}
use Rattle.cg_cell.specs.Cell.{CellData, IsCell}
use Rattle.cg_cell.specs.Name.{is_name}
use Rattle.cg_cell.specs.declared.fit.FitKind.TheVariants.{Gater, TestGater}
use Rattle.cg_insert.specs.Insert.{CanInsert, gate_names}
use Rattle.cg_machine.specs.Machine.{MachineData}
use Rattle.built_machines.specs.Cells.{HasCell, HaveCells}

pub untested : (library : List CellData) (m : MachineData) → All IsCell library → HaveCells library m.gates → HasCell library Gater → CanInsert library None m
untested library m cells gates gater = record {
  cells = cells;
  gates = gates.each;
  gater = λ some. gater;
  test_named = All-nil (λ (name : List ℕ). IsTrue (is_name name));
  test_new = λ name is. absurd (none-some name is);
}

pub tested : (library : List CellData) (m : MachineData) (name : List ℕ) → All IsCell library → HaveCells library m.gates → HasCell library TestGater
    → IsTrue (is_name name) → All (λ other. other ≢ name) (m.circuit.names ++ gate_names m) → CanInsert library (Some name) m
tested library m name cells gates gater named new = record {
  cells = cells;
  gates = gates.each;
  gater = λ some. gater;
  test_named = All-cons (λ (other : List ℕ). IsTrue (is_name other)) name [] named (All-nil (λ (other : List ℕ). IsTrue (is_name other)));
  test_new = λ own is. subst (λ (free : List ℕ). All (λ other. other ≢ free) (m.circuit.names ++ gate_names m)) (same_Some name own is) new;
}

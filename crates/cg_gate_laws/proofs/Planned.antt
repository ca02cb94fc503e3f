-- The plan's machine may be inserted.
use Rattle.std.proofs.Common.{◌≡◌, ℕ, suc, Bool, true, false, List, [], ◌∷◌, slice_get, is_some, Option, None, Some, refl, sym, ◌∙◌}
use Rattle.std.proofs.Common.{ap, subst, ◌⊎◌, inl, inr}
use Rattle.std.specs.List.{All, filter_map}
use Rattle.std.specs.Option.{option_flatten}
use Rattle.std.proofs.lemmas.List.Elements.{All-nil, All-weaker}
use Rattle.cg_cell.specs.declared.fit.FitKind.TheVariants.{And2}
use Rattle.cg_netlist.specs.Circuit.{Circuit}
use Rattle.cg_machine.specs.Gates.{AddedGate}
use Rattle.cg_machine.specs.Machine.{IsMachine, MachineData}
use Rattle.cg_insert.specs.Insert.{collect, gating_kind}
use Rattle.cg_insert.proofs.Inserted.{insertion_is_formed}
use Rattle.cg_stage_laws.specs.Needs.{gater_kind}
use Rattle.cg_stage_laws.specs.Cells.{HasCell, HasCells}
use Rattle.cg_plan_laws.proofs.AllSafe.{has_cells, plans_safe}
use Rattle.cg_extract.specs.Laws.{AsksFor}
use Rattle.cg_extract.specs.Lifted.{lifted}
use Rattle.cg_extract.proofs.ForGating.{lifted_asks}
use Rattle.cg_gate_laws.proofs.BegunSafe.{begun_bare, begun_safe}
use Rattle.cg_gate_laws.proofs.OwnGaters.{and_there, gater_there, unchained}
use Rattle.cg_gate_laws.specs.Gated.{CanGate, Gating, begun, has_and, planned}
use Rattle.cg_gate_laws.specs.Laws.{GatedIsFormed, PlannedCanInsert}

some_enable : (es : List (Option ℕ)) → (filter_map (λ (enable : Option ℕ). enable) es ≡ []) ⊎ ((r : ℕ) × (e : ℕ) × (option_flatten (slice_get es r) ≡ Some e))
some_enable [] = inl refl
some_enable (Some e ∷ es) = inr (0, e, refl)
some_enable (None ∷ es) = elim (some_enable es) [ inl none ↦ inl none | inr some ↦ inr (suc some.0, some.1, some.2) ]

same_kind : (test : Option (List ℕ)) → gater_kind (is_some test) ≡ gating_kind test
same_kind None = refl
same_kind (Some name) = refl

-- the library has what the lifted machine asks for
starts_with_cells : (by : Gating) (c : Circuit) → CanGate by c → HasCells by.library by.settings.test (lifted c by.prefix)
starts_with_cells by c can = record {
  gates = gates_there (has_and by.library) refl;
  gater = λ r e is. let own = asks.gater r e is in gater_there by c can own.0 own.1 own.2;
}
  where
    asks : AsksFor c (lifted c by.prefix)
    asks = lifted_asks c by.prefix can.start

    gates_there : (b : Bool) → has_and by.library ≡ b → All (λ (gate : AddedGate). HasCell by.library gate.kind) (lifted c by.prefix).gates
    gates_there true is = All-weaker (λ (gate : AddedGate). gate.kind ≡ And2) (λ (gate : AddedGate). HasCell by.library gate.kind) (λ gate is_and. subst (HasCell by.library) (sym is_and) (and_there by.library is)) (lifted c by.prefix).gates asks.gates
    gates_there false is = subst (All (λ (gate : AddedGate). HasCell by.library gate.kind)) (sym (asks.none (unchained by c can is))) (All-nil (λ (gate : AddedGate). HasCell by.library gate.kind))

-- and so it has what the machine asks for with which the plan begins: where there is a test input there are no hints
begins_with_cells : (by : Gating) (c : Circuit) → CanGate by c → HasCells by.library by.settings.test (begun by c)
begins_with_cells by c can = go by.test refl
  where
    go : (test : Option (List ℕ)) → by.test ≡ test → HasCells by.library by.settings.test (begun by c)
    go None is =
        let plain : by.settings.test ≡ false = can.tested ∙ ap is_some is in
        subst (λ b. HasCells by.library b (begun by c)) (sym plain)
        ((begun_safe by c can.start can.hints).cells (subst (λ b. HasCells by.library b (lifted c by.prefix)) plain (starts_with_cells by c can)))
    go (Some name) is = subst (HasCells by.library by.settings.test) (sym (begun_bare by c (can.untested name is))) (starts_with_cells by c can)

pub can_insert : PlannedCanInsert
can_insert by c can =
    let m : MachineData = begun by c in
    let good : IsMachine m = (begun_safe by c can.start can.hints).is_machine in
    let n : MachineData = planned by c in
    let has : HasCells by.library by.settings.test n = has_cells by.library by.settings by.counts m good (begins_with_cells by c can) in (
      (plans_safe by.library by.settings by.counts m good).0,
      record {
        cells = can.cells;
        gates = has.gates;
        gater = λ some. elim (some_enable n.enables) [
          | inl none ↦ absurd (some (ap (collect []) none))
          | inr enable ↦ subst (HasCell by.library) (ap gater_kind can.tested ∙ same_kind by.test) (has.gater enable.0 enable.1 enable.2)
        ];
        test_named = can.named;
        test_new = can.new;
      },
    )

pub is_formed : GatedIsFormed
is_formed by c can = let there = can_insert by c can in insertion_is_formed by.library by.test (planned by c) there.0 there.1

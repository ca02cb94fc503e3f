-- Gates that are added to a machine: inverters, ands and ors, each written as a cover of its inputs.
use Rattle.std.specs.Prelude.{◌≡◌, ℕ, Bool, true, false, List, [], ◌∷◌, Some, None}
use Rattle.cg_cell.specs.Cover.{CoverData}
use Rattle.cg_cell.specs.declared.fit.FitKind.{FitKind}
use Rattle.cg_cell.specs.declared.fit.FitKind.TheVariants.{Inv, And2, Or2}
use Rattle.cg_netlist.specs.Circuit.{LogicCell}
use Rattle.cg_netlist.specs.declared.parts.LogicFunction.TheVariants.{Cover}

-- an added gate: what it computes, its input nets in the order of its pins, and its output net
pub record AddedGate : Type 0 where
  pub kind : FitKind
  pub inputs : List ℕ
  pub output : ℕ

-- 1 where the one input is 0
abbrev pub inverter_cover : CoverData
inverter_cover = record { rows = (Some false ∷ []) ∷ []; on = true }

-- 1 where both inputs are 1
abbrev pub and_cover : CoverData
and_cover = record { rows = (Some true ∷ Some true ∷ []) ∷ []; on = true }

-- 1 where some input is 1
abbrev pub or_cover : CoverData
or_cover = record { rows = (Some true ∷ None ∷ []) ∷ (None ∷ Some true ∷ []) ∷ []; on = true }

-- the function of a gate of this kind; gating cells are no gates, and have none
abbrev pub gate_cover : FitKind → CoverData
gate_cover Inv = inverter_cover
gate_cover And2 = and_cover
gate_cover Or2 = or_cover
gate_cover _ = record { rows = []; on = true }

-- a gate of this kind has this many inputs; there is no gate of the kinds of gating cells
abbrev pub HasInputs : FitKind → ℕ → Type 0
HasInputs Inv inputs = inputs ≡ 1
HasInputs And2 inputs = inputs ≡ 2
HasInputs Or2 inputs = inputs ≡ 2
HasInputs _ inputs = ⊥

-- whether two kinds of gates are the same
abbrev pub is_same_kind : FitKind → FitKind → Bool
is_same_kind Inv Inv = true
is_same_kind And2 And2 = true
is_same_kind Or2 Or2 = true
is_same_kind _ _ = false

-- an added gate as a logic cell
abbrev pub gate_cell : AddedGate → LogicCell ℕ
gate_cell gate = record { inputs = gate.inputs; output = gate.output; function = Cover (gate_cover gate.kind) }

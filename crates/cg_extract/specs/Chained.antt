-- The enables of gating cells and of registers, in the machine to which they are lifted.
use Rattle.std.specs.Prelude.{◌≡◌, ℕ, List, [], ◌∷◌, slice_get, Option, None, Some}
use Rattle.cg_cell.specs.declared.fit.FitKind.TheVariants.{And2}
use Rattle.cg_extract.specs.Lifted.{CanExtract, lifted, number_of}
use Rattle.cg_machine.specs.Gates.{AddedGate}
use Rattle.cg_machine.specs.Machine.{MachineData, enable_of}
use Rattle.cg_netlist.specs.Circuit.{Circuit, GatingCell, RegisterCell}

-- a net of a machine is the output of an added and of these two nets
pub record IsAnd (m : MachineData) (first second output : ℕ) : Type 0 where
  pub place : ℕ
  pub at : slice_get m.gates place ≡ Some (record { kind = And2; inputs = first ∷ second ∷ []; output = output })

-- the enable of a gating cell with this enable net: that net where no enable stands above it, and else the and of that enable
-- and the net
abbrev pub IsChained : MachineData → Option ℕ → ℕ → Option ℕ → Type 0
IsChained m None own enable = enable ≡ Some own
IsChained m (Some parent) own enable = (net : ℕ) × (enable ≡ Some net) × IsAnd m parent own net

-- `under` gives the enable of what a net clocks: none under the clock; under the output of a gating cell that of the cell, which is
-- chained to the one under which the cell itself stands; and each register has the one under which it stands
pub record AreChained (c : Circuit) (m : MachineData) (under : ℕ → Option ℕ) : Type 0 where
  pub clock : (clock : ℕ) → c.clock ≡ Some clock → under clock ≡ None
  pub gaters : (k : ℕ) (gater : GatingCell ℕ) → slice_get c.gaters k ≡ Some gater →
      IsChained m (under gater.clock) (number_of c gater.enable) (under gater.output)
  pub registers : (r : ℕ) (register : RegisterCell ℕ ℕ) → slice_get c.registers r ≡ Some register →
      enable_of m r ≡ under register.clock

-- so it is in the machine of a netlist
abbrev pub EnablesAreChained : Type 0
EnablesAreChained = (c : Circuit) (prefix : List ℕ) → CanExtract c prefix →
    (under : ℕ → Option ℕ) × AreChained c (lifted c prefix) under

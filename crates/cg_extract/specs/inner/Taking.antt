-- Taking gating cells, with a table of the enables that stand for their output nets.
use Rattle.std.specs.Prelude.{◌≡◌, ℕ, ◌<◌, true, List, map, length, slice_get, slice_set, Option, None, Some}
use Rattle.std.specs.Option.{option_flatten}
use Rattle.cg_limit.specs.declared.TheConstants.{MOST_NETS}
use Rattle.cg_netlist.specs.Circuit.{Circuit, GatingCell, RegisterCell}
use Rattle.cg_net.specs.NetSets.{is_in}
use Rattle.cg_netlist.specs.Moment.{values_at}
use Rattle.cg_machine.specs.Added.{Added}
use Rattle.cg_machine.specs.Machine.{IsNet, MachineData}
use Rattle.cg_extract.specs.Lifted.{Lifting, chained, enable_under, kept_nets, lift_each, number_of, unlifted}

-- what a table tells of a net
abbrev pub entry_at : List (Option ℕ) → ℕ → Option ℕ
entry_at table net = option_flatten (slice_get table net)

-- the table has a place for each net of the netlist, and there the enable of what the net clocks
pub record IsEnableTable (c : Circuit) (entries : List (ℕ × ℕ)) (table : List (Option ℕ)) : Type 0 where
  pub long : length table ≡ length c.names
  pub tells : (net : ℕ) → net < length c.names → entry_at table net ≡ enable_under entries net

-- gating cell k may be taken: the machine has room, its nets are there, and so are those of the table
pub record CanTake (c : Circuit) (m : MachineData) (table : List (Option ℕ)) (k : ℕ) : Type 0 where
  pub gater : GatingCell ℕ
  pub at : slice_get c.gaters k ≡ Some gater
  pub kept : is_in (kept_nets c) gater.enable ≡ true
  pub own : IsNet m (number_of c gater.enable)
  pub pin : gater.clock < length table
  pub output : gater.output < length table
  pub parent : (e : ℕ) → entry_at table gater.clock ≡ Some e → IsNet m e
  pub room : length m.circuit.names < MOST_NETS

-- and it was taken
abbrev pub taken_into : Circuit → MachineData → List (Option ℕ) → GatingCell ℕ → Added
taken_into c m table gater = chained m (entry_at table gater.clock) (number_of c gater.enable)

pub record IsTaken (c : Circuit) (m : MachineData) (table : List (Option ℕ)) (k : ℕ) (n : MachineData)
    (new : List (Option ℕ)) : Type 0 where
  pub gater : GatingCell ℕ
  pub at : slice_get c.gaters k ≡ Some gater
  pub made : n ≡ (taken_into c m table gater).machine
  pub put : new ≡ slice_set table gater.output (Some (taken_into c m table gater).net)

-- the machine and the table after the gating cells of these numbers were taken
abbrev pub taken_so_far : Circuit → List ℕ → List ℕ → Lifting
taken_so_far c prefix ks = lift_each c (unlifted c prefix) (values_at c.gaters ks)

pub record IsSoFar (c : Circuit) (prefix ks : List ℕ) (m : MachineData) (table : List (Option ℕ)) : Type 0 where
  pub machine : m ≡ (taken_so_far c prefix ks).machine
  pub entries : IsEnableTable c (taken_so_far c prefix ks).enables table

-- a register is given an enable, if there is one
abbrev pub given : List (Option ℕ) → ℕ → Option ℕ → List (Option ℕ)
given enables r None = enables
given enables r (Some enable) = slice_set enables r (Some enable)

-- the enables of registers that a table gives
abbrev pub table_enables : List (Option ℕ) → List (RegisterCell ℕ ℕ) → List (Option ℕ)
table_enables table registers = map (λ r. entry_at table r.clock) registers

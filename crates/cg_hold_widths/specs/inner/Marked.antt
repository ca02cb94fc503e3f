-- What the masks of a group of registers tell.
use Rattle.std.specs.Prelude.{ℕ, ◌+◌, Bool, false, if◌then◌else◌, List, [], slice_get}
use Rattle.std.specs.List.{count_by, list_any}
use Rattle.std.specs.Option.{option_map_or}
use Rattle.cg_claim.specs.Reach.{next_nets}
use Rattle.cg_hold_widths.specs.inner.Masks.{has_bit, mask_at}
use Rattle.cg_machine.specs.Machine.{MachineData}
use Rattle.cg_netlist.specs.Circuit.{shown_nets}
use Rattle.cg_netlist_cone.specs.declared.cone.Cone.{Cone}

-- the nets that the next bit of register i of a group asks for
abbrev pub next_nets_at : MachineData → List ℕ → ℕ → List ℕ
next_nets_at m regs i = option_map_or (next_nets m) (slice_get regs i) []

-- whether bit i is 1 in the mask of a net, of a net at which register k shows its bit
abbrev pub net_has : List ℕ → ℕ → ℕ → Bool
net_has masks i y = has_bit i (mask_at masks y)

abbrev pub register_has : MachineData → List ℕ → ℕ → ℕ → Bool
register_has m masks i k = option_map_or (λ cell. list_any (net_has masks i) (shown_nets cell)) (slice_get m.circuit.registers k) false

-- register i of a group counts once more where bit i is 1 at none of the nets at which it shows its bit
abbrev pub own_count : MachineData → List ℕ → List ℕ → ℕ → ℕ
own_count m masks regs i = option_map_or (λ r. if register_has m masks i r then 0 else 1) (slice_get regs i) 0

-- how many variables have bit i: the data inputs and the registers at the edge of a cone, and register i itself
abbrev pub leaf_count : MachineData → List ℕ → List ℕ → Cone → ℕ → ℕ
leaf_count m masks regs cone i = count_by (net_has masks i) cone.inputs + count_by (register_has m masks i) cone.registers + own_count m masks regs i

-- The machine of a netlist with gating cells: the gating cells are lifted to enables.
use Rattle.std.specs.Prelude.{◌≡◌, ℕ, Bool, ◌||◌, ◌&&◌, not, if◌then◌else◌, List, [], ◌∷◌, ◌++◌, ◌-◌, map, length, replicate}
use Rattle.std.specs.Prelude.{unwrap_or, nat_eq, IsTrue, Option, None, Some, is_some}
use Rattle.std.specs.List.{All, IsDistinct, position_from}
use Rattle.cg_cell.specs.Name.{is_name}
use Rattle.cg_cell.specs.declared.fit.FitKind.TheVariants.{And2}
use Rattle.cg_netlist.specs.Chains.{gater_order}
use Rattle.cg_netlist.specs.Circuit.{Circuit, GatingCell, RegisterCell, gater_outputs, net_order}
use Rattle.cg_net.specs.NetSets.{is_in}
use Rattle.cg_netlist.specs.Moment.{values_at}
use Rattle.cg_netlist.specs.Netlist.{IsNetlist}
use Rattle.cg_netlist.specs.Ordered.{ordered, place_in}
use Rattle.cg_machine.specs.Added.{Added, add_gate}
use Rattle.cg_machine.specs.Machine.{MachineData}
use Rattle.cg_machine.specs.Run.{with_enables}
use Rattle.cg_machine.specs.Start.{first_clash, machine_of}

-- a register on the clock
abbrev pub on_clock : Circuit → RegisterCell ℕ ℕ → RegisterCell ℕ ℕ
on_clock c r = record r { clock = unwrap_or c.clock 0 }

-- the netlist without its gating cells, where every register is on the clock
abbrev pub ungated : Circuit → Circuit
ungated c = record c { gaters = []; registers = map (on_clock c) c.registers }

-- the nets that are kept, in net order: all but the output nets of gating cells
abbrev pub kept_nets : Circuit → List ℕ
kept_nets c = net_order (ungated c)

-- the netlist that is left: these nets alone, numbered in net order
abbrev pub bare : Circuit → Circuit
bare c = ordered (ungated c)

-- the number in it of a net that is kept
abbrev pub number_of : Circuit → ℕ → ℕ
number_of c net = place_in (kept_nets c) net

-- what lifting has made so far: a machine, and beside the output net of each gating cell that was taken its enable in the
-- machine, the last one first
pub record Lifting : Type 0 where
  pub machine : MachineData
  pub enables : List (ℕ × ℕ)

-- the enable of what a net clocks: none where the net is not the output of a gating cell that was taken
abbrev pub enable_under : List (ℕ × ℕ) → ℕ → Option ℕ
enable_under [] net = None
enable_under (entry ∷ entries) net = if nat_eq net entry.0 then Some entry.1 else enable_under entries net

-- the enable of a gating cell: its enable net where it is on the clock, and else the and of the enable of the gating cell that
-- drives its clock pin and its own enable net
abbrev pub chained : MachineData → Option ℕ → ℕ → Added
chained m None enable = record { machine = m; net = enable }
chained m (Some parent) enable = add_gate m And2 (parent ∷ enable ∷ [])

-- one gating cell is taken
abbrev pub with_entry : List (ℕ × ℕ) → ℕ → Added → Lifting
with_entry entries output added = record { machine = added.machine; enables = (output, added.net) ∷ entries }

abbrev pub lift_one : Circuit → Lifting → GatingCell ℕ → Lifting
lift_one c l gater =
    with_entry l.enables gater.output (chained l.machine (enable_under l.enables gater.clock) (number_of c gater.enable))

-- these gating cells are taken one after another
abbrev pub lift_each : Circuit → Lifting → List (GatingCell ℕ) → Lifting
lift_each c l [] = l
lift_each c l (gater ∷ gaters) = lift_each c (lift_one c l gater) gaters

-- the gating cells by depth, which is the number of gating cells on a cell's chain of clock pins, and those of one depth by
-- number
abbrev pub by_depth : Circuit → List (GatingCell ℕ)
by_depth c = values_at c.gaters (gater_order c.gaters)

-- before any is taken, and after all of them
abbrev pub unlifted : Circuit → List ℕ → Lifting
unlifted c prefix = record { machine = machine_of (bare c) prefix; enables = [] }

abbrev pub lifting : Circuit → List ℕ → Lifting
lifting c prefix = lift_each c (unlifted c prefix) (by_depth c)

-- a register on the output of a gating cell has the enable of that cell
abbrev pub lifted_enables : Circuit → List (ℕ × ℕ) → List (Option ℕ)
lifted_enables c entries = map (λ r. enable_under entries r.clock) c.registers

-- the machine
abbrev pub lifted : Circuit → List ℕ → MachineData
lifted c prefix = let l = lifting c prefix in with_enables l.machine (lifted_enables c l.enables)

-- for each net of the machine the net of the netlist, and nothing for an added one
abbrev pub origins : Circuit → MachineData → List (Option ℕ)
origins c m = map (λ net. Some net) (kept_nets c) ++ replicate (length m.circuit.names - length (kept_nets c)) None

-- the condition: no output of the netlist stands twice, and no net's name begins with the prefix
pub record CanExtract (c : Circuit) (prefix : List ℕ) : Type 0 where
  pub netlist : IsNetlist c
  pub outputs_once : IsDistinct nat_eq c.outputs
  pub named : IsTrue (is_name prefix)
  pub new : first_clash prefix c.names ≡ None

-- no gating cell has a test pin
abbrev pub HasNoTests : Circuit → Type 0
HasNoTests c = All (λ gater. gater.test ≡ None) c.gaters

-- a gating cell is not lifted where it has a test pin, and where there is no cell for an and of two nets and its clock pin is
-- driven by a gating cell
abbrev pub is_refused : Circuit → Bool → GatingCell ℕ → Bool
is_refused c and2 gater = is_some gater.test || (not and2 && is_in (gater_outputs c) gater.clock)

-- the first gating cell that is not lifted
abbrev pub first_refused : Circuit → Bool → Option ℕ
first_refused c and2 = position_from (is_refused c and2) 0 c.gaters

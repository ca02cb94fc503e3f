-- What is proved of the machine of a netlist with gating cells.
use Rattle.std.specs.Prelude.{◌≡◌, ℕ, ◌≤◌, Bool, false, true, List, [], length, map, slice_get, None, Some}
use Rattle.std.specs.List.{All}
use Rattle.cg_cell.specs.Cell.{CellData}
use Rattle.cg_cell.specs.declared.fit.FitKind.TheVariants.{And2}
use Rattle.cg_netlist.specs.Circuit.{Circuit, GatingCell, data_inputs}
use Rattle.cg_net.specs.NetSets.{is_in}
use Rattle.cg_netlist.specs.History.{IsLawful, IsStart, IsWaveform, Moment, Tick, outputs_of}
use Rattle.cg_netlist.specs.Moment.{Settles}
use Rattle.cg_netlist.specs.Netlist.{IsNetlist}
use Rattle.cg_netlist.specs.Wiring.{named}
use Rattle.cg_net.specs.Names.{net_name}
use Rattle.cg_netlist_parts.specs.Writable.{IsPlaceable}
use Rattle.cg_machine.specs.Added.{HasNames, own_netlist}
use Rattle.cg_machine.specs.Machine.{IsMachine, MachineData, enable_of, values}
use Rattle.cg_machine.specs.Run.{shown_from, states_from}
use Rattle.cg_machine.specs.Start.{machine_of}
use Rattle.cg_extract.specs.Lifted.{CanExtract, HasNoTests, bare, first_refused, kept_nets, lifted, number_of, ungated}

-- it is a machine
abbrev pub LiftedIsMachine : Type 0
LiftedIsMachine = (c : Circuit) (prefix : List ℕ) → CanExtract c prefix → IsMachine (lifted c prefix)

-- it has the registers of the netlist, and no more nets than that, since each gating cell takes a net away and adds at most
-- one: so no limit is met
abbrev pub LiftedIsSmall : Type 0
LiftedIsSmall = (c : Circuit) (prefix : List ℕ) → CanExtract c prefix
    → (length (lifted c prefix).circuit.names ≤ length c.names) × (length (lifted c prefix).circuit.registers ≡ length c.registers)
    × ((lifted c prefix).own_registers ≡ length c.registers)

-- where no gating cell has a test pin, its run is the lawful history of the netlist
abbrev pub LiftedIsRun : Type 0
LiftedIsRun = (c : Circuit) (prefix : List ℕ) → CanExtract c prefix → HasNoTests c →
    (start : List Bool) (wave : List Tick) (history : List Moment) → IsStart c start → IsWaveform c wave →
    IsLawful c start wave history
    → (map (λ now. now.state) history ≡ states_from (lifted c prefix) None start wave)
    × (outputs_of c history ≡ shown_from (lifted c prefix) None start wave)

-- The netlist that is left is one, and is placeable with the cells with which the netlist is. By the names of their nets, its parts
-- are those of the netlist without gating cells, and its data inputs are those of the netlist.
pub record KeepsNames (c : Circuit) : Type 0 where
  pub parts : named (bare c) ≡ named (ungated c)
  pub inputs : map (net_name (bare c).names) (data_inputs (bare c)) ≡ map (net_name c.names) (data_inputs c)

abbrev pub BareIsNetlist : Type 0
BareIsNetlist = (c : Circuit) → IsNetlist c → IsNetlist (bare c) × KeepsNames c

abbrev pub BareIsPlaceable : Type 0
BareIsPlaceable = (library : List CellData) (c : Circuit) → IsPlaceable library c → IsPlaceable library (bare c)

-- this netlist is the machine's own, and the gates of chains have names that are made of the prefix, in order of addition
pub record HasOwn (c : Circuit) (start : List ℕ) (m : MachineData) : Type 0 where
  pub own : own_netlist m ≡ bare c
  pub names : HasNames m
  pub prefix : m.prefix ≡ start

abbrev pub LiftedOwn : Type 0
LiftedOwn = (c : Circuit) (prefix : List ℕ) → CanExtract c prefix → HasOwn c prefix (lifted c prefix)

-- each gate is an and of two nets, and there is none where no gating cell stands behind another; a register has an enable only
-- where there is a gating cell
pub record AsksFor (c : Circuit) (m : MachineData) : Type 0 where
  pub gates : All (λ gate. gate.kind ≡ And2) m.gates
  pub none : first_refused c false ≡ None → m.gates ≡ []
  pub gater : (r e : ℕ) → enable_of m r ≡ Some e → (k : ℕ) × (g : GatingCell ℕ) × (slice_get c.gaters k ≡ Some g)

abbrev pub LiftedAsks : Type 0
LiftedAsks = (c : Circuit) (prefix : List ℕ) → CanExtract c prefix → AsksFor c (lifted c prefix)

-- where there is no gating cell, it is the machine of the netlist itself
abbrev pub LiftedOfUngated : Type 0
LiftedOfUngated = (c : Circuit) (prefix : List ℕ) → CanExtract c prefix → c.gaters ≡ [] → lifted c prefix ≡ machine_of c prefix

-- while the clock is low each net that is kept has the bit that the machine shows in the cycle
abbrev pub LiftedShowsNets : Type 0
LiftedShowsNets = (c : Circuit) (prefix : List ℕ) → CanExtract c prefix → (inputs state gates nets : List Bool) →
    Settles c false inputs state gates nets
    → length state ≡ length c.registers → length inputs ≡ length (data_inputs c) → (x : ℕ) → is_in (kept_nets c) x ≡ true
    → slice_get (values (lifted c prefix) state inputs) (number_of c x) ≡ slice_get nets x

-- where no gating cell is refused, none has a test pin
abbrev pub UnrefusedHasNoTests : Type 0
UnrefusedHasNoTests = (c : Circuit) (and2 : Bool) → first_refused c and2 ≡ None → HasNoTests c

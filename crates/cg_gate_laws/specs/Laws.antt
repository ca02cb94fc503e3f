-- What is proved of gated netlists.
use Rattle.std.specs.Prelude.{◌≡◌, ℕ, Bool, List, ◌++◌}
use Rattle.std.specs.List.{AllByRecursion}
use Rattle.cg_netlist.specs.Circuit.{Circuit}
use Rattle.cg_netlist.specs.History.{IsLawful, IsStart, IsWaveform, Moment, Tick, outputs_of}
use Rattle.cg_netlist.specs.WellFormed.{IsInNetOrder, IsWellFormed}
use Rattle.cg_insert.specs.Insert.{CanInsert}
use Rattle.cg_machine.specs.Added.{HasNames, own_netlist}
use Rattle.cg_machine.specs.Machine.{IsMachine}
use Rattle.cg_machine.specs.Run.{ones}
use Rattle.cg_extract.specs.Lifted.{CanExtract, bare, lifted}
use Rattle.cg_hint_laws.specs.Hints.{Fits}
use Rattle.cg_hint_laws.specs.Laws.{IsSafe}
use Rattle.cg_hint_laws.specs.OfNetlist.{IsOf}
use Rattle.cg_hint_laws.specs.declared.hint.Hint.{Hint}
use Rattle.cg_gate_laws.specs.Begun.{renamed}
use Rattle.cg_gate_laws.specs.Kept.{KeepsParts}
use Rattle.cg_gate_laws.specs.Gated.{Behaves, CanGate, Gating, begun, gated_by, own_wave, planned}

-- a hint of a netlist fits, as one of its machine, the machine to whose enables the netlist's gating cells are lifted
abbrev pub RenamedFits : Type 0
RenamedFits = (c : Circuit) (prefix : List ℕ) (h : Hint) → CanExtract c prefix → IsOf c h → Fits (lifted c prefix) (renamed c h)

-- and so the machine with which the plan begins shows what that one shows, and keeps its own netlist and the names of added nets
abbrev pub BegunIsSafe : Type 0
BegunIsSafe = (by : Gating) (c : Circuit) → CanExtract c by.prefix → AllByRecursion (IsOf c) by.hints →
    IsSafe by.library (lifted c by.prefix) (begun by c)

-- the plan's machine is a machine, and the library has what inserting it asks for
abbrev pub PlannedCanInsert : Type 0
PlannedCanInsert = (by : Gating) (c : Circuit) → CanGate by c →
    IsMachine (planned by c) × CanInsert by.library by.test (planned by c)

-- the gated netlist is well formed, and its nets are in net order
abbrev pub GatedIsFormed : Type 0
GatedIsFormed = (by : Gating) (c : Circuit) → CanGate by c → IsWellFormed (gated_by by c) × IsInNetOrder (gated_by by c)

-- From every start of the netlist's registers, with 1 in the delay registers, and over every waveform, whatever an added test
-- input does, the gated netlist shows what the netlist shows, at every moment: gating latches follow their enables, or the
-- test input, while the clock is low.
abbrev pub GatedShowsSame : Type 0
GatedShowsSame = (by : Gating) (c : Circuit) → CanGate by c → (start : List Bool) (wave : List Tick) (history other : List Moment)
    → IsStart c start → IsWaveform (gated_by by c) wave
    → IsLawful (gated_by by c) (start ++ ones (planned by c)) wave history → IsLawful c start (own_wave (planned by c) wave) other
    → outputs_of (gated_by by c) history ≡ outputs_of c other

-- hints and the plan keep the netlist with which they begin, which is the one without the gating cells
abbrev pub PlannedKeeps : Type 0
PlannedKeeps = (by : Gating) (c : Circuit) → CanExtract c by.prefix → AllByRecursion (IsOf c) by.hints →
    own_netlist (planned by c) ≡ bare c

-- and the gated netlist behaves as the netlist
abbrev pub GatedBehaves : Type 0
GatedBehaves = (by : Gating) (c : Circuit) → CanGate by c → Behaves by c (gated_by by c)

-- the nets that hints and the plan add are named by the prefix, in order of addition
abbrev pub PlannedNames : Type 0
PlannedNames = (by : Gating) (c : Circuit) → CanExtract c by.prefix → AllByRecursion (IsOf c) by.hints →
    HasNames (planned by c) × ((planned by c).prefix ≡ by.prefix)

-- and the gated netlist keeps the parts of the netlist
abbrev pub GatedKeeps : Type 0
GatedKeeps = (by : Gating) (c : Circuit) → CanGate by c → KeepsParts c (gated_by by c)

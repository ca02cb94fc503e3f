-- What is true of parts and of the netlists that they say.
use Rattle.std.specs.Prelude.{◌≡◌, ◌⊎◌, Bool, true, List, [], ◌∷◌, ◌++◌, ℕ, Some, nat_eq}
use Rattle.std.specs.List.{AllByRecursion, IsDistinct}
use Rattle.cg_cell.specs.Cell.{CellData}
use Rattle.cg_netlist_parts.specs.declared.fault.NetFault.{NetFault}
use Rattle.cg_netlist.specs.Circuit.{Circuit, RegisterCell}
use Rattle.cg_netlist.specs.Netlist.{IsNetlist}
use Rattle.cg_netlist_parts.specs.Faults.{IsFault, IsFaultless}
use Rattle.cg_netlist_parts.specs.Part.{Part}
use Rattle.cg_netlist_parts.specs.Said.{said, with_part}
use Rattle.cg_netlist_parts.specs.Says.{AreTaken, Says, netlist_of, parts_from, parts_of}
use Rattle.cg_net.specs.Names.{NetName}
use Rattle.cg_netlist.specs.Wiring.{named}
use Rattle.cg_netlist_parts.specs.Writable.{IsLine, IsPlaceable, IsPlaceablePart, IsWritable, line_parts}

-- parts say at most one netlist
abbrev pub AtMostOne : Type 0
AtMostOne = (model : List ℕ) (parts : List Part) (c : Circuit) → Says model parts c → c ≡ netlist_of model parts

-- parts that say a netlist have no fault
abbrev pub NoneBeside : Type 0
NoneBeside = (model : List ℕ) (parts : List Part) (c : Circuit) → Says model parts c → IsFaultless parts

-- parts that a builder took and that have no fault say a netlist
abbrev pub AtLeastOne : Type 0
AtLeastOne = (model : List ℕ) (parts : List Part) → AreTaken model parts → IsFaultless parts →
    Says model parts (netlist_of model parts)

-- parts have no fault, or they have a first one
abbrev pub FaultOrNone : Type 0
FaultOrNone = (parts : List Part) → IsFaultless parts ⊎ ((fault : NetFault) × IsFault parts fault)

-- parts have one first fault at most, and none where they have no fault
abbrev pub OneFault : Type 0
OneFault = (parts : List Part) (f g : NetFault) → IsFault parts f → IsFault parts g → f ≡ g

abbrev pub NoFault : Type 0
NoFault = (parts : List Part) (fault : NetFault) → IsFaultless parts → IsFault parts fault → ⊥

-- a netlist that taken parts say is what every netlist is
abbrev pub SaidIsNetlist : Type 0
SaidIsNetlist = (model : List ℕ) (parts : List Part) (c : Circuit) → AreTaken model parts → Says model parts c →
    IsNetlist c × IsDistinct nat_eq c.outputs

-- a netlist is said by its own parts, which are such as a builder takes
abbrev pub OwnParts : Type 0
OwnParts = (c : Circuit) → IsNetlist c → IsDistinct nat_eq c.outputs → AreTaken c.model (parts_of c) × Says c.model (parts_of c) c

-- and also where registers that are on its clock leave that out
abbrev pub SaidByItsParts : Type 0
SaidByItsParts =
    (c : Circuit) (leaves : RegisterCell NetName NetName → Bool) → IsNetlist c → IsDistinct nat_eq c.outputs →
    AllByRecursion (λ r. leaves r ≡ true → (named c).clock ≡ Some r.clock) (named c).registers
    → AreTaken c.model (parts_from leaves (named c)) × Says c.model (parts_from leaves (named c)) c

-- a netlist that taken parts say is placeable, if each of the parts can be placed
abbrev pub SaidIsPlaceable : Type 0
SaidIsPlaceable = (library : List CellData) (model : List ℕ) (parts : List Part) (c : Circuit) → AreTaken model parts →
    AllByRecursion (IsPlaceablePart library) parts → Says model parts c → IsPlaceable library c

-- a netlist that taken parts say is writable, if each of the parts is one that a line can say
abbrev pub SaidIsWritable : Type 0
SaidIsWritable = (library : List CellData) (model : List ℕ) (parts : List Part) (c : Circuit) → AreTaken model parts →
    AllByRecursion (IsLine library) parts → Says model parts c → IsWritable library c

-- and a writable netlist is said by parts that lines can say
abbrev pub WritableIsSaid : Type 0
WritableIsSaid =
    (library : List CellData) (c : Circuit) → IsWritable library c
    → AreTaken c.model (line_parts c) × AllByRecursion (IsLine library) (line_parts c) × Says c.model (line_parts c) c

-- one more part says one thing more
abbrev pub SaidMore : Type 0
SaidMore = (parts : List Part) (part : Part) → said (parts ++ part ∷ []) ≡ with_part (said parts) part

-- What a builder answers to the parts of a line.
use Rattle.std.specs.Prelude.{◌≡◌, ℕ, None, Result, Ok, Err}
use Rattle.cg_netlist.specs.declared.fault.AddFault.{AddFault}
use Rattle.cg_netlist.specs.declared.fault.AddFault.TheVariants as adds
use Rattle.cg_netlist_builder.specs.Building.{Building}
use Rattle.cg_netlist_parts.specs.Said.{Said}
use Rattle.cg_blif_text.specs.declared.fault.BlifFault.{BlifFault}
use Rattle.cg_blif_text.specs.declared.fault.BlifFault.TheVariants as faults
use Rattle.cg_blif_text.specs.declared.fault.LineFault.{LineFault}
use Rattle.cg_blif_text.specs.declared.fault.LineFault.TheVariants.{Limit, Placed}
use Rattle.cg_netlist_placed.specs.declared.fault.Refusal.{Refusal as PlacedRefusal}
use Rattle.cg_netlist_placed.specs.declared.fault.Refusal.TheVariants as placed
use Rattle.cg_blif_text.specs.Telling.{at}
use Rattle.cg_blif.specs.declared.fault.Refusal.{Refusal}
use Rattle.cg_blif.specs.declared.fault.Refusal.TheVariants.{Line, NoMemory}

abbrev pub heard : Result (Unit {0}) AddFault → Result (Unit {0}) Refusal
heard (Ok taken) = Ok taken
heard (Err (adds.Limit limit)) = Err (Line (Limit limit))
heard (Err adds.NoMemory) = Err NoMemory

abbrev pub heard_placed : Result (Unit {0}) PlacedRefusal → Result (Unit {0}) Refusal
heard_placed (Ok taken) = Ok taken
heard_placed (Err (placed.Placed fault)) = Err (Line (Placed fault))
heard_placed (Err (placed.Added fault)) = heard (Err fault)

abbrev pub at_line : ℕ → Refusal → BlifFault
at_line number (Line cause) = at number cause
at_line number NoMemory = faults.NoMemory

-- a builder was told more: what it has said now is what the parts make of what it had said, or they have this fault, or memory
-- is wanting
abbrev pub Hears : Building → Building → Result Said LineFault → Result (Unit {0}) Refusal → Type 0
Hears old new made (Ok taken) = (new.refused ≡ None) × (new.model ≡ old.model) × (made ≡ Ok new.said)
Hears old new made (Err (Line cause)) = made ≡ Err cause
Hears old new made (Err NoMemory) = Unit {0}

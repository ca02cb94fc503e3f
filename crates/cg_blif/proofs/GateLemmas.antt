-- What a builder's answer to a placed cell says of a `.gate` line.
use Rattle.std.proofs.Common.{◌≡◌, true, false, if◌then◌else◌, List, Option, None, Result, Ok, Err, sym, ap, subst}
use Rattle.cg_cell.specs.Cell.{CellData}
use Rattle.cg_netlist_builder.specs.Building.{Building}
use Rattle.cg_netlist.specs.declared.fault.AddFault.TheVariants.{Limit, NoMemory}
use Rattle.cg_netlist_parts.specs.Part.{Part}
use Rattle.cg_netlist_placed.specs.declared.fault.PlacedFault.{PlacedFault}
use Rattle.cg_netlist_placed.specs.declared.fault.PlacedFault.TheVariants.{PinFault}
use Rattle.cg_netlist_placed.specs.declared.fault.Refusal.{Refusal as PlacedRefusal}
use Rattle.cg_netlist_placed.specs.declared.fault.Refusal.TheVariants as placed
use Rattle.cg_netlist_placed.specs.Adding.{IsTold}
use Rattle.cg_netlist_placed.specs.PinNets.{PinNet}
use Rattle.cg_netlist_placed.specs.Placed.{of_usable, placed_at, usable}
use Rattle.cg_blif_text.specs.Placing.{gate_at, gate_part, give_nets, one_part}
use Rattle.cg_blif_text.specs.Telling.{with_said}
use Rattle.cg_blif.specs.Hearing.{Hears, heard, heard_placed}
use Rattle.cg_blif.proofs.HearingLemmas.{hears_one}

-- the cell that is usable, or why there is none
pub cell_usable : (o : Option CellData) (words : List PinNet) (cell : CellData) → usable o ≡ Ok cell → gate_part o words ≡ gate_at words cell
cell_usable o words cell is = ap (λ u. of_usable u (gate_at words)) is

pub cell_at_fault : (o : Option CellData) (words : List PinNet) (fault : PlacedFault) → usable o ≡ Err fault → gate_part o words ≡ Err fault
cell_at_fault o words fault is = ap (λ u. of_usable u (gate_at words)) is

pub ruleset cells = (cell_usable, cell_at_fault)

-- each word gives a net, or one gives none
pub nets_given : (words : List PinNet) (cell : CellData) → give_nets words ≡ true → gate_at words cell ≡ placed_at cell words
nets_given words cell give = ap (λ b. if b then placed_at cell words else Err PinFault) give

pub net_missing : (words : List PinNet) (cell : CellData) → give_nets words ≡ false → gate_at words cell ≡ Err PinFault
net_missing words cell give = ap (λ b. if b then placed_at cell words else Err PinFault) give

pub ruleset nets = (nets_given, net_missing)

-- what a builder is told
pub hears_told : (old new : Building) (made : Result Part PlacedFault) (answer : Result (Unit {0}) PlacedRefusal) → old.refused ≡ None → IsTold old new made answer → Hears old new (with_said old.said (one_part made)) (heard_placed answer)
hears_told old new made (Ok taken) fine told =
    subst (λ m. Hears old new (with_said old.said (one_part m)) (heard (Ok taken))) (sym told.1) (hears_one old new told.0 (Ok taken) fine told.2)
hears_told old new made (Err (placed.Placed fault)) fine told = ap (λ m. with_said old.said (one_part m)) told.0
hears_told old new made (Err (placed.Added (Limit limit))) fine told =
    subst (λ m. Hears old new (with_said old.said (one_part m)) (heard (Err (Limit limit)))) (sym told.1) (hears_one old new told.0 (Err (Limit limit)) fine told.2)
hears_told old new made (Err (placed.Added NoMemory)) fine told = tt

-- What a builder answers to the parts of an item.
use Rattle.std.specs.Prelude.{◌≡◌, List, Result, Ok, Err}
use Rattle.cg_limit.specs.declared.Limit.{Limit}
use Rattle.cg_netlist.specs.declared.fault.AddFault.{AddFault}
use Rattle.cg_netlist.specs.declared.fault.AddFault.TheVariants as adds
use Rattle.cg_netlist_builder.specs.Building.{Building}
use Rattle.cg_netlist_parts.specs.Part.{Part}
use Rattle.cg_netlist_parts.specs.Said.{Said}
use Rattle.cg_netlist_placed.specs.declared.fault.PlacedFault.{PlacedFault}
use Rattle.cg_netlist_placed.specs.declared.fault.Refusal.{Refusal as PlacedRefusal}
use Rattle.cg_netlist_placed.specs.declared.fault.Refusal.TheVariants as placed
use Rattle.cg_verilog_text.specs.Telling.{with_parts}
use Rattle.cg_verilog_text.specs.declared.fault.ItemFault.{ItemFault}
use Rattle.cg_verilog_text.specs.declared.fault.ItemFault.TheVariants.{BadText, Placed, Limit as Passed}
use Rattle.cg_verilog.specs.declared.refusal.Refusal.{Refusal}
use Rattle.cg_verilog.specs.declared.refusal.Refusal.TheVariants.{Item, NoMemory}

-- a builder was told more: what it has said now is what the parts make of what it had said, or they pass this limit, or memory is
-- wanting
abbrev pub Hears : Building → Building → Result Said Limit → Result (Unit {0}) AddFault → Type 0
Hears old new made (Ok taken) = (made ≡ Ok new.said) × (new ≡ record old { said = new.said })
Hears old new made (Err (adds.Limit limit)) = made ≡ Err limit
Hears old new made (Err adds.NoMemory) = Unit {0}

-- what an item is whose parts, or whose placed cell, are answered so
abbrev pub heard : Result (Unit {0}) AddFault → Result (Unit {0}) Refusal
heard (Ok taken) = Ok taken
heard (Err (adds.Limit limit)) = Err (Item (Passed limit))
heard (Err adds.NoMemory) = Err NoMemory

abbrev pub heard_placed : Result (Unit {0}) PlacedRefusal → Result (Unit {0}) Refusal
heard_placed (Ok taken) = Ok taken
heard_placed (Err (placed.Placed fault)) = Err (Item (Placed fault))
heard_placed (Err (placed.Added fault)) = heard (Err fault)

-- what a builder is that was told the parts of an item, or the fault of the item
abbrev pub built_said : Building → Result Said Limit → Result Building ItemFault
built_said b (Ok s) = Ok (record b { said = s })
built_said b (Err limit) = Err (Passed limit)

abbrev pub built_by : Building → Result (List Part) ItemFault → Result Building ItemFault
built_by b (Ok parts) = built_said b (with_parts parts b.said)
built_by b (Err cause) = Err cause

-- a builder was told an item: it is what the parts of the item make of it, or the item has this fault, or memory is wanting; where
-- a placed cell is at fault the builder stays
abbrev pub HearsItem : Building → Building → Result (List Part) ItemFault → Result (Unit {0}) Refusal → Type 0
HearsItem old new parts (Ok taken) = built_by old parts ≡ Ok new
HearsItem old new parts (Err (Item BadText)) = ⊥
HearsItem old new parts (Err (Item (Placed fault))) = (built_by old parts ≡ Err (Placed fault)) × (new ≡ old)
HearsItem old new parts (Err (Item (Passed limit))) = built_by old parts ≡ Err (Passed limit)
HearsItem old new parts (Err NoMemory) = Unit {0}

-- a placed cell is a part, or has this fault, or memory is wanting, whatever the builder says to it
abbrev pub IsPlacedAs : Result Part PlacedFault → Result (Unit {0}) Refusal → Type 0
IsPlacedAs made (Ok taken) = (part : Part) × (made ≡ Ok part)
IsPlacedAs made (Err (Item BadText)) = ⊥
IsPlacedAs made (Err (Item (Placed fault))) = made ≡ Err fault
IsPlacedAs made (Err (Item (Passed limit))) = (part : Part) × (made ≡ Ok part)
IsPlacedAs made (Err NoMemory) = Unit {0}

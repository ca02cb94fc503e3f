-- What a builder answers that is told a placed cell.
use Rattle.std.specs.Prelude.{◌≡◌, Result, Ok, Err}
use Rattle.cg_netlist.specs.declared.fault.AddFault.TheVariants.{Limit, NoMemory}
use Rattle.cg_netlist_builder.specs.Building.{Building, Takes}
use Rattle.cg_netlist_parts.specs.Part.{Part}
use Rattle.cg_netlist_placed.specs.declared.fault.PlacedFault.{PlacedFault}
use Rattle.cg_netlist_placed.specs.declared.fault.Refusal.{Refusal}
use Rattle.cg_netlist_placed.specs.declared.fault.Refusal.TheVariants.{Added, Placed}

-- The placed cell is a part, and the builder takes or refuses it as any; or it has this fault, and the builder stays as it is; or
-- memory is wanting.
abbrev pub IsTold : Building → Building → Result Part PlacedFault → Result (Unit {0}) Refusal → Type 0
IsTold old new made (Ok taken) = (part : Part) × (made ≡ Ok part) × Takes old part new (Ok taken)
IsTold old new made (Err (Placed fault)) = (made ≡ Err fault) × (new ≡ old)
IsTold old new made (Err (Added (Limit limit))) = (part : Part) × (made ≡ Ok part) × Takes old part new (Err (Limit limit))
IsTold old new made (Err (Added NoMemory)) = Unit {0}

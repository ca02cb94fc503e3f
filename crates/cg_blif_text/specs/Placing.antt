-- The part that a `.gate` line says with the cells of a library: a placed cell, each pin that is named with a net.
use Rattle.std.specs.Prelude.{Bool, if◌then◌else◌, List, [], ◌∷◌, is_some, Option, Result, Ok, Err}
use Rattle.std.specs.List.{list_all}
use Rattle.cg_cell.specs.Cell.{CellData}
use Rattle.cg_netlist_parts.specs.Part.{Part}
use Rattle.cg_netlist_placed.specs.declared.fault.PlacedFault.{PlacedFault}
use Rattle.cg_netlist_placed.specs.declared.fault.PlacedFault.TheVariants.{PinFault}
use Rattle.cg_netlist_placed.specs.PinNets.{PinNet}
use Rattle.cg_netlist_placed.specs.Placed.{of_usable, placed_at, usable}
use Rattle.cg_blif_text.specs.declared.fault.LineFault.{LineFault}
use Rattle.cg_blif_text.specs.declared.fault.LineFault.TheVariants.{Placed}

-- whether each word gives a net
abbrev pub give_nets : List PinNet → Bool
give_nets words = list_all (λ word. is_some word.net) words

-- the cell with the nets of the words, and the part of the line
abbrev pub gate_at : List PinNet → CellData → Result Part PlacedFault
gate_at words cell = if give_nets words then placed_at cell words else Err PinFault

abbrev pub gate_part : Option CellData → List PinNet → Result Part PlacedFault
gate_part cell words = of_usable (usable cell) (gate_at words)

-- as what a line says
abbrev pub one_part : Result Part PlacedFault → Result (List Part) LineFault
one_part (Ok part) = Ok (part ∷ [])
one_part (Err fault) = Err (Placed fault)

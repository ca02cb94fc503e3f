-- Items as they are read.
use Rattle.cg_verilog_text.specs.Items.{Item}
use Rattle.cg_verilog_text.specs.Items as items
use Rattle.cg_verilog_items.specs.declared.item.ItemKind.{ItemKind}
use Rattle.cg_verilog_items.specs.declared.item.ItemKind.TheVariants.{Input, Output, Wire, Reg, Place, Assign, Always, Initial}

abbrev pub item_seen : ItemKind → Item
item_seen (Input indices names) = items.Input indices names
item_seen (Output indices names) = items.Output indices names
item_seen (Wire indices names) = items.Wire indices names
item_seen (Reg indices registers) = items.Reg indices registers
item_seen (Place cell label pins) = items.Place cell label pins
item_seen (Assign net form) = items.Assign net form
item_seen (Always clock updates) = items.Always clock updates
item_seen (Initial net value) = items.Initial net value

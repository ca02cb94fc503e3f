-- What the items of a text tell, summed up item by item: an init may stand behind its register, and so the registers have none yet.
use Rattle.std.specs.Prelude.{ℕ, Bool, List, [], Option, None, Some, Result, Ok, Err}
use Rattle.std.specs.List.{fold}
use Rattle.cg_cell.specs.Cell.{CellData}
use Rattle.cg_limit.specs.declared.Limit.{Limit}
use Rattle.cg_net.specs.Names.{NetName, with_names}
use Rattle.cg_netlist_builder.specs.Building.{Building, fresh}
use Rattle.cg_netlist_parts.specs.Part.{Part}
use Rattle.cg_netlist_parts.specs.Said.{Said}
use Rattle.cg_verilog_text.specs.Items.{ItemAt, Items}
use Rattle.cg_verilog_text.specs.Meaning.{inits_in, said_by, updated_in}
use Rattle.cg_verilog_text.specs.Telling.{Fault, sooner, with_parts}
use Rattle.cg_verilog_text.specs.Tokens.{Token}
use Rattle.cg_verilog_text.specs.declared.fault.ItemFault.{ItemFault}
use Rattle.cg_verilog_text.specs.declared.fault.ItemFault.TheVariants.{Limit as Passed}
use Rattle.cg_verilog.specs.GivenInits.{GivenInits, no_inits, with_init}

-- the builder that was told the parts, as long as they passed no limit; the first fault; the inits; and the nets of plain registers
pub record Summary : Type 0 where
  pub built : Option Building
  pub first : Option Fault
  pub inits : GivenInits
  pub updated : List NetName

abbrev pub empty : NetName → Summary
empty model = record { built = Some (fresh model); first = None; inits = no_inits; updated = [] }

-- one more fault
abbrev pub put_fault : Summary → ℕ → ItemFault → Summary
put_fault s line cause = record s { first = sooner s.first (record { line = line; cause = cause }) }

-- the parts of an item, or its fault; behind a limit parts are not counted any more
abbrev pub put_said : Summary → ℕ → Building → Result Said Limit → Summary
put_said s line b (Ok said) = record s { built = Some (record b { said = said }) }
put_said s line b (Err limit) = record (put_fault s line (Passed limit)) { built = None }

abbrev pub put_parts : Summary → ℕ → Option Building → List Part → Summary
put_parts s line None parts = s
put_parts s line (Some b) parts = put_said s line b (with_parts parts b.said)

abbrev pub without_built : ItemFault → Option Building → Option Building
without_built (Passed limit) built = None
without_built cause built = built

abbrev pub put_result : Summary → ℕ → Result (List Part) ItemFault → Summary
put_result s line (Ok parts) = put_parts s line s.built parts
put_result s line (Err cause) = record (put_fault s line cause) { built = without_built cause s.built }

-- an item, which tells its parts, its inits and its registers
abbrev pub put : List CellData → Summary → ItemAt → Summary
put library s one = record (put_result s one.line (said_by library [] one.item)) {
  inits = fold with_init s.inits (inits_in one.item);
  updated = with_names s.updated (updated_in one.item);
}

-- what items tell behind others, and the tokens behind them
pub record Ending : Type 0 where
  pub summary : Summary
  pub whole : Bool
  pub left : List Token

abbrev pub ending : List CellData → Summary → Items → Ending
ending library s items = record { summary = fold (put library) s items.found; whole = items.whole; left = items.left }

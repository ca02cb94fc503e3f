-- What a reader was told, as a summary.
use Rattle.std.specs.Prelude.{◌≡◌, ℕ, Bool, true, false, ◌||◌, Option, None, Some, Result, Ok, Err}
use Rattle.cg_netlist_builder.specs.Building.{Building}
use Rattle.cg_verilog_text.specs.Telling.{sooner}
use Rattle.cg_verilog_text.specs.declared.fault.ItemFault.{ItemFault}
use Rattle.cg_verilog_text.specs.declared.fault.ItemFault.TheVariants.{Limit as Passed}
use Rattle.cg_verilog_text.specs.declared.fault.VerilogFault.{VerilogFault}
use Rattle.cg_verilog_text.specs.declared.fault.VerilogFault.TheVariants.{NoMemory}
use Rattle.cg_verilog.specs.Summary.{Summary}
use Rattle.cg_verilog.specs.declared.telling.Telling.{Telling}
use Rattle.cg_verilog.specs.declared.refusal.Refusal.{Refusal}
use Rattle.cg_verilog.specs.declared.refusal.Refusal.TheVariants.{Item, NoMemory as NoRoom}

-- the builder, as long as no limit was passed
abbrev pub built_of : Bool → Building → Option Building
built_of true b = None
built_of false b = Some b

abbrev pub summed : Telling → Summary
summed t = record { built = built_of t.over t.builder; first = t.first; inits = t.inits; updated = t.updated }

-- a builder that is still told parts refused none
abbrev pub IsSound : Telling → Type 0
IsSound t = t.over ≡ false → t.builder.refused ≡ None

-- whether a fault is a limit that is passed
abbrev pub is_limit : ItemFault → Bool
is_limit (Passed limit) = true
is_limit cause = false

-- with one more fault, and with the answer to an item
abbrev pub with_fault : ℕ → ItemFault → Telling → Telling
with_fault line cause t = record t { first = sooner t.first (record { line = line; cause = cause }); over = t.over || is_limit cause }

abbrev pub noted : ℕ → Result (Unit {0}) Refusal → Telling → Telling
noted line (Err (Item cause)) t = with_fault line cause t
noted line answer t = t

-- the summary is this now, or memory is wanting
abbrev pub Becomes : Telling → Summary → Result (Unit {0}) VerilogFault → Type 0
Becomes new summary (Ok done) = IsSound new × (summed new ≡ summary)
Becomes new summary (Err fault) = fault ≡ NoMemory

-- the answer is no want of memory
abbrev pub IsAnswered : Result (Unit {0}) Refusal → Type 0
IsAnswered (Err NoRoom) = ⊥
IsAnswered answer = Unit {0}

-- what is wrong where parts are not counted any more
abbrev pub placed_alone : Result (Unit {0}) Refusal → Result (Unit {0}) Refusal
placed_alone (Err (Item (Passed limit))) = Ok tt
placed_alone answer = answer

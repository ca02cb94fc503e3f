-- What the items of a text tell, one after another: what their parts say, and the faults.
use Rattle.std.specs.Prelude.{ℕ, ◌==◌, Bool, ◌&&◌, ◌||◌, if◌then◌else◌, nat_lt, List, [], ◌∷◌, ◌++◌, Option, None, Some, Result, Ok, Err}
use Rattle.std.specs.List.{fold}
use Rattle.cg_cell.specs.Cell.{CellData}
use Rattle.cg_limit.specs.declared.Limit.{Limit}
use Rattle.cg_netlist_parts.specs.Part.{Part}
use Rattle.cg_netlist_parts.specs.Said.{Said, limit_of, nothing_said, with_part}
use Rattle.cg_netlist_placed.specs.declared.fault.PlacedFault.TheVariants.{UnknownCell, UnusableCell, PinFault}
use Rattle.cg_verilog_text.specs.Items.{ItemAt}
use Rattle.cg_verilog_text.specs.Meaning.{Init, said_by}
use Rattle.cg_verilog_text.specs.TextItems.{Text, inits_of}
use Rattle.cg_verilog_text.specs.declared.fault.ItemFault.{ItemFault}
use Rattle.cg_verilog_text.specs.declared.fault.ItemFault.TheVariants.{BadText, Placed, Limit as Passed}

-- a fault and its line; the earlier line comes first, and at one line the causes have an order
pub record Fault : Type 0 where
  pub line : ℕ
  pub cause : ItemFault

abbrev pub rank : ItemFault → ℕ
rank BadText = 0
rank (Placed UnknownCell) = 1
rank (Placed UnusableCell) = 2
rank (Placed PinFault) = 3
rank (Passed limit) = 4

abbrev pub is_before : Fault → Fault → Bool
is_before f g = nat_lt f.line g.line || (f.line == g.line && nat_lt (rank f.cause) (rank g.cause))

abbrev pub sooner : Option Fault → Fault → Option Fault
sooner None fault = Some fault
sooner (Some first) fault = if is_before fault first then Some fault else Some first

abbrev pub first_of : List Fault → Option Fault
first_of faults = fold sooner None faults

-- one part after another, as far as no limit is passed
abbrev pub unless : Option Limit → Result Said Limit → Result Said Limit
unless None later = later
unless (Some limit) later = Err limit

abbrev pub with_parts : List Part → Said → Result Said Limit
with_parts [] s = Ok s
with_parts (part ∷ more) s = unless (limit_of (with_part s part)) (with_parts more (with_part s part))

-- what items told: what their parts said, as long as they passed no limit, and the faults
pub record ItemsSaid : Type 0 where
  pub said : Option Said
  pub faults : List Fault

abbrev pub untold : ItemsSaid
untold = record { said = Some nothing_said; faults = [] }

abbrev pub with_fault : ItemsSaid → ℕ → ItemFault → ItemsSaid
with_fault told line cause = record told { faults = told.faults ++ record { line = line; cause = cause } ∷ [] }

-- behind a limit that was passed parts are not counted any more
abbrev pub tell_passed : ItemsSaid → ℕ → Result Said Limit → ItemsSaid
tell_passed told line (Ok s) = record told { said = Some s }
tell_passed told line (Err limit) = record (with_fault told line (Passed limit)) { said = None }

abbrev pub tell_parts : ItemsSaid → ℕ → Option Said → List Part → ItemsSaid
tell_parts told line None parts = told
tell_parts told line (Some s) parts = tell_passed told line (with_parts parts s)

abbrev pub without_said : ItemFault → Option Said → Option Said
without_said (Passed limit) said = None
without_said cause said = said

abbrev pub tell_result : ItemsSaid → ℕ → Result (List Part) ItemFault → ItemsSaid
tell_result told line (Ok parts) = tell_parts told line told.said parts
tell_result told line (Err cause) = record (with_fault told line cause) { said = without_said cause told.said }

abbrev pub tell_item : List CellData → List Init → ItemsSaid → ItemAt → ItemsSaid
tell_item library inits told one = tell_result told one.line (said_by library inits one.item)

abbrev pub tell_items : List CellData → List ItemAt → ItemsSaid
tell_items library found = fold (tell_item library (inits_of found)) untold found

-- all faults of a text
abbrev pub bad_fault : Option ℕ → List Fault
bad_fault None = []
bad_fault (Some line) = record { line = line; cause = BadText } ∷ []

abbrev pub faults_of : List CellData → Text → List Fault
faults_of library text = (tell_items library text.items).faults ++ bad_fault text.bad

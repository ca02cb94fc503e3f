-- What the lines that are left of a text tell, where a reader stands between them.
use Rattle.std.specs.Prelude.{◌≡◌, ℕ, ◌≤◌, IsTrue, Bool, true, false, List, ◌∷◌, length, Option, None, Some, Result, Ok, Err}
use Rattle.std.specs.List.{AllByRecursion}
use Rattle.std.specs.Option.{option_to_list}
use Rattle.cg_cell.specs.Cell.{CellData}
use Rattle.cg_cell.specs.Name.{is_name}
use Rattle.cg_limit.specs.declared.TheConstants.{MOST_COVER_INPUTS}
use Rattle.cg_text.specs.declared.lines.Line.{Line}
use Rattle.cg_netlist.specs.Circuit.{Circuit}
use Rattle.cg_netlist_parts.specs.declared.fault.NetFault.{NetFault}
use Rattle.cg_netlist_parts.specs.declared.fault.NetFault.TheVariants as nets
use Rattle.cg_netlist_builder.specs.Building.{Building, Finishes}
use Rattle.cg_netlist_parts.specs.Part.{Part}
use Rattle.cg_netlist_parts.specs.Faults.{IsFault}
use Rattle.cg_netlist_parts.specs.Said.{nothing_said, said}
use Rattle.cg_blif_text.specs.declared.fault.BlifFault.{BlifFault}
use Rattle.cg_blif_text.specs.declared.fault.BlifFault.TheVariants.{Net, NoMemory}
use Rattle.cg_blif_text.specs.declared.fault.LineFault.{LineFault}
use Rattle.cg_blif_text.specs.declared.fault.LineFault.TheVariants.{BadLine, SecondModel}
use Rattle.cg_blif_text.specs.declared.statement.Place.{Place}
use Rattle.cg_blif_text.specs.declared.statement.Place.TheVariants.{First, Unnamed, Named, Ended}
use Rattle.cg_blif_text.specs.declared.statement.Statement.{Statement}
use Rattle.cg_blif_text.specs.declared.statement.Statement.TheVariants.{Model, Names, Latch}
use Rattle.cg_blif_text.specs.LinesLeft.{opened, resume, said_at_once}
use Rattle.cg_blif_text.specs.BlifText.{BlifText, IsFirstBlifFault, told_by}
use Rattle.cg_blif_text.specs.Telling.{LinesSaid, at, next_model}
use Rattle.cg_net.specs.Names.{NetName}
use Rattle.cg_blif.specs.Joining.{IsUnnamed}
use Rattle.cg_blif_text.specs.OpenCovers.{CoverSoFar}
use Rattle.cg_blif.specs.declared.fault.Refusal.{Refusal}
use Rattle.cg_blif.specs.declared.fault.Refusal.TheVariants.{Line as AtLine, NoMemory as NoRoom}
use Rattle.cg_blif.specs.declared.reader.Reading.{Reading}

-- what a builder was told, the next line standing at this place
abbrev pub told_of : Place → Building → LinesSaid
told_of place b = record { place = place; model = b.model; said = b.said }

-- nothing was told before the first line
abbrev pub IsFresh : Place → Building → Option CoverSoFar → Type 0
IsFresh First b cover = (b.said ≡ nothing_said) × (cover ≡ None)
IsFresh place b cover = Unit {0}

-- the fault that is answered is that of the line at which the making stopped, or memory is wanting
abbrev pub IsFaultOf : {T : Type 0} → Result T BlifFault → BlifFault → Type 0
IsFaultOf made NoMemory = Unit {0}
IsFaultOf made (Net fault) = ⊥
IsFaultOf made fault = made ≡ Err fault

-- the bounds of a statement: a `.names` line has no more inputs than a cover may have, a `.latch` line an init of at most 3
abbrev pub HasBounds : Statement → Type 0
HasBounds (Names inputs output) = length inputs ≤ MOST_COVER_INPUTS
HasBounds (Latch input output clock init) = init ≤ 3
HasBounds statement = Unit {0}

-- what is wrong where a line stands that is a `.model` line, or another
abbrev pub is_model : Result Statement LineFault → Bool
is_model (Ok (Model name)) = true
is_model meaning = false

abbrev pub misplaced : Place → Bool → Option LineFault
misplaced Ended true = Some SecondModel
misplaced Ended false = Some BadLine
misplaced Named true = Some SecondModel
misplaced Unnamed true = Some BadLine
misplaced place model = None

-- a statement was given to a builder: what it says at once, and the cover that it opens; or it has this fault; or memory is wanting
abbrev pub TakesStatement : List CellData → Building → Statement → Building → Result (Option CoverSoFar) Refusal → Type 0
TakesStatement library old statement new (Ok cover) =
    (new.refused ≡ None) × (new.model ≡ next_model old.model statement) × (said_at_once library old.said statement ≡ Ok new.said)
    × (cover ≡ opened statement)
TakesStatement library old statement new (Err (AtLine cause)) = said_at_once library old.said statement ≡ Err cause
TakesStatement library old statement new (Err NoRoom) = Unit {0}

-- a reader between two lines
abbrev pub IsAt : Reading → Type 0
IsAt r = (r.builder.refused ≡ None) × IsFresh r.place r.builder r.cover

-- what the lines that are left tell a reader
abbrev pub left_of : List CellData → Reading → List Line → Result LinesSaid BlifFault
left_of library r lines = resume library (told_of r.place r.builder) r.cover lines

-- A line of these words was read: what is left behind it tells the reader what it told it before with the line; or the line has
-- this fault; or memory is wanting.
abbrev pub Resumes : List CellData → Reading → Reading → List (List ℕ) → Result (Unit {0}) Refusal → Type 0
Resumes library old new words (Ok read) =
    IsAt new
    × ((number : ℕ) (later : List Line) →
    left_of library new later ≡ left_of library old (record { number = number; words = words } ∷ later))
Resumes library old new words (Err (AtLine cause)) = (number : ℕ) (later : List Line) →
    left_of library old (record { number = number; words = words } ∷ later) ≡ Err (at number cause)
Resumes library old new words (Err NoRoom) = Unit {0}

abbrev pub ResumesAt : Reading → Reading → List (List ℕ) → Result (Unit {0}) Refusal → Type 0
ResumesAt old new words result = (library : List CellData) → Resumes library old new words result

-- the fault of a reader whose next line has this number, and a word that is no name
abbrev pub ClosesAt : Reading → ℕ → BlifFault → Type 0
ClosesAt old number result = (library : List CellData) (lines : List Line) → IsUnnamed lines number →
    IsFaultOf (left_of library old lines) result

-- all lines were read, and this is what they tell; or this is their first fault; or memory is wanting
abbrev pub IsReadAs : Result LinesSaid BlifFault → Result Reading BlifFault → Type 0
IsReadAs made (Ok r) = (r.builder.refused ≡ None) × (made ≡ Ok (told_of r.place r.builder))
IsReadAs made (Err fault) = IsFaultOf made fault

-- all lines and the clock of the option were told, and that has a name; or this is the first fault; or memory is wanting
abbrev pub IsNamedClock : Option NetName → Type 0
IsNamedClock clock = AllByRecursion (λ net. IsTrue (is_name net)) (option_to_list clock)

abbrev pub IsRead : List CellData → Option NetName → List ℕ → Result Building BlifFault → Type 0
IsRead library clock text (Ok b) =
    (b.refused ≡ None) × IsNamedClock clock × ((place : Place) × (told_by library clock text ≡ Ok (told_of place b)))
IsRead library clock text (Err fault) = IsFaultOf (told_by library clock text) fault

-- the fault is the first of the text, or memory is wanting
abbrev pub IsFirstOrNoMemory : List ℕ → List CellData → Option NetName → BlifFault → Type 0
IsFirstOrNoMemory text library clock NoMemory = Unit {0}
IsFirstOrNoMemory text library clock fault = IsFirstBlifFault text library clock fault

-- a netlist was read, which the text says; or there is a fault
abbrev pub IsReadFrom : List ℕ → List CellData → Option NetName → Result Circuit BlifFault → Type 0
IsReadFrom text library clock (Ok c) = BlifText text library clock c × IsNamedClock clock
IsReadFrom text library clock (Err fault) = IsFirstOrNoMemory text library clock fault

-- how a text is answered whose builder finishes so
abbrev pub unfinished : NetFault → BlifFault
unfinished (nets.TwoDrivers net) = Net (nets.TwoDrivers net)
unfinished (nets.NoDriver net) = Net (nets.NoDriver net)
unfinished (nets.Cycle net) = Net (nets.Cycle net)
unfinished (nets.ClockFault net) = Net (nets.ClockFault net)
unfinished nets.NoClock = Net nets.NoClock
unfinished nets.NoMemory = NoMemory

abbrev pub FinishesAs : Building → Result Circuit BlifFault → Type 0
FinishesAs b (Ok c) = Finishes b (Ok c)
FinishesAs b (Err NoMemory) = Unit {0}
FinishesAs b (Err (Net fault)) = (parts : List Part) → said parts ≡ b.said → IsFault parts fault
FinishesAs b (Err fault) = ⊥

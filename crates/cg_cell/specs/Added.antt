-- When a library takes one more cell.
use Rattle.std.specs.Prelude.{◌≡◌, ℕ, List, length, if◌then◌else◌, nat_le, Option, None, Some, Result, Ok, Err}
use Rattle.std.specs.Option.{is_some}
use Rattle.cg_limit.specs.declared.TheConstants.{MOST_LIBRARY_CELLS}
use Rattle.cg_cell.specs.Cell.{CellData}
use Rattle.cg_cell.specs.Library.{find_cell}
use Rattle.cg_limit.specs.declared.Limit.TheVariants.{LibraryCells}
use Rattle.cg_cell.specs.declared.library.LibraryFault.{LibraryFault}
use Rattle.cg_cell.specs.declared.library.LibraryFault.TheVariants.{TwoCells, Limit, NoMemory}

-- what refuses a cell of that name: the limit, which is tried first, or a cell of the name
abbrev pub add_fault : List CellData → List ℕ → Option LibraryFault
add_fault cells name =
    if nat_le MOST_LIBRARY_CELLS (length cells) then Some (Limit LibraryCells)
    else (if is_some (find_cell name cells) then Some TwoCells else None)

-- an answer comes exactly where its cause stands; want of memory may come only where nothing else refuses
abbrev pub Answers : {T : Type 0} → Result T LibraryFault → Option LibraryFault → Type 0
Answers (Ok answer) fault = fault ≡ None
Answers (Err NoMemory) fault = fault ≡ None
Answers (Err other) fault = fault ≡ Some other

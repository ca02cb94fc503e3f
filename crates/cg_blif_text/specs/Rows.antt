-- The rows behind a `.names` line.
use Rattle.std.specs.Prelude.{ℕ, ◌==◌, ◌&&◌, not, Bool, true, false, if◌then◌else◌, List, [], ◌∷◌, length, slice_index, unwrap_or}
use Rattle.std.specs.Prelude.{Option, None, Some, Result, Ok, Err}
use Rattle.std.specs.List.{list_all}
use Rattle.std.specs.Option.{option_map, option_and_then}
use Rattle.cg_cell.specs.Cover.{CoverData}
use Rattle.cg_cell.specs.Name.{is_name}
use Rattle.cg_text.specs.declared.lines.Line.{Line}
use Rattle.cg_blif_text.specs.declared.fault.BlifFault.{BlifFault}
use Rattle.cg_blif_text.specs.declared.fault.BlifFault.TheVariants.{BadLine, BadCover}

-- the bit of a byte `0` or `1`; the value that a word of one byte says
abbrev pub bit_of : ℕ → Option Bool
bit_of byte = if byte == 48 then Some false else (if byte == 49 then Some true else None)

abbrev pub value_of : List ℕ → Option Bool
value_of word = if length word == 1 then bit_of (slice_index word 0) else None

-- the place of a row that a byte says: `-` leaves the input open; the places that a word says
abbrev pub row_place : ℕ → Option (Option Bool)
row_place byte = if byte == 45 then Some None else option_map Some (bit_of byte)

abbrev pub row_places : List ℕ → Option (List (Option Bool))
row_places [] = Some []
row_places (byte ∷ word) = option_and_then (λ place. option_map (λ places. place ∷ places) (row_places word)) (row_place byte)

-- a row: a place for each input, and the value where it matches
pub record Row : Type 0 where
  pub places : List (Option Bool)
  pub value : Bool

abbrev pub row_with : Option (List (Option Bool)) → Option Bool → Option Row
row_with (Some places) (Some value) = Some (record { places = places; value = value })
row_with places value = None

-- the row of a cover with so many inputs that words say: a byte for each input and the value, or the value alone where there
-- are no inputs
abbrev pub row_of : ℕ → List (List ℕ) → Option Row
row_of inputs (value ∷ []) = if inputs == 0 then row_with (Some []) (value_of value) else None
row_of inputs (places ∷ value ∷ []) =
    if not (inputs == 0) && length places == inputs then row_with (row_places places) (value_of value) else None
row_of inputs words = None

-- all rows of a cover have one value
abbrev pub keeps_value : Option Bool → Bool → Bool
keeps_value None value = true
keeps_value (Some true) value = value
keeps_value (Some false) value = not value

abbrev pub put_places : List (Option Bool) → Result CoverData BlifFault → Result CoverData BlifFault
put_places places (Ok cover) = Ok (record cover { rows = places ∷ cover.rows })
put_places places (Err fault) = Err fault

-- a row, and then the others behind a row of its value
abbrev pub put_row : ℕ → Option Bool → Option Row → (Option Bool → Result CoverData BlifFault) → Result CoverData BlifFault
put_row number on None later = Err (BadCover number)
put_row number on (Some row) later =
    if keeps_value on row.value then put_places row.places (later (Some row.value)) else Err (BadCover number)

-- The cover that lines say, behind rows of this value if there are some; or the fault of the first line that is no such row.
-- Without any row the cover is 0, and the value is 1.
abbrev pub cover_from : ℕ → List Line → Option Bool → Result CoverData BlifFault
cover_from inputs [] on = Ok (record { rows = []; on = unwrap_or on true })
cover_from inputs (line ∷ later) on =
    if list_all is_name line.words then put_row line.number on (row_of inputs line.words) (cover_from inputs later)
    else Err (BadLine line.number)

abbrev pub cover_of : ℕ → List Line → Result CoverData BlifFault
cover_of inputs rows = cover_from inputs rows None

-- A `.names` line with the rows behind it, as far as they were read.
use Rattle.std.specs.Prelude.{◌≡◌, ◌≤◌, Bool, true, List, [], ◌∷◌, ◌++◌, length, if◌then◌else◌, unwrap_or, Option, None, Some}
use Rattle.std.specs.List.{AllByRecursion}
use Rattle.cg_cell.specs.Cover.{CoverData}
use Rattle.cg_limit.specs.declared.TheConstants.{MOST_COVER_INPUTS}
use Rattle.cg_net.specs.Names.{NetName}
use Rattle.cg_blif_text.specs.Rows.{Row, keeps_value}

-- the nets of the line, the rows so far, and the value of these rows
pub record CoverSoFar : Type 0 where
  pub inputs : List NetName
  pub output : NetName
  pub rows : List (List (Option Bool))
  pub on : Option Bool

-- there are no more inputs than a cover may have; each row has a place for each of them; without rows there is no
-- value
pub record IsOpen (o : CoverSoFar) : Type 0 where
  pub few : length o.inputs ≤ MOST_COVER_INPUTS
  pub fit : AllByRecursion (λ row. length row ≡ length o.inputs) o.rows
  pub valued : o.rows ≡ [] → o.on ≡ None

-- the cover of the rows so far
abbrev pub cover_so_far : CoverSoFar → CoverData
cover_so_far o = record { rows = o.rows; on = unwrap_or o.on true }

-- the cover with one more row, or none where there is no row or it has another value than the rows before
abbrev pub with_row : CoverSoFar → Option Row → Option CoverSoFar
with_row o None = None
with_row o (Some row) =
    if keeps_value o.on row.value then Some (record o { rows = o.rows ++ row.places ∷ []; on = Some row.value }) else None

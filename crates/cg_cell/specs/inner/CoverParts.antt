-- A cover from what it is made of.
use Rattle.cg_cell.specs.Cover.{CoverData}
use Rattle.cg_cell.specs.declared.cover.Parts.{Parts}

-- the cover of these parts
abbrev pub seen : Parts → CoverData
seen parts = record { rows = parts.rows; on = parts.on }

-- The covers of single gates, as a netlist's text gives them: an inverter, an and and an or.
use Rattle.std.specs.Prelude.{true, false, [], ◌∷◌, Some, None}
use Rattle.cg_cell.specs.Cover.{CoverData}

abbrev pub inverter_cover : CoverData
inverter_cover = record { rows = (Some false ∷ []) ∷ []; on = true }

abbrev pub and_cover : CoverData
and_cover = record { rows = (Some true ∷ Some true ∷ []) ∷ []; on = true }

abbrev pub or_cover : CoverData
or_cover = record { rows = (Some true ∷ None ∷ []) ∷ (None ∷ Some true ∷ []) ∷ []; on = true }

-- The watchers that a run is handed.
use Rattle.std.specs.Prelude.{ℕ, List, Option, slice_get}
use Rattle.std.specs.Option.{option_and_then}
use Rattle.cg_netlist.specs.Circuit.{Circuit}
use Rattle.cg_report.specs.Shown.{Shown}

-- what a watcher says of the moments of a netlist that it was shown
abbrev pub Kind : Type 0
Kind = Circuit → List Shown → List ℕ

-- the watcher at a place among these, if one is asked for
abbrev pub kind_at : List Kind → Option ℕ → Option Kind
kind_at kinds place = option_and_then (slice_get kinds) place

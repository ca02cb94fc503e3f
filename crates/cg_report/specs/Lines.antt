-- What the watchers of this crate say.
use Rattle.std.specs.Prelude.{ℕ, List, ◌++◌, codes}
use Rattle.std.specs.Fmt.{decimal}
use Rattle.cg_netlist.specs.Circuit.{Circuit}
use Rattle.cg_report.specs.Shown.{Shown}
use Rattle.cg_report.specs.Counts.{capped, rises, toggles}

abbrev pub edge_line : Circuit → List Shown → List ℕ
edge_line c moments = codes "edges " ++ decimal (capped (rises moments))

abbrev pub toggle_line : Circuit → List Shown → List ℕ
toggle_line c moments = codes "toggles " ++ decimal (capped (toggles moments))

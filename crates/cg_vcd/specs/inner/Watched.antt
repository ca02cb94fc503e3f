-- What a watcher keeps of the moments that it was shown.
use Rattle.std.specs.Prelude.{◌≡◌, ◌==◌, List, length, None, Some, if◌then◌else◌}
use Rattle.cg_netlist.specs.Circuit.{Circuit}
use Rattle.cg_report.specs.Counts.{last_nets}
use Rattle.cg_report.specs.Shown.{Shown}
use Rattle.cg_vcd.specs.declared.watch.VcdWatch.{VcdWatch}
use Rattle.cg_vcd.specs.Dumped.{dump_text}

-- the text, how many moments there were, and the bits of the last
abbrev pub Stands : VcdWatch → Circuit → List Shown → Type 0
Stands w c moments = (w.text.items ≡ dump_text c moments) × (w.moments ≡ length moments)
    × (length w.last.items ≡ length c.names) × (last_nets moments ≡ (if w.moments == 0 then None else Some w.last.items))

use Rattle.std.proofs.Common.{◌≡◌, take}
use Rattle.cg_stimulus.specs.Played.{played_start}
use Rattle.cg_report.proofs.player.start_of.Given as goal

abbrev pub invariant-registers : goal.invariant-registers
invariant-registers l = l.start.items ≡ take l.number (played_start l.netlist)

use Rattle.std.proofs.Common.{◌≡◌, map, take}
use Rattle.cg_gate_laws.specs.Begun.{renamed}
use Rattle.cg_gate.proofs.planning.renamed_hints.Given as goal

abbrev pub invariant-loop-hint : goal.invariant-loop-hint
invariant-loop-hint l = l.made.items ≡ map (renamed l.netlist) (take l.hint-index l.hints)

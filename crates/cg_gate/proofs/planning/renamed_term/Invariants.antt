use Rattle.std.proofs.Common.{◌≡◌, map, take}
use Rattle.cg_gate_laws.specs.Begun.{renamed_literal}
use Rattle.cg_gate.proofs.planning.renamed_term.Given as goal

abbrev pub invariant-loop-literal : goal.invariant-loop-literal
invariant-loop-literal l = l.made ≡ map (renamed_literal l.netlist) (take l.literal-index l.term)

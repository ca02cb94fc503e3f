use Rattle.std.proofs.Common.{◌≡◌, map, take}
use Rattle.cg_gate_laws.specs.Begun.{renamed_literal}
use Rattle.cg_gate.proofs.planning.renamed_terms.Given as goal

abbrev pub invariant-loop-k : goal.invariant-loop-k
invariant-loop-k l = l.made ≡ map (map (renamed_literal l.netlist)) (take l.k l.terms)

use Rattle.std.proofs.Common.{◌≡◌, ◌++◌, map, decimal}
use Rattle.std.specs.List.{range_with_len}
use Rattle.cg_netlist_telling.specs.Names.{bytes_of}
use Rattle.cg_insert.proofs.names.push_numbered.Given as goal

abbrev pub invariant-loop-k : goal.invariant-loop-k
invariant-loop-k l = bytes_of l.names.items ≡ bytes_of l.initial.names.items ++ map (λ k. l.prefix ++ decimal k) (range_with_len l.first l.k)

use Rattle.std.proofs.Common.{◌≡◌, [], IsTrue, drop, map}
use Rattle.std.specs.List.{AllByRecursion, flat_map}
use Rattle.cg_cell.specs.Name.{is_name}
use Rattle.cg_net.specs.Names.{with_names}
use Rattle.cg_verilog.proofs.cover.table_of.Given as goal

abbrev pub invariant-terms : goal.invariant-terms
invariant-terms l = record {
  left : with_names l.names (flat_map (λ term. map (λ literal. literal.net) term) (drop l.term-index l.terms)) ≡ with_names [] (flat_map (λ term. map (λ literal. literal.net) term) l.terms);
  named : AllByRecursion (λ name. IsTrue (is_name name)) l.names;
}

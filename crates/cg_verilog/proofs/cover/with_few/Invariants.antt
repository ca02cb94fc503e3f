use Rattle.std.proofs.Common.{◌≡◌, IsTrue, drop, map}
use Rattle.std.specs.List.{AllByRecursion}
use Rattle.cg_cell.specs.Name.{is_name}
use Rattle.cg_net.specs.Names.{with_names}
use Rattle.cg_verilog.proofs.cover.with_few.Given as goal

abbrev pub invariant-literals : goal.invariant-literals
invariant-literals l = record {
  left : with_names (map (λ name. name.now) l.names.items) (map (λ literal. literal.net) (drop l.literal-index l.term)) ≡ with_names (map (λ name. name.now) l.fn.before.items) (map (λ literal. literal.net) l.term);
  named : AllByRecursion (λ name. IsTrue (is_name name)) (map (λ name. name.now) l.names.items);
}

-- The logic cells of a well-formed netlist may be searched for ranks.
use Rattle.std.proofs.Common.{◌≡◌, ℕ, ◌<◌, List, length}
use Rattle.std.proofs.Common.{get_or, sym, subst, arith}
use Rattle.std.specs.List.{All, AllByRecursion}
use Rattle.std.proofs.lemmas.Option.{slice_get-get_or}
use Rattle.cg_netlist.specs.Circuit.{Circuit, LogicCell}
use Rattle.cg_netlist.specs.Netlist.{IsNetlist}
use Rattle.cg_netlist.specs.Places.{CellWithin}
use Rattle.cg_netlist.specs.inner.Walking.{IsLevelled}
use Rattle.cg_netlist.proofs.CellFits.{cell_fits}
use Rattle.cg_netlist.proofs.Each.{by_recursion}
use Rattle.cg_netlist.proofs.OrderLemmas.{cells_within}

pub cells_levelled : (c : Circuit) → IsNetlist c → (n : ℕ) → n ≡ length c.names → IsLevelled n c.cells
cells_levelled c good n is = record {
  few = omega (arith, cells_within c good.in_order, good.nets);
  outputs = λ k d below. let fits = cell_fits c good k (get_or c.cells k d) (slice_get-get_or c.cells k d below) in omega (arith, fits.output, is);
  inputs = λ k d below. let fits = cell_fits c good k (get_or c.cells k d) (slice_get-get_or c.cells k d below) in subst (λ m. All (λ net. net < m) (get_or c.cells k d).inputs) (sym is) fits.inputs;
}

pub levelled_within : (n : ℕ) (cells : List (LogicCell ℕ)) → IsLevelled n cells → AllByRecursion (CellWithin n) cells
levelled_within n cells levelled =
    by_recursion (CellWithin n) cells (λ k d below. record {
      inputs = by_recursion (λ net. net < n) (get_or cells k d).inputs (levelled.inputs k d below);
      output = levelled.outputs k d below;
    })

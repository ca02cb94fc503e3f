-- A netlist without gating cells may become a machine.
use Rattle.std.proofs.Common.{◌≡◌, ℕ, nat_eq, IsTrue, List, [], ◌∷◌, length, None, refl, arith}
use Rattle.std.specs.List.{IsDistinct}
use Rattle.cg_cell.specs.Name.{is_name}
use Rattle.cg_machine.specs.Start.{CanStart, first_clash}
use Rattle.cg_netlist.specs.Circuit.{Circuit}
use Rattle.cg_netlist.specs.Netlist.{IsNetlist}

none_there : {X : Type 0} (xs : List X) → length xs ≡ 0 → xs ≡ []
none_there [] none = refl
none_there (x ∷ xs) none = absurd (omega (arith, none))

pub can_start : (c : Circuit) (prefix : List ℕ) → IsNetlist c → IsDistinct nat_eq c.outputs → length c.gaters ≡ 0 → IsTrue (is_name prefix) → first_clash prefix c.names ≡ None → CanStart c prefix
can_start c prefix netlist once none named new = record {
  netlist = netlist;
  outputs_once = once;
  no_gaters = none_there c.gaters none;
  named = named;
  new = new;
}

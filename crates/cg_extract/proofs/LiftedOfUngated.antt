-- The lifted machine of a netlist without gating cells is its machine.
use Rattle.std.proofs.Common.{◌≡◌, ℕ, List, [], ◌∷◌, length, map, replicate, nat_eq, Option, None, refl, ap, ◌∙◌, arith}
use Rattle.std.specs.List.{IsDistinct}
use Rattle.cg_machine.specs.Run.{with_enables}
use Rattle.cg_machine.specs.Start.{machine_of}
use Rattle.cg_netlist.specs.Circuit.{Circuit, RegisterCell}
use Rattle.cg_netlist.specs.Netlist.{IsNetlist}
use Rattle.cg_extract.proofs.BareOfUngated.{bare_same, nothing}
use Rattle.cg_extract.proofs.Depths.{depths_few}
use Rattle.cg_extract.specs.Lifted.{Lifting, bare, by_depth, lift_each, lifted, lifted_enables, unlifted}

-- no register has an enable
none_each : (rs : List (RegisterCell ℕ ℕ)) → map {B = Option ℕ} (λ (r : RegisterCell ℕ ℕ). None) rs ≡ replicate (length rs) None
none_each [] = refl
none_each (r ∷ rs) = ap (λ l. None ∷ l) (none_each rs)

module _ (c : Circuit) (whole : IsNetlist c) (none : c.gaters ≡ []) where
  -- nothing is lifted
  none_taken : by_depth c ≡ []
  none_taken = let few = depths_few c in let long = ap length none in nothing (by_depth c) (omega (arith, few, long))

  pub lifted_same : (prefix : List ℕ) → IsDistinct nat_eq c.outputs → lifted c prefix ≡ machine_of c prefix
  lifted_same prefix once =
      ap (λ gaters. let l : Lifting = lift_each c (unlifted c prefix) gaters in with_enables l.machine (lifted_enables c l.enables)) none_taken
      ∙ (ap (with_enables (machine_of (bare c) prefix)) (none_each c.registers)
      ∙ ap (λ d. with_enables (machine_of d prefix) (replicate (length c.registers) None)) (bare_same c whole none once))

-- A copy that was laid is the definition's, as far as its cone reaches.
use Rattle.std.proofs.Common.{◌≡◌, ℕ, ◌+◌, ◌<◌, Bool, true, false, if◌then◌else◌, List, [], length, slice_index_or, Option, Some}
use Rattle.std.proofs.Common.{None, refl, sym, ◌∙◌, ap, subst, arith}
use Rattle.std.specs.List.{flat_map}
use Rattle.std.specs.Option.{option_map_or}
use Rattle.std.proofs.lemmas.Option.{slice_get_within}
use Rattle.cg_cell.specs.Domain.{AreValid, Seen}
use Rattle.cg_aig.specs.Aig.{aig_ops, inverse}
use Rattle.cg_aig.specs.declared.fault.AigFault.{AigFault}
use Rattle.cg_netlist.specs.Circuit.{RegisterCell, data_inputs, shown_nets}
use Rattle.cg_net.specs.NetSets.{is_in}
use Rattle.cg_netlist_cone.specs.Cone.{cone_of}
use Rattle.cg_netlist.specs.Moment.{values_at}
use Rattle.cg_netlist_cone.specs.declared.cone.Cone.{Cone}
use Rattle.cg_netlist.specs.declared.driver.Driver.TheVariants.{Register}
use Rattle.cg_machine.specs.Machine.{IsMachine, MachineData, walk_of}
use Rattle.cg_claim.specs.Build.{aig_values, from_state, lay, reached_cells, shown_by, start_nets}
use Rattle.cg_claim.specs.Reach.{feeds, registers_of}
use Rattle.cg_claim.specs.Tables.{SameOn}
use Rattle.cg_claim.proofs.DriversTell.{driver_tells}
use Rattle.cg_claim.proofs.GivenNets.{shown_feeds, shown_in}
use Rattle.cg_claim.proofs.ReachedOnly.{copy_laid, same_then}
use Rattle.cg_unroll.specs.Building.{LaysCells, MayFail, table_of}
use Rattle.cg_unroll.specs.inner.Filling.{AgreesWithAll, Puts, nets_shown}
use Rattle.cg_unroll.specs.Laid.{HoldsInputs, copy_table}
use Rattle.cg_claim_reach.specs.Reached.{IsConeOf}
use Rattle.cg_netlist.proofs.WalkOrder.{in_each}
use Rattle.cg_netlist.proofs.Filtered.{range_in, to_filter}

module _ (m : MachineData) (good : IsMachine m) (roots : List ℕ) (cone : Cone) (stands : IsConeOf m (cone_of (walk_of m) roots) cone) (inputs : ℕ → ℕ) (states old mid : List ℕ)
    (holds : HoldsInputs m inputs old) (put : Puts (AgreesWithAll m (λ r. slice_index_or states r 0)) (λ u. AreValid aig_ops u states) (flat_map (nets_shown m) cone.registers) old mid) where
  abbrev nets : List ℕ
  nets = cone_of (walk_of m) roots

  abbrev sts : ℕ → ℕ
  sts r = slice_index_or states r 0

  abbrev g : ℕ → ℕ
  g = start_nets aig_values m inputs sts

  agrees : AgreesWithAll m sts g
  agrees r cell at k y inverted shows = sym (driver_tells m.circuit good.well_formed.driven inverse 0 inputs sts y (Register r inverted) (cell, k, at, shows))

  -- a net of the cone that a register shows its bit at
  edge_net : (x : ℕ) (p : ℕ × Bool) → is_in nets x ≡ true → shown_by m.circuit.registers x ≡ Some p → is_in (flat_map (nets_shown m) cone.registers) x ≡ true
  edge_net x p among shows =
      let c = shown_in m.circuit.registers x p shows in
      let below : p.0 < length m.circuit.registers = slice_get_within m.circuit.registers p.0 c.0 c.1 in
      let zero_r : 0 + p.0 ≡ p.0 = omega arith in
      let there : is_in (registers_of m) p.0 ≡ true = subst (λ k. is_in (registers_of m) k ≡ true) zero_r (range_in (length m.circuit.registers) 0 p.0 below) in
      in_each (nets_shown m) cone.registers p.0 x
      (subst (λ l. is_in l p.0 ≡ true) (sym stands.registers) (to_filter (feeds m nets) (registers_of m) p.0 there (shown_feeds m nets x p among shows)))
      (subst (λ (o : Option (RegisterCell ℕ ℕ)). is_in (option_map_or shown_nets o []) x ≡ true) (sym c.1) c.2)

  starts : (x : ℕ) → is_in nets x ≡ true → slice_index_or mid x 0 ≡ g x
  starts x among = go (is_in (data_inputs m.circuit) x) refl (shown_by m.circuit.registers x) refl
    where
      go : (b : Bool) → is_in (data_inputs m.circuit) x ≡ b → (o : Option (ℕ × Bool)) → shown_by m.circuit.registers x ≡ o → slice_index_or mid x 0 ≡ g x
      go true is o shows =
          (put.fills g agrees).keeps x (holds x ∙ (ap (λ b. if b then inputs x else 0) is
          ∙ sym (ap (λ b. if b then inputs x else from_state inverse 0 sts (shown_by m.circuit.registers x)) is)))
      go false is None shows =
          (put.fills g agrees).keeps x (holds x ∙ (ap (λ b. if b then inputs x else 0) is
          ∙ sym (ap (λ b. if b then inputs x else from_state inverse 0 sts (shown_by m.circuit.registers x)) is ∙ ap (from_state inverse 0 sts) shows)))
      go false is (Some p) shows = (put.fills g agrees).fills x (edge_net x p among shows)

  module _ (s : Seen) where
    from_start : SameOn (is_in nets) (lay aig_values (reached_cells m nets) (table_of s mid)) (copy_table m nets inputs states s)
    from_start = copy_laid aig_values m good roots (table_of s mid) s inputs inputs sts sts refl starts (λ y is among. refl) (λ r feeding. refl)

    pub copy_is : (t : Seen) (new : List ℕ) → LaysCells (values_at m.circuit.cells cone.cells) s t mid new → SameOn (is_in nets) (table_of t new) (copy_table m nets inputs states s)
    copy_is t new lays =
        let same : SameOn (λ _. true) (table_of t new) (lay aig_values (reached_cells m nets) (table_of s mid)) = subst (λ cells. SameOn (λ _. true) (table_of t new) (lay aig_values cells (table_of s mid))) stands.cells lays.same in
        same_then (is_in nets) (table_of t new) (lay aig_values (reached_cells m nets) (table_of s mid)) (copy_table m nets inputs states s)
        (record { domain = same.domain; at = λ x among. same.at x refl }) from_start

    pub copy_fails : (fault : AigFault) → MayFail (lay aig_values (values_at m.circuit.cells cone.cells) (table_of s mid)).domain fault → MayFail (copy_table m nets inputs states s).domain fault
    copy_fails fault h =
        subst (λ d. MayFail d fault) from_start.domain (subst (λ cells. MayFail (lay aig_values cells (table_of s mid)).domain fault) stands.cells h)

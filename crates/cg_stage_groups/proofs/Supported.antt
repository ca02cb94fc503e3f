-- The support of a register from the edge of the cone of its inputs.
use Rattle.std.proofs.Common.{◌≡◌, ℕ, Bool, true, false, ◌||◌, ◌&&◌, List, [], ◌∷◌, ◌++◌, nat_eq, slice_get, Option}
use Rattle.std.proofs.Common.{Some, None, refl, sym, ◌∙◌, ap}
use Rattle.std.specs.List.{list_any}
use Rattle.std.specs.Option.{option_map_or}
use Rattle.cg_netlist.specs.Circuit.{RegisterCell, data_inputs, shown_nets}
use Rattle.cg_net.specs.NetSets.{is_in}
use Rattle.cg_net.proofs.Members.{is_in-append}
use Rattle.cg_machine.specs.Machine.{MachineData, walk_of}
use Rattle.cg_netlist_cone.specs.Cone.{cone_of}
use Rattle.cg_claim.specs.Reach.{feeds, reads_own}
use Rattle.cg_stage_list_laws.specs.Supports.{input_cone, reads_own_at}
use Rattle.cg_stage_groups.specs.Support.{IsSupport}
use Rattle.cg_stage_groups.specs.declared.support.Support.{Support}
use Rattle.cg_stage_groups.specs.inner.Edge.{IsEdge}
use Rattle.cg_netlist_cone.proofs.ConeEdge.{common, never}
use Rattle.std.proofs.Math.Bool.{or-false}

module _ (m : MachineData) (r : ℕ) (cell : RegisterCell ℕ ℕ) (at : slice_get m.circuit.registers r ≡ Some cell) (nets : List ℕ) (same : (y : ℕ) → is_in nets y ≡ is_in (cone_of (walk_of m) cell.inputs) y) (s : Support) (edge : IsEdge m nets s) where
  in_cone : (y : ℕ) → is_in nets y ≡ is_in (input_cone m r) y
  in_cone y = same y ∙ ap (λ o. is_in (cone_of (walk_of m) (option_map_or (λ (c : RegisterCell ℕ ℕ). c.inputs) o [])) y) (sym at)

  fed : (k : ℕ) → is_in s.registers k ≡ feeds m (input_cone m r) k
  fed k = edge.registers k ∙ go (slice_get m.circuit.registers k)
    where
      go : (o : Option (RegisterCell ℕ ℕ)) → list_any (λ y. option_map_or (λ (c : RegisterCell ℕ ℕ). is_in (shown_nets c) y) o false) nets ≡ option_map_or (λ (c : RegisterCell ℕ ℕ). list_any (is_in (input_cone m r)) (shown_nets c)) o false
      go None = never nets
      go (Some c) = common nets (shown_nets c) (input_cone m r) in_cone

  own_is : reads_own_at m r ≡ reads_own cell
  own_is = ap (λ o. option_map_or reads_own o false) at

  pub support_plain : reads_own cell ≡ false → IsSupport m r s
  support_plain lacks = record {
    input = edge.input ∙ common nets (data_inputs m.circuit) (input_cone m r) in_cone;
    registers = λ k. fed k ∙ (sym (or-false (feeds m (input_cone m r) k)) ∙ ap (λ b. feeds m (input_cone m r) k || b) (sym (ap (λ b. nat_eq k r && b) (own_is ∙ lacks) ∙ and_none (nat_eq k r))));
  }
    where
      and_none : (b : Bool) → (b && false) ≡ false
      and_none true = refl
      and_none false = refl

  pub support_own : reads_own cell ≡ true → (t : Support) → t.has_input ≡ s.has_input → t.registers ≡ s.registers ++ r ∷ [] → IsSupport m r t
  support_own reads t input registers = record {
    input = input ∙ (edge.input ∙ common nets (data_inputs m.circuit) (input_cone m r) in_cone);
    registers = λ k. ap (λ l. is_in l k) registers ∙ (is_in-append s.registers (r ∷ []) k ∙ (ap (λ b. b || (nat_eq k r || false)) (fed k)
        ∙ ap (λ b. feeds m (input_cone m r) k || b) (or-false (nat_eq k r) ∙ sym (ap (λ b. nat_eq k r && b) (own_is ∙ reads) ∙ and_all (nat_eq k r)))));
  }
    where
      and_all : (b : Bool) → (b && true) ≡ b
      and_all true = refl
      and_all false = refl

-- A step of the walk, told by what drives the net that is looked at.
use Rattle.std.proofs.Common.{◌≡◌, ℕ, suc, ◌+◌, ◌<◌, Bool, ◌||◌, List, [], ◌∷◌, length, take, slice_get}
use Rattle.std.proofs.Common.{Some, true, sym, ◌∙◌, ap, subst, arith}
use Rattle.std.specs.List.{list_any}
use Rattle.std.proofs.lemmas.List.Folds.{list_any-append}
use Rattle.std.proofs.lemmas.Option.{same_Some}
use Rattle.std.proofs.Math.Bool.{or-false}
use Rattle.cg_netlist.specs.Circuit.{Circuit, LogicCell, data_inputs, used_nets}
use Rattle.cg_net.specs.NetSets.{is_in, with_nets}
use Rattle.cg_netlist.specs.Drivers.{IsDriver}
use Rattle.cg_netlist.specs.Netlist.{IsNetlist}
use Rattle.cg_netlist.specs.declared.driver.Driver.{Driver}
use Rattle.cg_netlist.specs.declared.driver.Driver.TheVariants.{Cell}
use Rattle.cg_net.proofs.TableLemmas.{All-at, take_end}
use Rattle.cg_net.proofs.Members.{place_of_member}
use Rattle.cg_netlist.proofs.Used.{input_is_used}
use Rattle.cg_machine.specs.Added.{own_netlist}
use Rattle.cg_machine.specs.Machine.{IsMachine, MachineData}
use Rattle.cg_stage_groups.specs.declared.support.Support.{Support}
use Rattle.cg_stage_groups.specs.inner.Edge.{IsEdge, is_input, is_register, shows_at}
use Rattle.cg_stage_groups.specs.inner.Reaching.{IsReached}
use Rattle.cg_stage_groups.proofs.Driving.{cell_driver, input_driver, register_driver}
use Rattle.cg_stage_groups.proofs.Reached.{reached_cell, reached_edge}

-- a used net of a netlist is one of its nets
pub used_within : (c : Circuit) → IsNetlist c → (x : ℕ) → is_in (used_nets c) x ≡ true → x < length c.names
used_within c good x used = let p = place_of_member (used_nets c) x used in All-at (used_nets c) (length c.names) p.0 x p.1 good.well_formed.used

abbrev cell_number : Driver → ℕ
cell_number (Cell k) = k
cell_number _ = 0

module _ (m : MachineData) (good : IsMachine m) where
  one_cell : (net id : ℕ) (d : IsDriver (own_netlist m) net (Cell id)) (k : ℕ) (c : LogicCell ℕ) → slice_get m.circuit.cells k ≡ Some c → c.output ≡ net → c ≡ d.0
  one_cell net id d k c at output =
      let f = cell_driver m good k c net (Cell id) at output d in
      let e : id ≡ f.0 = same_number id f.0 f.1 in
      same_Some c d.0 (sym f.2 ∙ (ap (slice_get (own_netlist m).cells) (sym e) ∙ d.1))
    where
      same_number : (i j : ℕ) → Cell i ≡ Cell j → i ≡ j
      same_number i j e = ap cell_number e

  module _ (roots found : List ℕ) (next net : ℕ) (r : IsReached m roots next found) (at : slice_get found next ≡ Some net) (below : next < length found) where
    pub step_cell : IsNetlist (own_netlist m) → (id : ℕ) (d : IsDriver (own_netlist m) net (Cell id)) (inputs more : List ℕ) → inputs ≡ d.0.inputs → more ≡ with_nets found inputs → IsReached m roots (next + 1) more
    step_cell netlist id d inputs more same is =
        let whole : with_nets found d.0.inputs ≡ more = sym (is ∙ ap (with_nets found) same) in
        subst (λ l. IsReached m roots (next + 1) l) whole
        (reached_cell m good roots found next net r at below id d.0 d.1 d.2 (λ x among. used_within (own_netlist m) netlist x (input_is_used (own_netlist m) id x d.0 d.1 among)) (λ k c c_at output. one_cell net id d k c c_at output))

    pub step_edge : (d : Driver) → IsDriver (own_netlist m) net d → ((k : ℕ) → d ≡ Cell k → ⊥) → IsReached m roots (next + 1) found
    step_edge d is other = reached_edge m good roots found next net r at below (λ k c c_at output. let f = cell_driver m good k c net d c_at output is in other f.0 f.1)

  -- one more net of the edge
  any_more : (test : ℕ → Bool) (xs : List ℕ) (i x : ℕ) → slice_get xs i ≡ Some x → list_any test (take (i + 1) xs) ≡ (list_any test (take i xs) || test x)
  any_more test xs i x at =
      let e : i + 1 ≡ suc i = omega arith in
      ap (λ n. list_any test (take n xs)) e ∙ (ap (list_any test) (take_end xs i x at) ∙ (list_any-append test (take i xs) (x ∷ []) ∙ ap (λ b. list_any test (take i xs) || b) (or-false (test x))))

  pub edge_more : (nets : List ℕ) (i net : ℕ) (d : Driver) (s t : Support) → slice_get nets i ≡ Some net → IsDriver (own_netlist m) net d → IsEdge m (take i nets) s
      → t.has_input ≡ (s.has_input || is_input d) → ((k : ℕ) → is_in t.registers k ≡ (is_in s.registers k || is_register d k)) → IsEdge m (take (i + 1) nets) t
  edge_more nets i net d s t at is edge input registers = record {
    input = input ∙ (ap (λ b. b || is_input d) edge.input ∙ (ap (λ b. list_any (is_in (data_inputs m.circuit)) (take i nets) || b) (sym (input_driver m good net d is)) ∙ sym (any_more (is_in (data_inputs m.circuit)) nets i net at)));
    registers = λ k. registers k ∙ (ap (λ b. b || is_register d k) (edge.registers k) ∙ (ap (λ b. list_any (shows_at m k) (take i nets) || b) (sym (register_driver m good k net d is)) ∙ sym (any_more (shows_at m k) nets i net at)));
  }

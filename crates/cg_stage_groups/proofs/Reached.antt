-- A walk back from some nets, one net at a time.
use Rattle.std.proofs.Common.{◌≡◌, ℕ, zero, suc, ◌+◌, ◌<◌, ◌≤◌, true, false, List, [], ◌∷◌, ◌++◌, length, take}
use Rattle.std.proofs.Common.{slice_get, Some, refl, sym, ap, subst, arith, inl, inr}
use Rattle.std.proofs.lemmas.Bool.{both_ways}
use Rattle.cg_netlist.specs.Circuit.{LogicCell}
use Rattle.cg_net.specs.NetSets.{is_in, with_nets}
use Rattle.cg_net.proofs.Members.{member_at}
use Rattle.cg_machine.specs.Added.{own_netlist}
use Rattle.cg_machine.specs.Machine.{IsMachine, MachineData, walk_of}
use Rattle.cg_netlist_cone.specs.Cone.{Reaches, cone_of, here, through}
use Rattle.cg_netlist_cone.proofs.Cones.{cone_is, longer}
use Rattle.cg_stage_groups.specs.inner.Reaching.{AreOwn, IsReached}
use Rattle.cg_netlist_cone.proofs.ConeWalk.{in_next}
use Rattle.cg_net.proofs.FoundNets.{front, kept_all, only_these, put_all, take_some}
use Rattle.std.specs.Cmp.{both_ways as same_truth}

module _ (m : MachineData) (good : IsMachine m) (roots : List ℕ) where
  -- at the start the roots
  pub reached_first : AreOwn m roots → IsReached m roots 0 (with_nets [] roots)
  reached_first own = record {
    own = λ y among. own y (root y among);
    starts = λ y among. put_all [] roots y among;
    only = λ y among. record { root = y; among = root y among; reaches = here };
    closed = λ k cell at among. absurd (both_ways false refl among);
  }
    where
      root : (y : ℕ) → is_in (with_nets [] roots) y ≡ true → is_in roots y ≡ true
      root y among = elim (only_these [] roots y among) [ inl none ↦ absurd (both_ways false refl none) | inr is ↦ is ]

  module _ (found : List ℕ) (next net : ℕ) (r : IsReached m roots next found) (at : slice_get found next ≡ Some net) (below : next < length found) where
    -- a net that a cell of the netlist drives: its inputs are found
    pub reached_cell : (j : ℕ) (cell : LogicCell ℕ) → slice_get (own_netlist m).cells j ≡ Some cell → cell.output ≡ net → ((x : ℕ) → is_in cell.inputs x ≡ true → x < length (own_netlist m).names)
        → ((k : ℕ) (c : LogicCell ℕ) → slice_get m.circuit.cells k ≡ Some c → c.output ≡ net → c ≡ cell) → IsReached m roots (next + 1) (with_nets found cell.inputs)
    reached_cell j cell own_at output inputs one = record {
      own = λ y among. elim (only_these found cell.inputs y among) [ inl old ↦ r.own y old | inr new ↦ inputs y new ];
      starts = λ y among. kept_all found cell.inputs y (r.starts y among);
      only = λ y among. elim (only_these found cell.inputs y among) [
        | inl old ↦ r.only y old
        | inr new ↦
            let way = r.only net (member_at found next net at) in
            let on : Reaches m.circuit.cells cell.output way.root = subst (λ z. Reaches m.circuit.cells z way.root) (sym output) way.reaches in
            record { root = way.root; among = way.among; reaches = longer m.circuit.cells j cell y way.root (take_some m.own_cells m.circuit.cells j cell own_at) new on }
      ];
      closed = λ k c c_at among x input.
          let f = front found cell.inputs in
          elim (in_next found f.0 next net c.output at below (subst (λ l. is_in (take (next + 1) l) c.output ≡ true) f.1 among)) [
            | inl before ↦ kept_all found cell.inputs x (r.closed k c c_at before x input)
            | inr same ↦ put_all found cell.inputs x (subst (λ (z : LogicCell ℕ). is_in z.inputs x ≡ true) (one k c c_at same) input)
          ];
    }

    -- a net that no cell drives: nothing is found
    pub reached_edge : ((k : ℕ) (c : LogicCell ℕ) → slice_get m.circuit.cells k ≡ Some c → c.output ≡ net → ⊥) → IsReached m roots (next + 1) found
    reached_edge none = record {
      own = r.own;
      starts = r.starts;
      only = r.only;
      closed = λ k c c_at among x input. elim (in_next found [] next net c.output at below (subst (λ l. is_in (take (next + 1) l) c.output ≡ true) (sym (append-none found)) among)) [
        | inl before ↦ r.closed k c c_at before x input
        | inr same ↦ absurd (none k c c_at same)
      ];
    }
      where
        append-none : (l : List ℕ) → l ++ [] ≡ l
        append-none [] = refl
        append-none (y ∷ l) = ap (λ k. y ∷ k) (append-none l)

  -- at the end the cone
  pub reached_all : (found : List ℕ) (next : ℕ) → length found ≤ next → IsReached m roots next found → (y : ℕ) → is_in found y ≡ is_in (cone_of (walk_of m) roots) y
  reached_all found next past r y =
      let cone = cone_is m.circuit.cells (walk_of m) good.walk roots y in
      same_truth (is_in found y) (is_in (cone_of (walk_of m) roots) y) (λ among. cone.1 (r.only y among)) (λ among. let way = cone.0 among in back y way.root way.reaches (r.starts way.root way.among))
    where
      take_past : (n : ℕ) (xs : List ℕ) → length xs ≤ n → take n xs ≡ xs
      take_past zero [] h = refl
      take_past zero (x ∷ xs) h = absurd (omega arith)
      take_past (suc n) [] h = refl
      take_past (suc n) (x ∷ xs) h = ap (λ l. x ∷ l) (take_past n xs (omega arith))

      back : (z x : ℕ) → Reaches m.circuit.cells z x → is_in found x ≡ true → is_in found z ≡ true
      back z x here among = among
      back z x (through k cell w at input way) among = back z w way (r.closed k cell at (subst (λ l. is_in l cell.output ≡ true) (sym (take_past next found past)) among) w input)

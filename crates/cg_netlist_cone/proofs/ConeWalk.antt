-- A walk back from some nets, one net at a time: at its end the cone was found.
use Rattle.std.proofs.Common.{◌≡◌, ℕ, zero, suc, ◌+◌, ◌<◌, ◌≤◌, true, false, List, [], ◌∷◌, ◌++◌, length, take, nat_eq, slice_get}
use Rattle.std.proofs.Common.{Some, refl, sym, ◌∙◌, ap, subst, arith, ◌⊎◌, inl, inr}
use Rattle.std.proofs.lemmas.Bool.{both_ways, eqb-true, or_cases}
use Rattle.std.proofs.lemmas.Option.{same_Some}
use Rattle.cg_netlist.specs.Circuit.{Circuit, LogicCell, used_nets}
use Rattle.cg_net.specs.NetSets.{is_in, with_nets}
use Rattle.cg_netlist_cone.specs.Cone.{Reaches, cone_of, here, through}
use Rattle.cg_netlist.specs.Drivers.{IsDriver}
use Rattle.cg_netlist.specs.Nets.{IsWalk}
use Rattle.cg_netlist.specs.WellFormed.{IsWellFormed}
use Rattle.cg_netlist.specs.declared.driver.Driver.{Driver}
use Rattle.cg_netlist.specs.declared.driver.Driver.TheVariants.{Cell}
use Rattle.cg_netlist_cone.specs.inner.Reaching.{IsReached}
use Rattle.cg_netlist_cone.proofs.Cones.{cone_is, longer}
use Rattle.cg_net.proofs.FoundNets.{front, kept_all, only_these, put_all, take_front}
use Rattle.cg_net.proofs.TableLemmas.{All-at, take_end}
use Rattle.cg_net.proofs.Members.{is_in_cases, member_at, place_of_member}
use Rattle.cg_netlist_cone.proofs.OneDriver.{cell_driver, cell_number}
use Rattle.cg_netlist.proofs.Used.{input_is_used}
use Rattle.std.specs.Cmp.{both_ways as same_truth}

-- the first nets, with one more
pub in_next : (found more : List ℕ) (next net y : ℕ) → slice_get found next ≡ Some net → next < length found → is_in (take (next + 1) (found ++ more)) y ≡ true → (is_in (take next found) y ≡ true) ⊎ (y ≡ net)
in_next found more next net y at below among =
    let e : next + 1 ≡ suc next = omega arith in
    let whole : take (next + 1) (found ++ more) ≡ take next found ++ net ∷ [] = take_front (next + 1) found more (omega arith) ∙ (ap (λ n. take n found) e ∙ take_end found next net at) in
    elim (is_in_cases (take next found) (net ∷ []) y (subst (λ l. is_in l y ≡ true) whole among)) [
      | inl before ↦ inl before
      | inr last ↦ elim (or_cases (nat_eq y net) false last) [ inl same ↦ inr (eqb-true y net same) | inr none ↦ absurd (both_ways false refl none) ]
    ]

module _ (c : Circuit) (good : IsWellFormed c) (roots : List ℕ) where
  -- a used net of a netlist is one of its nets
  used_within : (x : ℕ) → is_in (used_nets c) x ≡ true → x < length c.names
  used_within x used = let p = place_of_member (used_nets c) x used in All-at (used_nets c) (length c.names) p.0 x p.1 good.used

  -- at the start the roots
  pub reached_first : ((y : ℕ) → is_in roots y ≡ true → y < length c.names) → IsReached c roots 0 (with_nets [] roots)
  reached_first within = record {
    within = λ y among. within y (root y among);
    starts = λ y among. put_all [] roots y among;
    only = λ y among. record { root = y; among = root y among; reaches = here };
    closed = λ k cell at among. absurd (both_ways false refl among);
  }
    where
      root : (y : ℕ) → is_in (with_nets [] roots) y ≡ true → is_in roots y ≡ true
      root y among = elim (only_these [] roots y among) [ inl none ↦ absurd (both_ways false refl none) | inr is ↦ is ]

  module _ (found : List ℕ) (next net : ℕ) (r : IsReached c roots next found) (at : slice_get found next ≡ Some net) (below : next < length found) where
    -- a net that a cell drives: its inputs are found
    pub reached_cell : (id : ℕ) → (d : IsDriver c net (Cell id)) (inputs more : List ℕ) → inputs ≡ d.0.inputs → more ≡ with_nets found inputs → IsReached c roots (next + 1) more
    reached_cell id d inputs more same is = subst (λ l. IsReached c roots (next + 1) l) (sym (is ∙ ap (with_nets found) same)) (record {
      within = λ y among. elim (only_these found cell.inputs y among) [ inl old ↦ r.within y old | inr new ↦ used_within y (input_is_used c id y cell d.1 new) ];
      starts = λ y among. kept_all found cell.inputs y (r.starts y among);
      only = λ y among. elim (only_these found cell.inputs y among) [
        | inl old ↦ r.only y old
        | inr new ↦
            let way = r.only net (member_at found next net at) in
            let on : Reaches c.cells cell.output way.root = subst (λ z. Reaches c.cells z way.root) (sym d.2) way.reaches in
            record { root = way.root; among = way.among; reaches = longer c.cells id cell y way.root d.1 new on }
      ];
      closed = λ k e e_at among x input.
          let f = front found cell.inputs in
          elim (in_next found f.0 next net e.output at below (subst (λ l. is_in (take (next + 1) l) e.output ≡ true) f.1 among)) [
            | inl before ↦ kept_all found cell.inputs x (r.closed k e e_at before x input)
            | inr output ↦
                let one : e ≡ cell = same_cell k e e_at output in
                put_all found cell.inputs x (subst (λ (z : LogicCell ℕ). is_in z.inputs x ≡ true) one input)
          ];
    })
      where
        cell : LogicCell ℕ
        cell = d.0

        same_cell : (k : ℕ) (e : LogicCell ℕ) → slice_get c.cells k ≡ Some e → e.output ≡ net → e ≡ d.0
        same_cell k e e_at output =
            let number : id ≡ k = ap cell_number (cell_driver c good.driven k e net (Cell id) e_at output d) in
            same_Some e d.0 (sym e_at ∙ (ap (slice_get c.cells) (sym number) ∙ d.1))

    -- a net that no cell drives: nothing is found
    pub reached_edge : (d : Driver) → IsDriver c net d → ((k : ℕ) → d ≡ Cell k → ⊥) → IsReached c roots (next + 1) found
    reached_edge d is other = record {
      within = r.within;
      starts = r.starts;
      only = r.only;
      closed = λ k e e_at among x input. elim (in_next found [] next net e.output at below (subst (λ l. is_in (take (next + 1) l) e.output ≡ true) (sym (append-none found)) among)) [
        | inl before ↦ r.closed k e e_at before x input
        | inr output ↦ absurd (other k (cell_driver c good.driven k e net d e_at output is))
      ];
    }
      where
        append-none : (l : List ℕ) → l ++ [] ≡ l
        append-none [] = refl
        append-none (y ∷ l) = ap (λ k. y ∷ k) (append-none l)

  -- at the end the cone
  pub reached_all : (walk : List (LogicCell ℕ)) → IsWalk c.cells walk → (found : List ℕ) (next : ℕ) → length found ≤ next → IsReached c roots next found → (y : ℕ) → is_in found y ≡ is_in (cone_of walk roots) y
  reached_all walk walks found next past r y =
      let cone = cone_is c.cells walk walks roots y in
      same_truth (is_in found y) (is_in (cone_of walk roots) y) (λ among. cone.1 (r.only y among)) (λ among. let way = cone.0 among in back y way.root way.reaches (r.starts way.root way.among))
    where
      take_past : (n : ℕ) (xs : List ℕ) → length xs ≤ n → take n xs ≡ xs
      take_past zero [] h = refl
      take_past zero (x ∷ xs) h = absurd (omega arith)
      take_past (suc n) [] h = refl
      take_past (suc n) (x ∷ xs) h = ap (λ l. x ∷ l) (take_past n xs (omega arith))

      back : (z x : ℕ) → Reaches c.cells z x → is_in found x ≡ true → is_in found z ≡ true
      back z x here among = among
      back z x (through k cell w at input way) among = back z w way (r.closed k cell at (subst (λ l. is_in l cell.output ≡ true) (sym (take_past next found past)) among) w input)

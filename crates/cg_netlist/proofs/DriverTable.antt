-- The table of what drives each net, as it is filled in.
use Rattle.std.proofs.Common.{◌≡◌, ℕ, zero, suc, ◌+◌, ◌<◌, ◌≤◌, Bool, true, false, List, ◌∷◌, ◌++◌, drop, length, map, nat_eq}
use Rattle.std.proofs.Common.{replicate, set, slice_get, Some, refl, sym, ◌∙◌, ap, subst, inl, inr, arith, add-one, drop-cons}
use Rattle.std.proofs.Common.{append_assoc}
use Rattle.std.specs.List.{flat_map}
use Rattle.std.specs.Option.{option_to_list}
use Rattle.std.proofs.lemmas.Bool.{both_ways, or_from}
use Rattle.std.proofs.lemmas.List.{drop_all, length-replicate, length-set}
use Rattle.std.proofs.lemmas.Option.{get_or_from_slice_get, none-some, same_Some, slice_get_within}
use Rattle.cg_netlist.specs.Circuit.{Circuit, GatingCell, LogicCell, RegisterCell, cell_nets, data_inputs, gater_outputs, given_nets}
use Rattle.cg_net.specs.NetSets.{is_in}
use Rattle.cg_netlist.specs.Circuit.{register_nets, shown_nets}
use Rattle.cg_netlist.specs.Drivers.{IsDriver}
use Rattle.cg_netlist.specs.WellFormed.{IsDriven}
use Rattle.cg_netlist.specs.declared.driver.Driver.{Driver}
use Rattle.cg_netlist.specs.declared.driver.Driver.TheVariants.{Input, Cell, Gater, Register}
use Rattle.cg_netlist.specs.inner.Driving.{IsTold, all_but_inputs, behind_cells, behind_gaters, behind_registers}
use Rattle.cg_netlist.proofs.Given.{driver_within, gater_given, given_driver, register_given}
use Rattle.cg_net.proofs.Members.{is_in_cases, is_in_left, is_in_right, member_at}
use Rattle.cg_netlist.proofs.NetsOf.{other_eqb}
use Rattle.cg_net.proofs.TableLemmas.{set_cases}
use Rattle.cg_netlist.proofs.Used.{in_flat}
use Rattle.cg_netlist.proofs.Values.{at_map}

-- one net is told
pub listed_next : (c : Circuit) (x : ℕ) (left : List ℕ) (table : List Driver) (d : Driver) → IsTold c (x ∷ left) table → IsDriver c x d → IsTold c left (set table x d)
listed_next c x left table d told is = record {
  long = length-set table x d ∙ told.long;
  right = λ net e at out. elim (set_cases table x net d e at) [
    | inl here ↦ subst (λ n. IsDriver c n e) (sym here.0) (subst (IsDriver c x) (sym here.1) is)
    | inr there ↦ told.right net e there.1 (or_from (nat_eq net x) (is_in left net) (other_eqb net x there.0) out)
  ];
}

-- what is left from a place on, for any list of parts with an output net each
pub left_at : {X : Type 0} (net_of : X → ℕ) (xs : List X) (rest : List ℕ) (k : ℕ) (x : X) → slice_get xs k ≡ Some x → map net_of (drop k xs) ++ rest ≡ net_of x ∷ (map net_of (drop (k + 1) xs) ++ rest)
left_at net_of xs rest k x at =
    let one : suc k ≡ k + 1 = sym (add-one k) in
    ap (λ ys. map net_of ys ++ rest) (drop-cons xs k x (slice_get_within xs k x at))
    ∙ (ap (λ y. net_of y ∷ (map net_of (drop (suc k) xs) ++ rest)) (get_or_from_slice_get xs k x x at) ∙ ap (λ n. net_of x ∷ (map net_of (drop n xs) ++ rest)) one)

pub none_left : {X : Type 0} (net_of : X → ℕ) (xs : List X) (rest : List ℕ) (n : ℕ) → length xs ≤ n → map net_of (drop n xs) ++ rest ≡ rest
none_left net_of xs rest n past = ap (λ ys. map net_of ys ++ rest) (drop_all n xs past)

pub registers_left : (rs : List (RegisterCell ℕ ℕ)) (rest : List ℕ) (k : ℕ) (r : RegisterCell ℕ ℕ) → slice_get rs k ≡ Some r → flat_map shown_nets (drop k rs) ++ rest ≡ shown_nets r ++ (flat_map shown_nets (drop (k + 1) rs) ++ rest)
registers_left rs rest k r at =
    let one : suc k ≡ k + 1 = sym (add-one k) in
    ap (λ ys. flat_map shown_nets ys ++ rest) (drop-cons rs k r (slice_get_within rs k r at))
    ∙ (ap (λ y. shown_nets y ++ flat_map shown_nets (drop (suc k) rs) ++ rest) (get_or_from_slice_get rs k r r at)
    ∙ (ap (λ n. shown_nets r ++ flat_map shown_nets (drop n rs) ++ rest) one ∙ append_assoc (shown_nets r) (flat_map shown_nets (drop (k + 1) rs)) rest))

pub no_registers_left : (rs : List (RegisterCell ℕ ℕ)) (rest : List ℕ) (n : ℕ) → length rs ≤ n → flat_map shown_nets (drop n rs) ++ rest ≡ rest
no_registers_left rs rest n past = ap (λ ys. flat_map shown_nets ys ++ rest) (drop_all n rs past)

-- a table of data inputs alone
same_driver : (n net : ℕ) (d e : Driver) → slice_get (replicate n d) net ≡ Some e → d ≡ e
same_driver zero net d e at = absurd (none-some e at)
same_driver (suc n) zero d e at = same_Some d e at
same_driver (suc n) (suc net) d e at = same_driver n net d e at

pub listed_first : (c : Circuit) → IsDriven c → IsTold c (all_but_inputs c) (replicate (length c.names) Input)
listed_first c driven = record {
  long = length-replicate (length c.names) Input;
  right = λ net d at out.
      let below : net < length c.names = omega (arith, slice_get_within (replicate (length c.names) Input) net d at, length-replicate (length c.names) Input) in
      subst (IsDriver c net) (same_driver (length c.names) net Input d at) (input net out (driven.driven net below));
}
  where
    apart : {A : Type 0} (net : ℕ) → is_in (all_but_inputs c) net ≡ false → is_in (all_but_inputs c) net ≡ true → A
    apart net out among = absurd (both_ways (is_in (all_but_inputs c) net) out among)

    input : (net : ℕ) → is_in (all_but_inputs c) net ≡ false → is_in (Rattle.cg_netlist.specs.Circuit.drivers c) net ≡ true → is_in (data_inputs c) net ≡ true
    input net out among = elim (is_in_cases (given_nets c) (cell_nets c) net among) [
      | inr cell ↦ apart net out (is_in_left (cell_nets c) (behind_cells c) net cell)
      | inl given ↦ elim (is_in_cases (data_inputs c ++ option_to_list c.clock ++ gater_outputs c) (register_nets c) net given) [
        | inr register ↦ apart net out (is_in_right (cell_nets c) (behind_cells c) net (is_in_right (gater_outputs c) (behind_gaters c) net (is_in_left (register_nets c) (behind_registers c) net register)))
        | inl more ↦ elim (is_in_cases (data_inputs c ++ option_to_list c.clock) (gater_outputs c) net more) [
          | inr gate ↦ apart net out (is_in_right (cell_nets c) (behind_cells c) net (is_in_left (gater_outputs c) (behind_gaters c) net gate))
          | inl first ↦ elim (is_in_cases (data_inputs c) (option_to_list c.clock) net first) [
            | inr clock ↦ apart net out (is_in_right (cell_nets c) (behind_cells c) net (is_in_right (gater_outputs c) (behind_gaters c) net (is_in_right (register_nets c) (behind_registers c) net clock)))
            | inl data_net ↦ data_net
          ]
        ]
      ]
    ]

pub cell_listed : (c : Circuit) (k : ℕ) (cell : LogicCell ℕ) (table : List Driver) → slice_get c.cells k ≡ Some cell → IsTold c (map (λ (x : LogicCell ℕ). x.output) (drop k c.cells) ++ behind_cells c) table
    → IsTold c (map (λ (x : LogicCell ℕ). x.output) (drop (k + 1) c.cells) ++ behind_cells c) (set table cell.output (Cell k))
cell_listed c k cell table at told = listed_next c cell.output (map (λ (x : LogicCell ℕ). x.output) (drop (k + 1) c.cells) ++ behind_cells c) table (Cell k)
    (subst (λ left. IsTold c left table) (left_at (λ (x : LogicCell ℕ). x.output) c.cells (behind_cells c) k cell at) told) (cell, at, refl)

pub gater_listed : (c : Circuit) (k : ℕ) (gater : GatingCell ℕ) (table : List Driver) → slice_get c.gaters k ≡ Some gater → IsTold c (map (λ (x : GatingCell ℕ). x.output) (drop k c.gaters) ++ behind_gaters c) table
    → IsTold c (map (λ (x : GatingCell ℕ). x.output) (drop (k + 1) c.gaters) ++ behind_gaters c) (set table gater.output (Gater k))
gater_listed c k gater table at told = listed_next c gater.output (map (λ (x : GatingCell ℕ). x.output) (drop (k + 1) c.gaters) ++ behind_gaters c) table (Gater k)
    (subst (λ left. IsTold c left table) (left_at (λ (x : GatingCell ℕ). x.output) c.gaters (behind_gaters c) k gater at) told) (gater, at, refl)

pub register_listed : (c : Circuit) (r : ℕ) (register : RegisterCell ℕ ℕ) (place net : ℕ) (inverted : Bool) (rest : List ℕ) (table : List Driver) → slice_get c.registers r ≡ Some register → slice_get register.outputs place ≡ Some (net, inverted)
    → IsTold c (map (λ (o : ℕ × Bool). o.0) (drop place register.outputs) ++ rest) table → IsTold c (map (λ (o : ℕ × Bool). o.0) (drop (place + 1) register.outputs) ++ rest) (set table net (Register r inverted))
register_listed c r register place net inverted rest table at shown told = listed_next c net (map (λ (o : ℕ × Bool). o.0) (drop (place + 1) register.outputs) ++ rest) table (Register r inverted)
    (subst (λ left. IsTold c left table) (left_at (λ (o : ℕ × Bool). o.0) register.outputs rest place (net, inverted) shown) told) (register, place, at, shown)

-- the outputs of parts are nets
pub cell_net_within : (c : Circuit) → IsDriven c → (k : ℕ) (cell : LogicCell ℕ) → slice_get c.cells k ≡ Some cell → cell.output < length c.names
cell_net_within c driven k cell at = driver_within c driven cell.output (is_in_right (given_nets c) (cell_nets c) cell.output (member_at (cell_nets c) k cell.output (at_map (λ (x : LogicCell ℕ). x.output) c.cells k cell at)))

pub gater_net_within : (c : Circuit) → IsDriven c → (k : ℕ) (gater : GatingCell ℕ) → slice_get c.gaters k ≡ Some gater → gater.output < length c.names
gater_net_within c driven k gater at = driver_within c driven gater.output (given_driver c gater.output (gater_given c gater.output (member_at (gater_outputs c) k gater.output (at_map (λ (x : GatingCell ℕ). x.output) c.gaters k gater at))))

pub register_net_within : (c : Circuit) → IsDriven c → (r : ℕ) (register : RegisterCell ℕ ℕ) (place net : ℕ) (inverted : Bool) → slice_get c.registers r ≡ Some register → slice_get register.outputs place ≡ Some (net, inverted) → net < length c.names
register_net_within c driven r register place net inverted at shown =
    driver_within c driven net (given_driver c net (register_given c net (in_flat shown_nets c.registers r register net at (member_at (shown_nets register) place net (at_map (λ (o : ℕ × Bool). o.0) register.outputs place (net, inverted) shown)))))

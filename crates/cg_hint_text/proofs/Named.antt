-- The nets and the registers that words name.
use Rattle.std.proofs.Common.{◌≡◌, ℕ, zero, suc, Bool, true, false, if◌then◌else◌, List, [], ◌∷◌, ◌++◌, map, nat_eq, slice_get, Option}
use Rattle.std.proofs.Common.{None, Some, refl, sym, ◌∙◌, ap, subst}
use Rattle.std.specs.List.{IsDistinct, flat_map}
use Rattle.std.specs.Option.{option_and_then, option_map, option_map_or, option_to_list}
use Rattle.std.proofs.lemmas.Bool.{both_ways, eq-eqb, eqb-true, false_from_ne_true, or_from, or_left, or_right}
use Rattle.cg_net.specs.Names.{is_known, name_place}
use Rattle.cg_net.specs.NetSets.{is_in}
use Rattle.cg_net.proofs.Members.{distinct_apart, distinct_left, distinct_right, is_in_left, is_in_right, member_at}
use Rattle.cg_netlist.specs.Circuit.{Circuit, GatingCell, LogicCell, RegisterCell, cell_nets, data_inputs, gater_outputs, register_nets, shown_nets}
use Rattle.cg_netlist.specs.Drivers.{IsDriver}
use Rattle.cg_netlist.specs.Netlist.{IsNetlist}
use Rattle.cg_netlist.specs.declared.driver.Driver.{Driver}
use Rattle.cg_netlist.specs.declared.driver.Driver.TheVariants.{Cell, Clock, Gater, Input, Register}
use Rattle.cg_netlist.proofs.Given.{distinct_given, from_option, given_no_cell, register_given}
use Rattle.cg_netlist.proofs.Used.{in_flat}
use Rattle.cg_netlist.proofs.Values.{at_map}
use Rattle.cg_netlist_parts.proofs.NamePlaces.{number_is}
use Rattle.cg_hint_text.specs.Reading.{first_showing, net_place, shows_first, unless_clock}
use Rattle.cg_hint_text.specs.inner.Drivers.{named_register, ungated}

-- a name that is found
pub place_is : (c : Circuit) (good : IsNetlist c) (name : List ℕ) (net : ℕ) → is_known c.names name ≡ true → slice_get c.names net ≡ Some name → net_place c name ≡ Some net
place_is c good name net known at =
    ap (λ b. if b then Some (name_place c.names name) else None) known ∙ ap (λ k. Some k) (number_is c.names net name good.well_formed.different at)

pub no_place : (c : Circuit) (name : List ℕ) → is_known c.names name ≡ false → net_place c name ≡ None
no_place c name none = ap (λ b. if b then Some (name_place c.names name) else None) none

-- what drives a net tells whether it is the clock or a gated one
module _ (c : Circuit) (good : IsNetlist c) where
  abbrev sources : List ℕ
  sources = data_inputs c ++ option_to_list c.clock

  distinct : IsDistinct nat_eq ((sources ++ gater_outputs c) ++ register_nets c)
  distinct = distinct_given c good.well_formed.driven

  pub free : (net : ℕ) → is_in (option_to_list c.clock) net ≡ false → is_in (gater_outputs c) net ≡ false → unless_clock c net ≡ Some net
  free net clock ungated = ap (λ b. if b then None else Some net) (or_from (is_in (option_to_list c.clock) net) (is_in (gater_outputs c) net) clock ungated)

  no_front : (net : ℕ) → (is_in (sources ++ gater_outputs c) net ≡ true → ⊥) → unless_clock c net ≡ Some net
  no_front net out = free net
      (false_from_ne_true (is_in (option_to_list c.clock) net) (λ among. out (is_in_left sources (gater_outputs c) net (is_in_right (data_inputs c) (option_to_list c.clock) net among))))
      (false_from_ne_true (is_in (gater_outputs c) net) (λ among. out (is_in_right sources (gater_outputs c) net among)))

  pub net_driven : (d : Driver) (net : ℕ) → IsDriver c net d → unless_clock c net ≡ ungated d net
  net_driven Clock net is = ap (λ b. if b then None else Some net) (or_left (is_in (option_to_list c.clock) net) (is_in (gater_outputs c) net) (from_option c.clock net is))
  net_driven (Gater k) net is =
      ap (λ b. if b then None else Some net) (or_right (is_in (option_to_list c.clock) net) (is_in (gater_outputs c) net)
      (member_at (gater_outputs c) k net (at_map (λ (gater : GatingCell ℕ). gater.output) c.gaters k is.0 is.1 ∙ ap Some is.2)))
  net_driven Input net is =
      let three = distinct_left (sources ++ gater_outputs c) (register_nets c) distinct in
      free net (distinct_apart (data_inputs c) (option_to_list c.clock) (distinct_left sources (gater_outputs c) three) net is)
      (distinct_apart sources (gater_outputs c) three net (is_in_left (data_inputs c) (option_to_list c.clock) net is))
  net_driven (Cell k) net is =
      let cell : is_in (cell_nets c) net ≡ true = member_at (cell_nets c) k net (at_map (λ (cell : LogicCell ℕ). cell.output) c.cells k is.0 is.1 ∙ ap Some is.2) in
      no_front net (λ among. both_ways (is_in (cell_nets c) net) (given_no_cell c good.well_formed.driven net (is_in_left (sources ++ gater_outputs c) (register_nets c) net among)) cell)
  net_driven (Register r inverted) net is =
      let here : is_in (shown_nets is.0) net ≡ true = member_at (shown_nets is.0) is.1 net (at_map (λ (o : ℕ × Bool). o.0) is.0.outputs is.1 (net, inverted) is.3) in
      let shown : is_in (register_nets c) net ≡ true = in_flat shown_nets c.registers r is.0 net is.2 here in
      no_front net (λ among. both_ways (is_in (register_nets c) net) (distinct_apart (sources ++ gater_outputs c) (register_nets c) distinct net among) shown)

  -- and which register it names
  pub shows_in : (net : ℕ) (r : RegisterCell ℕ ℕ) → shows_first net r ≡ true → is_in (shown_nets r) net ≡ true
  shows_in net r = go r.outputs
    where
      go : (outs : List (ℕ × Bool)) → option_map_or (λ (o : ℕ × Bool). nat_eq o.0 net) (slice_get outs 0) false ≡ true → is_in (map (λ o. o.0) outs) net ≡ true
      go [] shows = absurd (both_ways false refl shows)
      go (o ∷ outs) shows = or_left (nat_eq net o.0) (is_in (map (λ (p : ℕ × Bool). p.0) outs) net) (eq-eqb net o.0 (sym (eqb-true o.0 net shows)))

  none_showing : (net : ℕ) (rs : List (RegisterCell ℕ ℕ)) → is_in (flat_map shown_nets rs) net ≡ false → first_showing net rs ≡ None
  none_showing net [] out = refl
  none_showing net (r ∷ rs) out =
      let head : shows_first net r ≡ false = false_from_ne_true (shows_first net r) (λ shows. both_ways (is_in (flat_map shown_nets (r ∷ rs)) net) out (is_in_left (shown_nets r) (flat_map shown_nets rs) net (shows_in net r shows))) in
      let tail : is_in (flat_map shown_nets rs) net ≡ false = false_from_ne_true (is_in (flat_map shown_nets rs) net) (λ among. both_ways (is_in (flat_map shown_nets (r ∷ rs)) net) out (is_in_right (shown_nets r) (flat_map shown_nets rs) net among)) in
      ap (λ b. if b then Some 0 else option_map suc (first_showing net rs)) head ∙ ap (option_map suc) (none_showing net rs tail)

  abbrev if_first : ℕ → ℕ → RegisterCell ℕ ℕ → Option ℕ
  if_first net r cell = if shows_first net cell then Some r else None

  pub first_is : (net : ℕ) (rs : List (RegisterCell ℕ ℕ)) (r : ℕ) (cell : RegisterCell ℕ ℕ) → IsDistinct nat_eq (flat_map shown_nets rs) → slice_get rs r ≡ Some cell
      → is_in (shown_nets cell) net ≡ true → first_showing net rs ≡ if_first net r cell
  first_is net [] r cell apart at shows = absurd (cc)
  first_is net (x ∷ rs) zero cell apart at shows =
      let same : x ≡ cell = cc in
      let none = none_showing net rs (distinct_apart (shown_nets x) (flat_map shown_nets rs) apart net (subst (λ (z : RegisterCell ℕ ℕ). is_in (shown_nets z) net ≡ true) (sym same) shows)) in
      ap (λ o. if shows_first net x then Some 0 else option_map suc o) none ∙ ap (if_first net 0) same
  first_is net (x ∷ rs) (suc r) cell apart at shows =
      let later : is_in (flat_map shown_nets rs) net ≡ true = in_flat shown_nets rs r cell net at shows in
      let head : shows_first net x ≡ false = false_from_ne_true (shows_first net x) (λ is. both_ways (is_in (flat_map shown_nets rs) net) (distinct_apart (shown_nets x) (flat_map shown_nets rs) apart net (shows_in net x is)) later) in
      ap (λ b. if b then Some 0 else option_map suc (first_showing net rs)) head
      ∙ (ap (option_map suc) (first_is net rs r cell (distinct_right (shown_nets x) (flat_map shown_nets rs) apart) at shows)
      ∙ go (shows_first net cell))
    where
      go : (b : Bool) → option_map suc (if b then Some r else None) ≡ (if b then Some (suc r) else None)
      go true = refl
      go false = refl

  pub apart_registers : IsDistinct nat_eq (flat_map shown_nets c.registers)
  apart_registers = distinct_right (sources ++ gater_outputs c) (register_nets c) distinct

  front_none : (net : ℕ) → is_in (sources ++ gater_outputs c) net ≡ true → first_showing net c.registers ≡ None
  front_none net among = none_showing net c.registers (distinct_apart (sources ++ gater_outputs c) (register_nets c) distinct net among)

  pub register_driven : (d : Driver) (net : ℕ) → IsDriver c net d → first_showing net c.registers ≡ named_register c d net
  register_driven Input net is = front_none net (is_in_left sources (gater_outputs c) net (is_in_left (data_inputs c) (option_to_list c.clock) net is))
  register_driven Clock net is = front_none net (is_in_left sources (gater_outputs c) net (is_in_right (data_inputs c) (option_to_list c.clock) net (from_option c.clock net is)))
  register_driven (Gater k) net is =
      front_none net (is_in_right sources (gater_outputs c) net (member_at (gater_outputs c) k net (at_map (λ (gater : GatingCell ℕ). gater.output) c.gaters k is.0 is.1 ∙ ap Some is.2)))
  register_driven (Cell k) net is =
      let cell : is_in (cell_nets c) net ≡ true = member_at (cell_nets c) k net (at_map (λ (cell : LogicCell ℕ). cell.output) c.cells k is.0 is.1 ∙ ap Some is.2) in
      none_showing net c.registers (false_from_ne_true (is_in (register_nets c) net) (λ among. both_ways (is_in (cell_nets c) net) (given_no_cell c good.well_formed.driven net (register_given c net among)) cell))
  register_driven (Register r inverted) net is =
      let here : is_in (shown_nets is.0) net ≡ true = member_at (shown_nets is.0) is.1 net (at_map (λ (o : ℕ × Bool). o.0) is.0.outputs is.1 (net, inverted) is.3) in
      first_is net c.registers r is.0 apart_registers is.2 here
      ∙ sym (ap (option_and_then (λ cell. if shows_first net cell then Some r else None)) is.2)

-- The register that shows its bit at a net, and not the inverse, is what drives the net.
use Rattle.std.proofs.Common.{◌≡◌, ℕ, zero, suc, ◌-◌, ◌<◌, ◌≤◌, ◌⊎◌, is_some, Bool, true, false, not, ◌&&◌, cond, if◌then◌else◌}
use Rattle.std.proofs.Common.{List, [], ◌∷◌, length, map, take, nat_eq, nat_lt, slice_get, option_map, Option, Some, None, refl}
use Rattle.std.proofs.Common.{sym, ◌∙◌, ap, subst, arith, inl, inr}
use Rattle.std.specs.List.{filter}
use Rattle.std.specs.Option.{option_map_or}
use Rattle.std.proofs.lemmas.Bool.{and_parts, both_ways, eqb-true, eq-eqb, false_from_ne_true, lt-ltb, ltb-true, or_cases, or_left}
use Rattle.std.proofs.lemmas.Bool.{or_right}
use Rattle.std.proofs.lemmas.List.{length-take-le}
use Rattle.std.proofs.lemmas.Option.{none-some, same_Some, slice_get_within}
use Rattle.cg_netlist.specs.Circuit.{RegisterCell}
use Rattle.cg_net.specs.NetSets.{is_in}
use Rattle.cg_netlist.specs.Drivers.{IsDriver}
use Rattle.cg_netlist.specs.WellFormed.{IsDriven}
use Rattle.cg_netlist.specs.declared.driver.Driver.{Driver}
use Rattle.cg_netlist.specs.declared.driver.Driver.TheVariants.{Input, Clock, Cell, Gater, Register}
use Rattle.cg_netlist.proofs.DriverTable.{register_net_within}
use Rattle.cg_machine.specs.Added.{added_place, own_netlist, own_nets}
use Rattle.cg_machine.specs.Machine.{IsMachine, MachineData}
use Rattle.cg_machine.proofs.Lists.{take_get}
use Rattle.cg_claim.proofs.DriversTell.{driven_value, driver_tells}
use Rattle.cg_stage_list_laws.specs.UnseenList.{plain_outputs}
use Rattle.cg_odc.specs.inner.Guarding.{is_plain, shows_plain}
use Rattle.cg_stage_groups.proofs.Driving.{lifted}
use Rattle.std.specs.Cmp.{both_ways as same_truth}

-- an output that is not inverted, by its place
plain_place : (outs : List (ℕ × Bool)) (y : ℕ) → is_in (map (λ o. o.0) (filter (λ o. not o.1) outs)) y ≡ true → (place : ℕ) × (slice_get outs place ≡ Some (y, false))
plain_place [] y among = absurd (both_ways false refl among)
plain_place (o ∷ outs) y among = go o.1 refl among (plain_place outs y)
  where
    go : (b : Bool) → o.1 ≡ b → is_in (map (λ p. p.0) (cond (not b) (o ∷ filter (λ p. not p.1) outs) (filter (λ p. not p.1) outs))) y ≡ true
        → (is_in (map (λ p. p.0) (filter (λ p. not p.1) outs)) y ≡ true → (place : ℕ) × (slice_get outs place ≡ Some (y, false))) → (place : ℕ) × (slice_get (o ∷ outs) place ≡ Some (y, false))
    go true is h rest = let r = rest h in (suc r.0, r.1)
    go false is h rest = elim (or_cases (nat_eq y o.0) (is_in (map (λ p. p.0) (filter (λ p. not p.1) outs)) y) h) [
      | inl same ↦ (zero, ap Some (ap (λ z. (z, o.1)) (sym (eqb-true y o.0 same)) ∙ ap (λ b. (y, b)) is))
      | inr later ↦ let r = rest later in (suc r.0, r.1)
    ]

place_plain : (outs : List (ℕ × Bool)) (y place : ℕ) → slice_get outs place ≡ Some (y, false) → is_in (map (λ o. o.0) (filter (λ o. not o.1) outs)) y ≡ true
place_plain [] y place at = absurd (none-some (y, false) at)
place_plain (o ∷ outs) y zero at =
    let same : o ≡ (y, false) = same_Some o (y, false) at in
    subst (λ (p : ℕ × Bool). is_in (map (λ q. q.0) (cond (not p.1) (p ∷ filter (λ q. not q.1) outs) (filter (λ q. not q.1) outs))) y ≡ true) (sym same)
    (or_left (nat_eq y y) (is_in (map (λ q. q.0) (filter (λ q. not q.1) outs)) y) (eq-eqb y y refl))
place_plain (o ∷ outs) y (suc place) at = go (not o.1) (place_plain outs y place at)
  where
    go : (b : Bool) → is_in (map (λ q. q.0) (filter (λ q. not q.1) outs)) y ≡ true → is_in (map (λ q. q.0) (cond b (o ∷ filter (λ q. not q.1) outs) (filter (λ q. not q.1) outs))) y ≡ true
    go true h = or_right (nat_eq y o.0) (is_in (map (λ q. q.0) (filter (λ q. not q.1) outs)) y) h
    go false h = h

module _ (m : MachineData) (good : IsMachine m) where
  -- what a register of the netlist shows plain, it drives
  record Shows (k y : ℕ) : Type 0 where
    cell : RegisterCell ℕ ℕ
    place : ℕ
    own : k < m.own_registers
    at : slice_get m.circuit.registers k ≡ Some cell
    out : slice_get cell.outputs place ≡ Some (y, false)

  shows_is : (k y : ℕ) → shows_plain m k y ≡ true → Shows k y
  shows_is k y shows =
      let p = and_parts (nat_lt k m.own_registers) (is_in (option_map_or plain_outputs (slice_get m.circuit.registers k) []) y) shows in
      go (slice_get m.circuit.registers k) refl p.1 (ltb-true k m.own_registers p.0)
    where
      go : (o : Option (RegisterCell ℕ ℕ)) → slice_get m.circuit.registers k ≡ o → is_in (option_map_or plain_outputs o []) y ≡ true → k < m.own_registers → Shows k y
      go None at among own = absurd (both_ways false refl among)
      go (Some c) at among own = let p = plain_place c.outputs y among in record { cell = c; place = p.0; own = own; at = at; out = p.1 }

  -- whose bit stands at a net, and whether inverted
  abbrev whose : Driver → ℕ → Option (Option (ℕ × Bool))
  whose d y = driven_value (λ o. option_map (λ p. option_map (λ q. (q.0, true)) p) o) None (λ z. Some None) (λ r. Some (Some (r, false))) y d

  one_source : (y : ℕ) (d e : Driver) → IsDriver m.circuit y d → IsDriver m.circuit y e → whose d y ≡ whose e y
  one_source y d e is other =
      sym (driver_tells m.circuit good.well_formed.driven (λ o. option_map (λ p. option_map (λ q. (q.0, true)) p) o) None (λ z. Some None) (λ r. Some (Some (r, false))) y d is)
      ∙ driver_tells m.circuit good.well_formed.driven (λ o. option_map (λ p. option_map (λ q. (q.0, true)) p) o) None (λ z. Some None) (λ r. Some (Some (r, false))) y e other

  -- the net's driver tells
  pub plain_driver : (k y : ℕ) (d : Driver) → IsDriver (own_netlist m) y d → shows_plain m k y ≡ is_plain d k
  plain_driver k y d is = same_truth (shows_plain m k y) (is_plain d k) (λ shows. there (shows_is k y shows) d is) (λ plain. back d plain is)
    where
      there : Shows k y → (e : Driver) → IsDriver (own_netlist m) y e → is_plain e k ≡ true
      there s e at = go e (one_source y (Register k false) e (s.cell, s.place, s.at, s.out) (lifted m good y e at))
        where
          go : (f : Driver) → Some (Some (k, false)) ≡ whose f y → is_plain f k ≡ true
          go Input same = absurd (none-some (k, false) (sym (same_Some (Some (k, false)) None same)))
          go Clock same = absurd (none-some (Some (k, false)) (sym same))
          go (Cell j) same = absurd (none-some (Some (k, false)) (sym same))
          go (Gater j) same = absurd (none-some (Some (k, false)) (sym same))
          go (Register r true) same = let e = ap (λ (p : ℕ × Bool). p.1) (same_Some (k, false) (r, true) (same_Some (Some (k, false)) (Some (r, true)) same)) in absurd (both_ways false refl e)
          go (Register r false) same = eq-eqb k r (ap (λ (p : ℕ × Bool). p.0) (same_Some (k, false) (r, false) (same_Some (Some (k, false)) (Some (r, false)) same)))

      back : (e : Driver) → is_plain e k ≡ true → IsDriver (own_netlist m) y e → shows_plain m k y ≡ true
      back Input plain at = absurd (both_ways false refl plain)
      back Clock plain at = absurd (both_ways false refl plain)
      back (Cell j) plain at = absurd (both_ways false refl plain)
      back (Gater j) plain at = absurd (both_ways false refl plain)
      back (Register r true) plain at = absurd (both_ways false refl plain)
      back (Register r false) plain at =
          let e : k ≡ r = eqb-true k r plain in
          let up = lifted m good y (Register r false) at in
          let within = slice_get_within (own_netlist m).registers r at.0 at.2 in
          let few = length-take-le m.own_registers m.circuit.registers good.own_registers in
          let own : r < m.own_registers = omega (arith, within, few) in
          subst (λ z. shows_plain m z y ≡ true) (sym e)
          (ap (λ b. b && is_in (option_map_or plain_outputs (slice_get m.circuit.registers r) []) y) (lt-ltb r m.own_registers own)
          ∙ (ap (λ o. is_in (option_map_or plain_outputs o []) y) up.2 ∙ place_plain up.0.outputs y up.1 up.3))

  -- no register of the netlist shows its bit at an added net
  pub plain_added : IsDriven (own_netlist m) → (k y : ℕ) → own_nets m ≤ y → shows_plain m k y ≡ false
  plain_added driven k y past = false_from_ne_true (shows_plain m k y) (λ shows.
      let s = shows_is k y shows in
      let at : slice_get (own_netlist m).registers k ≡ Some s.cell = take_get m.own_registers m.circuit.registers k s.own ∙ s.at in
      let within = register_net_within (own_netlist m) driven k s.cell s.place y false at s.out in
      let few : length (own_netlist m).names ≤ own_nets m = short (own_nets m) m.circuit.names in
      omega (arith, within, few, past))
    where
      short : {X : Type 0} (n : ℕ) (xs : List X) → length (take n xs) ≤ n
      short zero [] = omega arith
      short zero (x ∷ xs) = omega arith
      short (suc n) [] = omega arith
      short (suc n) (x ∷ xs) = let h = short n xs in omega (arith, h)

-- a net that was added, and one that was not
pub place_added : (m : MachineData) (y : ℕ) → is_some (added_place m y) ≡ true → own_nets m ≤ y
place_added m y added = go (nat_lt y (own_nets m)) refl added
  where
    go : (b : Bool) → nat_lt y (own_nets m) ≡ b → is_some (if b then None else Some (y - own_nets m)) ≡ true → own_nets m ≤ y
    go true below h = absurd (both_ways false refl h)
    go false below h = lt-past y (own_nets m) below
      where
        lt-past : (a n : ℕ) → nat_lt a n ≡ false → n ≤ a
        lt-past a n past = elim (le-or-lt n a) [ inl h ↦ h | inr h ↦ absurd (both_ways (nat_lt a n) past (lt-ltb a n h)) ]
          where
            le-or-lt : (x z : ℕ) → (x ≤ z) ⊎ (z < x)
            le-or-lt zero z = inl (omega arith)
            le-or-lt (suc x) zero = inr (omega arith)
            le-or-lt (suc x) (suc z) = elim (le-or-lt x z) [ inl h ↦ inl (omega arith) | inr h ↦ inr (omega arith) ]

pub place_own : (m : MachineData) → IsMachine m → (y : ℕ) → is_some (added_place m y) ≡ false → y < length (own_netlist m).names
place_own m good y own = go (nat_lt y (own_nets m)) refl own
  where
    go : (b : Bool) → nat_lt y (own_nets m) ≡ b → is_some (if b then None else Some (y - own_nets m)) ≡ false → y < length (own_netlist m).names
    go false past h = absurd (both_ways true h refl)
    go true below h =
        let few = length-take-le (own_nets m) m.circuit.names (omega arith) in
        let less = ltb-true y (own_nets m) below in
        omega (arith, few, less)

pub shows_own : (m : MachineData) (q y : ℕ) → shows_plain m q y ≡ true → q < m.own_registers
shows_own m q y shows = ltb-true q m.own_registers (and_parts (nat_lt q m.own_registers) (is_in (option_map_or plain_outputs (slice_get m.circuit.registers q) []) y) shows).0

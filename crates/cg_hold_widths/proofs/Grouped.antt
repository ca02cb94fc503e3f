-- What the masks of a group count is how wide the hold claims of each register of it are.
use Rattle.std.proofs.Common.{◌≡◌, ℕ, ◌+◌, ◌<◌, Bool, true, false, cond, ◌&&◌, if◌then◌else◌, List, [], ◌∷◌, ◌++◌, length, slice_get}
use Rattle.std.proofs.Common.{Option, Some, None, refl, sym, ap, ◌∙◌, arith, subst, inl, inr}
use Rattle.std.specs.List.{All, cons_option, count_by, filter, flat_map, list_any}
use Rattle.std.specs.Option.{option_map_or}
use Rattle.std.proofs.lemmas.Bool.{both_ways, or_cases}
use Rattle.cg_claim.specs.Reach.{feeds, next_nets, registers_of}
use Rattle.cg_machine.specs.Machine.{IsMachine, MachineData, order_of, walk_of}
use Rattle.cg_net.specs.NetSets.{is_in}
use Rattle.cg_net.proofs.Members.{is_in_left}
use Rattle.cg_netlist.specs.Circuit.{LogicCell, RegisterCell, data_inputs, shown_nets}
use Rattle.cg_netlist.specs.Moment.{values_at}
use Rattle.cg_netlist.proofs.Used.{in_flat}
use Rattle.cg_netlist_cone.specs.Cone.{IsInCone, cone_at, cone_of, register_feeds}
use Rattle.cg_netlist_cone.specs.declared.cone.Cone.{Cone}
use Rattle.cg_netlist_cone.proofs.Cones.{cone_is}
use Rattle.cg_claim_reach.proofs.ConesFound.{found_cone}
use Rattle.cg_claim_reach.proofs.RootsThere.{AreThere, all_there, both_there, next_there, none_there, registers_there}
use Rattle.cg_stage_list_laws.specs.HoldList.{hold_width}
use Rattle.cg_hold_widths.specs.inner.Marked.{leaf_count, net_has, next_nets_at, own_count, register_has}
use Rattle.cg_hold_widths.specs.inner.Masks.{AreMasks}
use Rattle.cg_hold_widths.proofs.Counted.{any_same, count_filtered, with_one}
use Rattle.cg_hold_widths.proofs.Held.{width_is}

-- a cone without cells whose outputs are not in it
skipped : (cells : List (LogicCell ℕ)) (whole nets : List ℕ) (ids : List ℕ) → ((y : ℕ) → is_in (cone_of (values_at cells ids) nets) y ≡ true → is_in whole y ≡ true)
    → cone_of (values_at cells (filter (λ k. option_map_or (λ cell. is_in whole cell.output) (slice_get cells k) false) ids)) nets ≡ cone_of (values_at cells ids) nets
skipped cells whole nets [] within = refl
skipped cells whole nets (k ∷ ids) within =
    go (filter (λ k. option_map_or (λ cell. is_in whole cell.output) (slice_get cells k) false) ids) (values_at cells ids) (skipped cells whole nets ids) (slice_get cells k) refl within
  where
    go : (kept : List ℕ) (walk : List (LogicCell ℕ)) → (((y : ℕ) → is_in (cone_of walk nets) y ≡ true → is_in whole y ≡ true) → cone_of (values_at cells kept) nets ≡ cone_of walk nets)
        → (o : Option (LogicCell ℕ)) → slice_get cells k ≡ o → ((y : ℕ) → is_in (cone_of (cons_option o walk) nets) y ≡ true → is_in whole y ≡ true)
        → cone_of (values_at cells (cond (option_map_or (λ cell. is_in whole cell.output) o false) (k ∷ kept) kept)) nets ≡ cone_of (cons_option o walk) nets
    go kept walk rest None at inside = rest inside
    go kept walk rest (Some cell) at inside = chosen (is_in whole cell.output) refl
      where
        later_in : (y : ℕ) → is_in (cone_of walk nets) y ≡ true → is_in whole y ≡ true
        later_in y among = inside y (more (is_in (cone_of walk nets) cell.output))
          where
            more : (b : Bool) → is_in (if b then cone_of walk nets ++ cell.inputs else cone_of walk nets) y ≡ true
            more true = is_in_left (cone_of walk nets) cell.inputs y among
            more false = among

        apart : is_in whole cell.output ≡ false → (b : Bool) → is_in (cone_of walk nets) cell.output ≡ b → cone_of walk nets ≡ (if b then cone_of walk nets ++ cell.inputs else cone_of walk nets)
        apart out true is = absurd (both_ways (is_in whole cell.output) out (later_in cell.output is))
        apart out false is = refl

        chosen : (b : Bool) → is_in whole cell.output ≡ b → cone_of (values_at cells (cond b (k ∷ kept) kept)) nets ≡ cone_of (cell ∷ walk) nets
        chosen true is =
            ap (λ o. cone_of (cons_option o (values_at cells kept)) nets) at
            ∙ ap (λ l. if is_in l cell.output then l ++ cell.inputs else l) (rest later_in)
        chosen false is = rest later_in ∙ apart is (is_in (cone_of walk nets) cell.output) refl

-- a test that says less
both_of : (a b : Bool) → (b ≡ true → a ≡ true) → (a && b) ≡ b
both_of true b less = refl
both_of false true less = less refl
both_of false false less = refl

any_less : (f g : ℕ → Bool) (xs : List ℕ) → ((x : ℕ) → f x ≡ true → g x ≡ true) → list_any f xs ≡ true → list_any g xs ≡ true
any_less f g [] less some = some
any_less f g (x ∷ xs) less some = elim (or_cases (f x) (list_any f xs) some) [
  | inl here ↦ Rattle.std.proofs.lemmas.Bool.or_left (g x) (list_any g xs) (less x here)
  | inr later ↦ Rattle.std.proofs.lemmas.Bool.or_right (g x) (list_any g xs) (any_less f g xs less later)
]

-- the nets that next bits ask for are there
pub roots_there : (m : MachineData) → IsMachine m → (regs roots : List ℕ) → roots ≡ flat_map (next_nets m) regs → All (λ net. net < length m.circuit.names) roots
roots_there m good regs roots is = subst (All (λ net. net < length m.circuit.names)) (sym is) (all_there m (flat_map (next_nets m) regs) (each regs))
  where
    each : (rs : List ℕ) → AreThere m (flat_map (next_nets m) rs)
    each [] = none_there m
    each (r ∷ rs) = both_there m (next_nets m r) (flat_map (next_nets m) rs) (next_there m good r) (each rs)

module _ (m : MachineData) (good : IsMachine m) (regs roots : List ℕ) (roots_are : roots ≡ flat_map (next_nets m) regs) (cone : Cone) (found : cone ≡ cone_at m.circuit (order_of m) roots) where
  abbrev whole : List ℕ
  whole = cone_of (walk_of m) roots

  pub cells_within : All (λ k. k < length m.circuit.cells) cone.cells
  cells_within = (found_cone m good roots cone found).within

  pub registers_within : All (λ k. k < length m.circuit.registers) cone.registers
  registers_within = registers_there m (register_feeds m.circuit whole) cone.registers (found_cone m good roots cone found).registers

  module _ (masks : List ℕ) (are : AreMasks (λ i. cone_of (values_at m.circuit.cells cone.cells) (next_nets_at m regs i)) masks) (i r : ℕ) (at : slice_get regs i ≡ Some r) (there : r < length m.circuit.registers) where
    abbrev nets : List ℕ
    nets = cone_of (walk_of m) (next_nets m r)

    -- the cone of one register is in that of all
    inside : (y : ℕ) → is_in nets y ≡ true → is_in whole y ≡ true
    inside y among =
        let way : IsInCone m.circuit.cells (next_nets m r) y = (cone_is m.circuit.cells (walk_of m) good.walk (next_nets m r) y).0 among in
        let root : is_in roots way.root ≡ true = ap (λ l. is_in l way.root) roots_are ∙ in_flat (next_nets m) regs i r way.root at way.among in
        (cone_is m.circuit.cells (walk_of m) good.walk roots y).1 (record { root = way.root; among = root; reaches = way.reaches })

    has_net : (y : ℕ) → net_has masks i y ≡ is_in nets y
    has_net y =
        are i y
        ∙ (ap (λ o. is_in (cone_of (values_at m.circuit.cells cone.cells) (option_map_or (next_nets m) o [])) y) at
        ∙ (ap (λ (k : Cone). is_in (cone_of (values_at m.circuit.cells k.cells) (next_nets m r)) y) found
        ∙ ap (λ l. is_in l y) (skipped m.circuit.cells whole (next_nets m r) (order_of m) inside)))

    has_register : (k : ℕ) → register_has m masks i k ≡ feeds m nets k
    has_register k = go (slice_get m.circuit.registers k)
      where
        go : (o : Option (RegisterCell ℕ ℕ)) → option_map_or (λ (cell : RegisterCell ℕ ℕ). list_any (net_has masks i) (shown_nets cell)) o false ≡ option_map_or (λ (cell : RegisterCell ℕ ℕ). list_any (is_in nets) (shown_nets cell)) o false
        go None = refl
        go (Some cell) = any_same (net_has masks i) (is_in nets) (shown_nets cell) has_net

    fed_inside : (k : ℕ) → feeds m nets k ≡ true → feeds m whole k ≡ true
    fed_inside k = go (slice_get m.circuit.registers k)
      where
        go : (o : Option (RegisterCell ℕ ℕ)) → option_map_or (λ (cell : RegisterCell ℕ ℕ). list_any (is_in nets) (shown_nets cell)) o false ≡ true → option_map_or (λ (cell : RegisterCell ℕ ℕ). list_any (is_in whole) (shown_nets cell)) o false ≡ true
        go None h = h
        go (Some cell) h = any_less (is_in nets) (is_in whole) (shown_nets cell) inside h

    inputs_counted : count_by (net_has masks i) cone.inputs ≡ count_by (is_in nets) (data_inputs m.circuit)
    inputs_counted =
        ap (λ (k : Cone). count_by (net_has masks i) k.inputs) found
        ∙ count_filtered (net_has masks i) (is_in whole) (is_in nets) (data_inputs m.circuit) (λ y. ap (λ b. is_in whole y && b) (has_net y) ∙ both_of (is_in whole y) (is_in nets y) (inside y))

    registers_counted : count_by (register_has m masks i) cone.registers ≡ count_by (feeds m nets) (registers_of m)
    registers_counted =
        ap (λ (k : Cone). count_by (register_has m masks i) k.registers) found
        ∙ count_filtered (register_has m masks i) (register_feeds m.circuit whole) (feeds m nets) (registers_of m) (λ k. ap (λ b. feeds m whole k && b) (has_register k) ∙ both_of (feeds m whole k) (feeds m nets k) (fed_inside k))

    pub width_counted : leaf_count m masks regs cone i ≡ hold_width m r
    width_counted =
        let inputs = inputs_counted in
        let registers = registers_counted in
        let own : own_count m masks regs i ≡ (if feeds m nets r then 0 else 1) =
        ap (λ o. option_map_or (λ q. if register_has m masks i q then 0 else 1) o 0) at ∙ ap (λ b. if b then 0 else 1) (has_register r) in
        let low : r < 0 + length m.circuit.registers = omega (arith, there) in
        let with_self = with_one (feeds m nets) r (length m.circuit.registers) 0 (omega arith) low in
        let width = width_is m r in
        omega (arith, inputs, registers, own, with_self, width)

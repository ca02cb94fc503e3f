-- In a machine with more nets, logic cells and registers behind the others, the old nets have their old bits.
use Rattle.std.proofs.Common.{◌≡◌, ℕ, zero, suc, ◌<◌, ◌≤◌, Bool, true, false, not, if◌then◌else◌, List, [], ◌∷◌, ◌++◌, map, length}
use Rattle.std.proofs.Common.{slice_get, take, Option, None, Some, refl, sym, ◌∙◌, ap, arith, append_assoc}
use Rattle.std.specs.List.{cons_option, flat_map}
use Rattle.std.proofs.lemmas.List.{length-map, length-take-le}
use Rattle.std.proofs.lemmas.Option.{none-some, same_Some}
use Rattle.cg_netlist.specs.Circuit.{GatingCell, LogicCell, RegisterCell, cell_nets, data_inputs, given_nets, register_nets}
use Rattle.cg_net.specs.NetSets.{is_in}
use Rattle.cg_netlist.specs.Circuit.{shown_nets}
use Rattle.cg_netlist.specs.Moment.{Settles, function_value, register_bits, shown_bits, values_at}
use Rattle.cg_netlist.proofs.Given.{clock_given, data_given, driver_within, given_driver, register_given}
use Rattle.cg_net.proofs.Members.{All-from_members, is_in_left, is_in_right, member_at}
use Rattle.cg_netlist.proofs.NetsOf.{nets_only}
use Rattle.cg_netlist.proofs.Values.{at_map, length-values_at, same_values, split_lists, values_at-append}
use Rattle.cg_machine.specs.Extends.{old}
use Rattle.cg_machine.specs.Machine.{IsInputs, IsMachine, IsState, MachineData, values, walk_of}
use Rattle.cg_machine.proofs.Lists.{take_get}
use Rattle.cg_machine.proofs.Settled.{settled}

-- the old nets have their old bits
module _ (m n : MachineData) (good : IsMachine m) (good_n : IsMachine n) (names : length m.circuit.names ≤ length n.circuit.names)
    (clock : n.circuit.clock ≡ m.circuit.clock) (inputs : data_inputs n.circuit ≡ data_inputs m.circuit)
    (cells : (k : ℕ) (cell : LogicCell ℕ) → slice_get m.circuit.cells k ≡ Some cell → slice_get n.circuit.cells k ≡ Some cell)
    (inner : (k : ℕ) (cell : LogicCell ℕ) (y : ℕ) → slice_get m.circuit.cells k ≡ Some cell → is_in cell.inputs y ≡ true → y < length m.circuit.names)
    (states : (vs t : List Bool) → length vs ≡ length n.circuit.names → IsState n t → values_at vs (register_nets n.circuit) ≡ register_bits n.circuit.registers t → values_at vs (register_nets m.circuit) ≡ register_bits m.circuit.registers (old m t)) where
  abbrev N : ℕ
  N = length m.circuit.names

  front_values : (vs : List Bool) (nets : List ℕ) → ((y : ℕ) → is_in nets y ≡ true → y < N) → values_at (take N vs) nets ≡ values_at vs nets
  front_values vs nets below = same_values (take N vs) vs nets (λ y among. take_get N vs y (below y among))

  given_below : (y : ℕ) → is_in (given_nets m.circuit) y ≡ true → y < N
  given_below y among = driver_within m.circuit good.well_formed.driven y (given_driver m.circuit y among)

  pub front_settles : (t x : List Bool) → IsState n t → IsInputs n x → Settles m.circuit false x (old m t) [] (take N (values n t x))
  front_settles t x long ins =
      let s : Settles n.circuit false x t [] (values n t x) = settled n good_n t x long ins in
      let vs : List Bool = values n t x in
      record {
        long = length-take-le N vs (omega (arith, s.long, names));
        shows_clock = λ net is. take_get N vs net (given_below net (clock_given m.circuit net is)) ∙ s.shows_clock net (clock ∙ is);
        shows_inputs = front_values vs (data_inputs m.circuit) (λ y among. given_below y (data_given m.circuit y among)) ∙ (ap (values_at vs) (sym inputs) ∙ s.shows_inputs);
        shows_gaters = ap (λ gs. values_at (take N vs) (map (λ (g : GatingCell ℕ). g.output) gs)) good.no_gaters;
        shows_state = front_values vs (register_nets m.circuit) (λ y among. given_below y (register_given m.circuit y among)) ∙ states vs t s.long long s.shows_state;
        holds = λ k cell at.
            let out : is_in (cell_nets m.circuit) cell.output ≡ true = member_at (cell_nets m.circuit) k cell.output (at_map (λ (c : LogicCell ℕ). c.output) m.circuit.cells k cell at) in
            let below : cell.output < N = driver_within m.circuit good.well_formed.driven cell.output (is_in_right (given_nets m.circuit) (cell_nets m.circuit) cell.output out) in
            take_get N vs cell.output below
            ∙ (s.holds k cell (cells k cell at)
            ∙ ap (λ bits. Some (function_value cell.function bits)) (sym (front_values vs cell.inputs (λ y among. inner k cell y at among))));
      }

  pub fronts_are : (t x : List Bool) → IsState n t → IsInputs n x → (y : ℕ) → y < N → slice_get (values n t x) y ≡ slice_get (values m (old m t) x) y
  fronts_are t x long ins y below =
      sym (take_get N (values n t x) y below)
      ∙ ap (λ vs. slice_get vs y) (sym (nets_only m.circuit good.well_formed.driven (walk_of m) good.walk false x (old m t) [] (take N (values n t x)) (front_settles t x long ins)))

-- what registers show
pub bits_push : (rs : List (RegisterCell ℕ ℕ)) (d : RegisterCell ℕ ℕ) (t : List Bool) → length t ≡ suc (length rs) → (rest : List Bool) × (register_bits (rs ++ d ∷ []) t ≡ register_bits rs (take (length rs) t) ++ rest)
bits_push [] d [] long = absurd (omega arith)
bits_push [] d (b ∷ t) long = (shown_bits d b ++ register_bits [] t, refl)
bits_push (r ∷ rs) d [] long = absurd (omega arith)
bits_push (r ∷ rs) d (b ∷ t) long =
    let more = bits_push rs d t (omega arith) in
    (more.0, ap (λ l. shown_bits r b ++ l) more.1 ∙ sym (append_assoc (shown_bits r b) (register_bits rs (take (length rs) t)) more.0))

-- a register with one output, that shows its bit
pub shows_bit : (vs : List Bool) (rs : List (RegisterCell ℕ ℕ)) (s : List Bool) → length s ≡ length rs → ((x : ℕ) → is_in (flat_map shown_nets rs) x ≡ true → x < length vs) → values_at vs (flat_map shown_nets rs) ≡ register_bits rs s
    → (k : ℕ) (cell : RegisterCell ℕ ℕ) (y : ℕ) → slice_get rs k ≡ Some cell → cell.outputs ≡ (y, false) ∷ [] → slice_get vs y ≡ slice_get s k
shows_bit vs [] s long below shows k cell y at one = absurd (none-some cell at)
shows_bit vs (r ∷ rs) [] long below shows k cell y at one = absurd (omega arith)
shows_bit vs (r ∷ rs) (b ∷ s) long below shows k cell y at one =
    let front : (x : ℕ) → is_in (shown_nets r) x ≡ true → x < length vs = λ x among. below x (is_in_left (shown_nets r) (flat_map shown_nets rs) x among) in
    let back : (x : ℕ) → is_in (flat_map shown_nets rs) x ≡ true → x < length vs = λ x among. below x (is_in_right (shown_nets r) (flat_map shown_nets rs) x among) in
    let count : length (values_at vs (shown_nets r)) ≡ length (shown_bits r b) =
    length-values_at vs (shown_nets r) (All-from_members (λ x. x < length vs) (shown_nets r) front) ∙ (length-map r.outputs (λ output. output.0) ∙ sym (length-map r.outputs (λ output. if output.1 then not b else b))) in
    let parts = split_lists (values_at vs (shown_nets r)) (shown_bits r b) (values_at vs (flat_map shown_nets rs)) (register_bits rs s) count (sym (values_at-append vs (shown_nets r) (flat_map shown_nets rs)) ∙ shows) in
    go (λ j at_j. shows_bit vs rs s (omega arith) back parts.1 j cell y at_j one) parts.0 k at
  where
    first : (o : Option Bool) → cons_option o [] ≡ b ∷ [] → o ≡ Some b
    first None e = absurd (cc)
    first (Some a) e = let same : a ≡ b = cc in ap Some same

    go : ((j : ℕ) → slice_get rs j ≡ Some cell → slice_get vs y ≡ slice_get s j) → values_at vs (shown_nets r) ≡ shown_bits r b → (k' : ℕ) → slice_get (r ∷ rs) k' ≡ Some cell → slice_get vs y ≡ slice_get (b ∷ s) k'
    go rest here zero is =
        let outs : r.outputs ≡ (y, false) ∷ [] = ap (λ (c : RegisterCell ℕ ℕ). c.outputs) (same_Some r cell is) ∙ one in
        first (slice_get vs y) (sym (ap (λ l. values_at vs (map (λ (o : ℕ × Bool). o.0) l)) outs) ∙ (here ∙ ap (λ l. map (λ (o : ℕ × Bool). if o.1 then not b else b) l) outs))
    go rest here (suc j) is = rest j is

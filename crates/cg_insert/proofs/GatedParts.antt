-- The parts of the gated netlist, in the machine's own order, beside those of the machine.
use Rattle.std.proofs.Common.{◌≡◌, ℕ, zero, suc, ◌+◌, ◌^◌, ◌≤◌, ◌⊎◌, Bool, true, false, not, cond, ◌&&◌, if◌then◌else◌, List}
use Rattle.std.proofs.Common.{[], ◌∷◌, ◌++◌, map, length, slice_get, take, Option, None, Some, nat_eq, refl, ap, sym, ◌∙◌, subst}
use Rattle.std.proofs.Common.{length-append, inl, inr, arith}
use Rattle.std.specs.List.{filter_map, find, flat_map, cons_option}
use Rattle.std.specs.Option.{option_flatten}
use Rattle.std.proofs.lemmas.Bool.{and_parts, both_ways, eq-eqb, eqb-true, not-true, or_cases, or_left, or_right}
use Rattle.cg_limit.specs.declared.TheConstants.{MOST_REGISTERS}
use Rattle.cg_cell.specs.Cell.{CellData}
use Rattle.cg_cell.specs.Cover.{cover_value}
use Rattle.cg_cell.specs.Fit.{is_fit, is_one}
use Rattle.cg_cell.specs.Term.{Term}
use Rattle.cg_cell.specs.declared.fit.FitKind.{FitKind}
use Rattle.cg_cell.specs.declared.fit.FitKind.TheVariants.{Inv, And2, Or2}
use Rattle.cg_netlist.specs.Circuit.{Circuit, LogicCell, RegisterCell, register_nets, shown_nets}
use Rattle.cg_net.specs.NetSets.{is_in}
use Rattle.cg_insert.specs.Insert.{CanInsert, collect, enables_of, first_gater_output, fitting, new_gater_outputs, gated, gating_cell}
use Rattle.cg_insert.specs.Insert.{placed_gate, reclocked, with_net}
use Rattle.cg_machine.specs.Gates.{AddedGate, HasInputs, gate_cell, gate_cover}
use Rattle.cg_machine.specs.Machine.{IsMachine, MachineData, additions, enable_of}
use Rattle.cg_netlist.specs.Ordered.{place_in}
use Rattle.cg_netlist.specs.Moment.{cell_value, function_value, register_bits, shown_bits, zip_with}
use Rattle.cg_net.proofs.Members.{is_in_cases, is_in_left, is_in_right, member_at}
use Rattle.cg_netlist.proofs.OrderLemmas.{length-range_with_len}
use Rattle.cg_netlist.proofs.Values.{zip_with_at, length-zip_with}
use Rattle.cg_machine.proofs.WalkPlaces.{range_at}
use Rattle.cg_netlist.proofs.OrderedForm.{place_found}
use Rattle.cg_machine.proofs.Lists.{all_at}

-- The enables

with_net_keeps : (nets : List ℕ) (n x : ℕ) → is_in nets x ≡ true → is_in (with_net nets n) x ≡ true
with_net_keeps nets n x among = go (is_in nets n)
  where
    go : (b : Bool) → is_in (if b then nets else nets ++ n ∷ []) x ≡ true
    go true = among
    go false = is_in_left nets (n ∷ []) x among

with_net_has : (nets : List ℕ) (n : ℕ) → is_in (with_net nets n) n ≡ true
with_net_has nets n = go (is_in nets n) refl
  where
    go : (b : Bool) → is_in nets n ≡ b → is_in (if b then nets else nets ++ n ∷ []) n ≡ true
    go true is = is
    go false is = is_in_right nets (n ∷ []) n (member_at (n ∷ []) 0 n refl)

with_net_only : (nets : List ℕ) (n x : ℕ) → is_in (with_net nets n) x ≡ true → (is_in nets x ≡ true) ⊎ (x ≡ n)
with_net_only nets n x = go (is_in nets n)
  where
    go : (b : Bool) → is_in (if b then nets else nets ++ n ∷ []) x ≡ true → (is_in nets x ≡ true) ⊎ (x ≡ n)
    go true among = inl among
    go false among = elim (is_in_cases nets (n ∷ []) x among) [
      | inl front ↦ inl front
      | inr last ↦ elim (or_cases (nat_eq x n) false last) [ inl same ↦ inr (eqb-true x n same) | inr none ↦ absurd (both_ways false refl none) ]
    ]

collect_seen : (seen nets : List ℕ) (x : ℕ) → is_in seen x ≡ true → is_in (collect seen nets) x ≡ true
collect_seen seen [] x among = among
collect_seen seen (n ∷ nets) x among = collect_seen (with_net seen n) nets x (with_net_keeps seen n x among)

collect_all : (seen nets : List ℕ) (x : ℕ) → is_in nets x ≡ true → is_in (collect seen nets) x ≡ true
collect_all seen [] x among = absurd (both_ways false refl among)
collect_all seen (n ∷ nets) x among = elim (or_cases (nat_eq x n) (is_in nets x) among) [
  | inl here ↦ collect_seen (with_net seen n) nets x (subst (λ z. is_in (with_net seen n) z ≡ true) (sym (eqb-true x n here)) (with_net_has seen n))
  | inr later ↦ collect_all (with_net seen n) nets x later
]

collect_only : (seen nets : List ℕ) (x : ℕ) → is_in (collect seen nets) x ≡ true → (is_in seen x ≡ true) ⊎ (is_in nets x ≡ true)
collect_only seen [] x among = inl among
collect_only seen (n ∷ nets) x among = elim (collect_only (with_net seen n) nets x among) [
  | inl front ↦ elim (with_net_only seen n x front) [ inl before ↦ inl before | inr same ↦ inr (or_left (nat_eq x n) (is_in nets x) (eq-eqb x n same)) ]
  | inr later ↦ inr (or_right (nat_eq x n) (is_in nets x) later)
]

collect_length : (seen nets : List ℕ) → length (collect seen nets) ≤ length seen + length nets
collect_length seen [] = omega arith
collect_length seen (n ∷ nets) =
    let rest = collect_length (with_net seen n) nets in
    let one : length (with_net seen n) ≤ length seen + 1 = go (is_in seen n) in
    omega (arith, rest, one)
  where
    go : (b : Bool) → length (if b then seen else seen ++ n ∷ []) ≤ length seen + 1
    go true = omega arith
    go false = omega (arith, length-append seen (n ∷ []))

some_length : (es : List (Option ℕ)) → length (filter_map (λ enable. enable) es) ≤ length es
some_length [] = omega arith
some_length (None ∷ es) = let rest = some_length es in omega (arith, rest)
some_length (Some e ∷ es) = let rest = some_length es in omega (arith, rest)

-- the names that insertion gives have numbers of 64 bits
pub few_names : (m : MachineData) → IsMachine m → additions m + length (enables_of m) ≤ 2 ^ 64
few_names m good =
    let a = collect_length [] (filter_map (λ enable. enable) m.enables) in
    let b = some_length m.enables in
    omega (arith, a, b, good.enables, good.few_registers, good.added_nets, good.small)

pub few_enables : (m : MachineData) → IsMachine m → length (enables_of m) ≤ MOST_REGISTERS
few_enables m good =
    let a = collect_length [] (filter_map (λ enable. enable) m.enables) in
    let b = some_length m.enables in
    omega (arith, a, b, good.enables, good.few_registers)

some_in : (es : List (Option ℕ)) (r e : ℕ) → option_flatten (slice_get es r) ≡ Some e → is_in (filter_map (λ enable. enable) es) e ≡ true
some_in [] r e is = absurd (cc)
some_in (o ∷ es) zero e is = ap (λ x. is_in (cons_option x (filter_map (λ enable. enable) es)) e) is ∙ or_left (nat_eq e e) (is_in (filter_map (λ enable. enable) es) e) (eq-eqb e e refl)
some_in (None ∷ es) (suc r) e is = some_in es r e is
some_in (Some x ∷ es) (suc r) e is = or_right (nat_eq e x) (is_in (filter_map (λ enable. enable) es) e) (some_in es r e is)

from_some : (es : List (Option ℕ)) (e : ℕ) → is_in (filter_map (λ enable. enable) es) e ≡ true → (r : ℕ) × (option_flatten (slice_get es r) ≡ Some e)
from_some [] e among = absurd (both_ways false refl among)
from_some (None ∷ es) e among = let found = from_some es e among in (suc found.0, found.1)
from_some (Some x ∷ es) e among = elim (or_cases (nat_eq e x) (is_in (filter_map (λ enable. enable) es) e) among) [
  | inl here ↦ (0, ap (λ n. Some n) (sym (eqb-true e x here)))
  | inr later ↦ let found = from_some es e later in (suc found.0, found.1)
]

module _ (m : MachineData) where
  pub enable_in : (r e : ℕ) → enable_of m r ≡ Some e → is_in (enables_of m) e ≡ true
  enable_in r e is = collect_all [] (filter_map (λ enable. enable) m.enables) e (some_in m.enables r e is)

  pub enable_placed : (r e : ℕ) → enable_of m r ≡ Some e → slice_get (enables_of m) (place_in (enables_of m) e) ≡ Some e
  enable_placed r e is = place_found (enables_of m) e (enable_in r e is)

  pub enable_from : (e : ℕ) → is_in (enables_of m) e ≡ true → (r : ℕ) × (enable_of m r ≡ Some e)
  enable_from e among = elim (collect_only [] (filter_map (λ enable. enable) m.enables) e among) [ inl none ↦ absurd (both_ways false refl none) | inr from ↦ from_some m.enables e from ]

-- Registers: what they show is the same

pub same_shown : (test : Option (List ℕ)) (m : MachineData) (rs : List (RegisterCell ℕ ℕ)) (es : List (Option ℕ)) → length es ≡ length rs → flat_map shown_nets (zip_with (reclocked test m) rs es) ≡ flat_map shown_nets rs
same_shown test m [] es long = refl
same_shown test m (r ∷ rs) [] long = absurd (omega arith)
same_shown test m (r ∷ rs) (e ∷ es) long = ap (λ xs. shown_nets r ++ xs) (same_shown test m rs es (omega arith))

pub same_bits : (test : Option (List ℕ)) (m : MachineData) (rs : List (RegisterCell ℕ ℕ)) (es : List (Option ℕ)) (s : List Bool) → length es ≡ length rs → register_bits (zip_with (reclocked test m) rs es) s ≡ register_bits rs s
same_bits test m [] es s long = refl
same_bits test m (r ∷ rs) [] s long = absurd (omega arith)
same_bits test m (r ∷ rs) (e ∷ es) [] long = refl
same_bits test m (r ∷ rs) (e ∷ es) (b ∷ s) long = ap (λ xs. shown_bits r b ++ xs) (same_bits test m rs es s (omega arith))

-- Cells: an added gate computes the same as a placed cell

value_is_one : (cell : CellData) (bits : List Bool) → cell_value cell bits ≡ is_one cell.function bits
value_is_one cell bits = go cell.function
  where
    go : (f : Option Term) → Rattle.std.specs.Option.option_map_or (Rattle.cg_cell.specs.Term.term_value bits) f false ≡ is_one f bits
    go None = refl
    go (Some f) = refl

fit_value : (kind : FitKind) (cell : CellData) (bits : List Bool) → HasInputs kind (length bits) → is_fit kind cell ≡ true → cell_value cell bits ≡ cover_value (gate_cover kind) bits
fit_value Inv cell bits has fits = value_is_one cell bits ∙ go (is_one cell.function) bits has (and_parts (Rattle.cg_cell.specs.Fit.is_gate 1 cell) (Rattle.cg_cell.specs.Fit.is_inversion (is_one cell.function)) fits).1
  where
    go : (f : List Bool → Bool) (bits : List Bool) → length bits ≡ 1 → Rattle.cg_cell.specs.Fit.is_inversion f ≡ true → f bits ≡ cover_value (gate_cover Inv) bits
    go f [] has fits = absurd (omega arith)
    go f (a ∷ b ∷ bits) has fits = absurd (omega arith)
    go f (true ∷ []) has fits = not-true (f (true ∷ [])) (and_parts (f (false ∷ [])) (not (f (true ∷ []))) fits).1
    go f (false ∷ []) has fits = (and_parts (f (false ∷ [])) (not (f (true ∷ []))) fits).0
fit_value And2 cell bits has fits = value_is_one cell bits ∙ go (is_one cell.function) bits has (and_parts (Rattle.cg_cell.specs.Fit.is_gate 2 cell) (Rattle.cg_cell.specs.Fit.is_conjunction (is_one cell.function)) fits).1
  where
    go : (f : List Bool → Bool) (bits : List Bool) → length bits ≡ 2 → Rattle.cg_cell.specs.Fit.is_conjunction f ≡ true → f bits ≡ cover_value (gate_cover And2) bits
    go f [] has fits = absurd (omega arith)
    go f (a ∷ []) has fits = absurd (omega arith)
    go f (a ∷ b ∷ d ∷ bits) has fits = absurd (omega arith)
    go f (a ∷ b ∷ []) has fits =
        let x = f (false ∷ false ∷ []) in
        let y = f (false ∷ true ∷ []) in
        let z = f (true ∷ false ∷ []) in
        let w = f (true ∷ true ∷ []) in
        let one = and_parts ((not x && not y) && not z) w fits in
        let two = and_parts (not x && not y) (not z) one.0 in
        let three = and_parts (not x) (not y) two.0 in
        at a b (not-true x three.0) (not-true y three.1) (not-true z two.1) one.1
      where
        at : (a b : Bool) → f (false ∷ false ∷ []) ≡ false → f (false ∷ true ∷ []) ≡ false → f (true ∷ false ∷ []) ≡ false → f (true ∷ true ∷ []) ≡ true → f (a ∷ b ∷ []) ≡ cover_value (gate_cover And2) (a ∷ b ∷ [])
        at true true p q r s = s
        at true false p q r s = r
        at false true p q r s = q
        at false false p q r s = p
fit_value Or2 cell bits has fits = value_is_one cell bits ∙ go (is_one cell.function) bits has (and_parts (Rattle.cg_cell.specs.Fit.is_gate 2 cell) (Rattle.cg_cell.specs.Fit.is_disjunction (is_one cell.function)) fits).1
  where
    go : (f : List Bool → Bool) (bits : List Bool) → length bits ≡ 2 → Rattle.cg_cell.specs.Fit.is_disjunction f ≡ true → f bits ≡ cover_value (gate_cover Or2) bits
    go f [] has fits = absurd (omega arith)
    go f (a ∷ []) has fits = absurd (omega arith)
    go f (a ∷ b ∷ d ∷ bits) has fits = absurd (omega arith)
    go f (a ∷ b ∷ []) has fits =
        let x = f (false ∷ false ∷ []) in
        let y = f (false ∷ true ∷ []) in
        let z = f (true ∷ false ∷ []) in
        let w = f (true ∷ true ∷ []) in
        let one = and_parts ((not x && y) && z) w fits in
        let two = and_parts (not x && y) z one.0 in
        let three = and_parts (not x) y two.0 in
        at a b (not-true x three.0) three.1 two.1 one.1
      where
        at : (a b : Bool) → f (false ∷ false ∷ []) ≡ false → f (false ∷ true ∷ []) ≡ true → f (true ∷ false ∷ []) ≡ true → f (true ∷ true ∷ []) ≡ true → f (a ∷ b ∷ []) ≡ cover_value (gate_cover Or2) (a ∷ b ∷ [])
        at true true p q r s = s
        at true false p q r s = r
        at false true p q r s = q
        at false false p q r s = p
fit_value _ cell bits has fits = absurd has

-- the first that passes a test passes it
pub found_passes : {X : Type 0} (test : X → Bool) (xs : List X) (x : X) → find test xs ≡ Some x → test x ≡ true
found_passes test [] x is = absurd (cc)
found_passes test (y ∷ ys) x is = go (test y) refl is (found_passes test ys x)
  where
    go : (b : Bool) → test y ≡ b → cond b (Some y) (find test ys) ≡ Some x → (find test ys ≡ Some x → test x ≡ true) → test x ≡ true
    go true passes here rest = let same : y ≡ x = cc in ap test (sym same) ∙ passes
    go false fails later rest = rest later

-- a cell and the one that stands for it
pub record SameCell (cell placed : LogicCell ℕ) : Type 0 where
  pub inputs : placed.inputs ≡ cell.inputs
  pub output : placed.output ≡ cell.output
  pub value : (bits : List Bool) → length bits ≡ length cell.inputs → function_value placed.function bits ≡ function_value cell.function bits

stands : (own : List (LogicCell ℕ)) (gates : List AddedGate) (library : List CellData) → ((j : ℕ) (g : AddedGate) → slice_get gates j ≡ Some g → SameCell (gate_cell g) (placed_gate library g))
    → (k : ℕ) (cell : LogicCell ℕ) → slice_get (own ++ map gate_cell gates) k ≡ Some cell → (placed : LogicCell ℕ) × (slice_get (own ++ map (placed_gate library) gates) k ≡ Some placed) × SameCell cell placed
stands [] [] library same k cell at = absurd (cc)
stands [] (g ∷ gates) library same zero cell at = (placed_gate library g, refl, subst (λ x. SameCell x (placed_gate library g)) (let e : gate_cell g ≡ cell = cc in e) (same 0 g refl))
stands [] (g ∷ gates) library same (suc k) cell at = stands [] gates library (λ j. same (suc j)) k cell at
stands (o ∷ own) gates library same zero cell at = (o, refl, subst (λ x. SameCell x o) (let e : o ≡ cell = cc in e) (record { inputs = refl; output = refl; value = λ bits long. refl }))
stands (o ∷ own) gates library same (suc k) cell at = stands own gates library same k cell at

module _ (library : List CellData) (test : Option (List ℕ)) (m : MachineData) (good : IsMachine m) (can : CanInsert library test m) where
  abbrev c : Circuit
  c = gated library test m

  pub gate_stands : (j : ℕ) (g : AddedGate) → slice_get m.gates j ≡ Some g → SameCell (gate_cell g) (placed_gate library g)
  gate_stands j g at =
      let fit = all_at (λ gate. (cell : CellData) × (find (is_fit gate.kind) library ≡ Some cell)) m.gates j g can.gates at in
      let is : fitting library g.kind ≡ fit.0 = ap (λ o. Rattle.std.specs.Prelude.unwrap_or o Rattle.cg_insert.specs.Insert.no_cell) fit.1 in
      record {
        inputs = refl;
        output = refl;
        value = λ bits long.
            ap (λ x. cell_value x bits) is ∙ fit_value g.kind fit.0 bits (subst (HasInputs g.kind) (sym long) (all_at (λ gate. HasInputs gate.kind (length gate.inputs)) m.gates j g good.gates_fit at)) (found_passes (is_fit g.kind) library fit.0 fit.1);
      }

  pub cell_stands : (k : ℕ) (cell : LogicCell ℕ) → slice_get m.circuit.cells k ≡ Some cell → (placed : LogicCell ℕ) × (slice_get c.cells k ≡ Some placed) × SameCell cell placed
  cell_stands k cell at = stands (take m.own_cells m.circuit.cells) m.gates library gate_stands k cell (sym (ap (λ cs. slice_get cs k) good.gates) ∙ at)

  pub gater_at : (j e : ℕ) → slice_get (enables_of m) j ≡ Some e → slice_get c.gaters j ≡ Some (gating_cell library test m e (first_gater_output m test + j))
  gater_at j e at = zip_with_at (gating_cell library test m) (enables_of m) (new_gater_outputs test m) j e (first_gater_output m test + j) at (range_at (length (enables_of m)) (first_gater_output m test) j (Rattle.std.proofs.lemmas.Option.slice_get_within (enables_of m) j e at))

  pub gaters_count : length c.gaters ≡ length (enables_of m)
  gaters_count = length-zip_with (gating_cell library test m) (enables_of m) (new_gater_outputs test m) (sym (length-range_with_len (length (enables_of m)) (first_gater_output m test)))

  pub register_at : (r : ℕ) (cell : RegisterCell ℕ ℕ) (o : Option ℕ) → slice_get m.circuit.registers r ≡ Some cell → slice_get m.enables r ≡ Some o → slice_get c.registers r ≡ Some (reclocked test m cell o)
  register_at r cell o at is = zip_with_at (reclocked test m) m.circuit.registers m.enables r cell o at is

  pub registers_count : length c.registers ≡ length m.circuit.registers
  registers_count = length-zip_with (reclocked test m) m.circuit.registers m.enables (sym good.enables)

  pub shown_is : register_nets c ≡ register_nets m.circuit
  shown_is = same_shown test m m.circuit.registers m.enables good.enables

  pub bits_is : (s : List Bool) → register_bits c.registers s ≡ register_bits m.circuit.registers s
  bits_is s = same_bits test m m.circuit.registers m.enables s good.enables

  -- the outputs of the gating cells
  outputs_of : (es ns : List ℕ) → length ns ≡ length es → map (λ g. g.output) (zip_with (gating_cell library test m) es ns) ≡ ns
  outputs_of [] [] long = refl
  outputs_of [] (n ∷ ns) long = absurd (omega arith)
  outputs_of (e ∷ es) [] long = absurd (omega arith)
  outputs_of (e ∷ es) (n ∷ ns) long = ap (λ xs. n ∷ xs) (outputs_of es ns (omega arith))

  pub gates_are : Rattle.cg_netlist.specs.Circuit.gater_outputs c ≡ new_gater_outputs test m
  gates_are = outputs_of (enables_of m) (new_gater_outputs test m) (length-range_with_len (length (enables_of m)) (first_gater_output m test))

-- Readers that are noted, and what they then tell of a machine.
use Rattle.std.proofs.Common.{◌≡◌, ℕ, ◌+◌, ◌<◌, ◌≤◌, true, false, ◌||◌, ◌&&◌, List, [], ◌∷◌, ◌++◌, length, nat_eq, slice_get}
use Rattle.std.proofs.Common.{slice_set, slice_index_or, Option, Some, None, refl, sym, ◌∙◌, ap, subst, arith, inl, inr}
use Rattle.std.specs.Option.{option_map_or, option_to_list}
use Rattle.std.proofs.lemmas.Bool.{and_from, both_ways, eq-eqb, eqb-true, or_cases, or_left, or_right}
use Rattle.std.proofs.lemmas.Bool.Decides.{eqb_tells}
use Rattle.std.proofs.lemmas.Option.{same_Some, slice_get-get_or}
use Rattle.cg_net.specs.NetSets.{is_in}
use Rattle.cg_net.proofs.Members.{is_in-append, is_in_cases, is_in_left, is_in_right}
use Rattle.cg_net.proofs.TableLemmas.{slice_get-set_other, slice_get-set_same}
use Rattle.cg_machine.specs.Machine.{MachineData, enable_of}
use Rattle.cg_claim.specs.Reach.{inputs_of_register, next_nets}
use Rattle.cg_claim_reach.specs.Fanout.{Grows, Knows, readers_at}
use Rattle.cg_claim_reach.specs.declared.tables.Tables.{Tables}
use Rattle.std.proofs.Math.Bool.{or-false}

-- a list with one more reader
pub noted_at : (lists : List (List ℕ)) (p h : ℕ) (old list : List ℕ) → p < length lists → old ≡ slice_index_or lists p old → list ≡ old ++ h ∷ [] → (y k : ℕ)
    → is_in (readers_at (slice_set lists p list) y) k ≡ (is_in (readers_at lists y) k || (nat_eq y p && nat_eq k h))
noted_at lists p h old list below read is y k = elim (eqb_tells y p) [
  | inl same ↦
      ap (λ z. is_in (readers_at (slice_set lists p list) z) k) same.1
      ∙ (ap (λ o. is_in (option_map_or (λ (l : List ℕ). l) o []) k) (slice_get-set_same lists p list below)
      ∙ (ap (λ l. is_in l k) is
      ∙ (is_in-append old (h ∷ []) k
      ∙ (ap (λ b. is_in old k || b) (or-false (nat_eq k h))
      ∙ (ap (λ l. is_in l k || nat_eq k h) (sym (ap (λ o. option_map_or (λ (l : List ℕ). l) o []) (ap (slice_get lists) same.1 ∙ (slice_get-get_or lists p old below ∙ ap Some (sym read)))))
      ∙ ap (λ b. is_in (readers_at lists y) k || (b && nat_eq k h)) (sym same.0))))))
  | inr other ↦
      ap (λ o. is_in (option_map_or (λ (l : List ℕ). l) o []) k) (slice_get-set_other lists p y list other.1)
      ∙ (sym (or-false (is_in (readers_at lists y) k)) ∙ ap (λ b. is_in (readers_at lists y) k || (b && nat_eq k h)) (sym other.0))
]

-- where no register is known, a machine that grew is known as well as before
pub still_unknown : (m n : MachineData) (f : Tables) (regs : List ℕ) (net : ℕ) → Knows m f → Grows m n regs net → f.register_count ≡ 0 → Knows n f
still_unknown m n f regs net knows grows none = record {
  few_cells = (let a = knows.few_cells in let b = grows.more_cells in omega (arith, a, b));
  few_outputs = (let a = knows.few_outputs in let b = ap (λ (l : List ℕ). length l) grows.outputs in omega (arith, a, b));
  few_registers = omega (arith, none);
  cells = λ k cell y low at among. knows.cells k cell y low (sym (grows.cells k (let a = knows.few_cells in omega (arith, a, low))) ∙ at) among;
  outputs = λ k y low at. knows.outputs k y low (ap (λ (l : List ℕ). slice_get l k) (sym grows.outputs) ∙ at);
  registers = λ r y low among. absurd (omega (arith, none, low));
}

-- a machine that grows, where these registers are noted at the net that they may get
pub still_known : (m n : MachineData) (f : Tables) (more : List (List ℕ)) (regs : List ℕ) (net : ℕ) → Knows m f → Grows m n regs net
    → ((y k : ℕ) → is_in (readers_at more y) k ≡ (is_in (readers_at f.registers y) k || (nat_eq y net && is_in regs k)))
    → Knows n (record f { registers = more })
still_known m n f more regs net knows grows noted = record {
  few_cells = (let a = knows.few_cells in let b = grows.more_cells in omega (arith, a, b));
  few_outputs = (let a = knows.few_outputs in let b = ap (λ (l : List ℕ). length l) grows.outputs in omega (arith, a, b));
  few_registers = (let a = knows.few_registers in let b = grows.more_registers in omega (arith, a, b));
  cells = λ k cell y low at among. knows.cells k cell y low (sym (grows.cells k (let a = knows.few_cells in omega (arith, a, low))) ∙ at) among;
  outputs = λ k y low at. knows.outputs k y low (ap (λ (l : List ℕ). slice_get l k) (sym grows.outputs) ∙ at);
  registers = λ r y low among. register r y low (let a = knows.few_registers in omega (arith, a, low)) among;
}
  where
    old : (r y : ℕ) → is_in (readers_at f.registers y) r ≡ true → is_in (readers_at more y) r ≡ true
    old r y there = noted y r ∙ or_left (is_in (readers_at f.registers y) r) (nat_eq y net && is_in regs r) there

    new : (r y : ℕ) → is_in regs r ≡ true → y ≡ net → is_in (readers_at more y) r ≡ true
    new r y among same = noted y r ∙ or_right (is_in (readers_at f.registers y) r) (nat_eq y net && is_in regs r) (and_from (nat_eq y net) (is_in regs r) (eq-eqb y net same) among)

    one : (e y : ℕ) → is_in (e ∷ []) y ≡ true → y ≡ e
    one e y among = elim (or_cases (nat_eq y e) false among) [ inl same ↦ eqb-true y e same | inr none ↦ absurd (both_ways false refl none) ]

    inputs : (r : ℕ) → r < length m.circuit.registers → inputs_of_register n r ≡ inputs_of_register m r
    inputs r low = ap (λ o. option_map_or (λ cell. cell.inputs) o []) (grows.registers r low)

    enable : (r y : ℕ) → r < f.register_count → r < length m.circuit.registers → (o : Option ℕ) → enable_of n r ≡ o → is_in (option_to_list o) y ≡ true → is_in (readers_at more y) r ≡ true
    enable r y few low None is among = absurd (both_ways false refl among)
    enable r y few low (Some e) is among = elim (grows.enables r e low is) [
      | inl before ↦ old r y (knows.registers r y few (is_in_right (inputs_of_register m r) (option_to_list (enable_of m r)) y (ap (λ o. is_in (option_to_list o) y) before ∙ among)))
      | inr got ↦ new r y got.0 (one e y among ∙ got.1)
    ]

    register : (r y : ℕ) → r < f.register_count → r < length m.circuit.registers → is_in (next_nets n r) y ≡ true → is_in (readers_at more y) r ≡ true
    register r y few low among = elim (is_in_cases (inputs_of_register n r) (option_to_list (enable_of n r)) y among) [
      | inl input ↦ old r y (knows.registers r y few (is_in_left (inputs_of_register m r) (option_to_list (enable_of m r)) y (ap (λ l. is_in l y) (sym (inputs r low)) ∙ input)))
      | inr e ↦ enable r y few low (enable_of n r) refl e
    ]

-- one part more that is noted
pub noted_more : (reads : ℕ → ℕ → Type 0) (lists new : List (List ℕ)) (first i : ℕ) → ((y k : ℕ) → is_in (readers_at lists y) k ≡ true → is_in (readers_at new y) k ≡ true)
    → ((y : ℕ) → reads i y → is_in (readers_at new y) i ≡ true) → ((k y : ℕ) → first ≤ k → k < i → reads k y → is_in (readers_at lists y) k ≡ true)
    → (k y : ℕ) → first ≤ k → k < i + 1 → reads k y → is_in (readers_at new y) k ≡ true
noted_more reads lists new first i kept here so_far k y from below read = elim (eqb_tells k i) [
  | inl same ↦ subst (λ z. is_in (readers_at new y) z ≡ true) (sym same.1) (here y (subst (λ z. reads z y) same.1 read))
  | inr other ↦ kept y k (so_far k y from (lower other.1) read)
]
  where
    lower : (k ≡ i → ⊥) → k < i
    lower apart = elim (eqb_tells k i) [ inl same ↦ absurd (apart same.1) | inr other ↦ omega arith ]

pub noted_one : (outputs : List ℕ) (lists new : List (List ℕ)) (i net : ℕ) → slice_get outputs i ≡ Some net
    → ((y k : ℕ) → is_in (readers_at new y) k ≡ (is_in (readers_at lists y) k || (nat_eq y net && nat_eq k i))) → (y : ℕ) → slice_get outputs i ≡ Some y → is_in (readers_at new y) i ≡ true
noted_one outputs lists new i net at noted y here =
    noted y i ∙ or_right (is_in (readers_at lists y) i) (nat_eq y net && nat_eq i i) (and_from (nat_eq y net) (nat_eq i i) (eq-eqb y net (same_Some y net (sym here ∙ at))) (eq-eqb i i refl))

-- The next bits of registers that were given an enable.
use Rattle.std.proofs.Common.{◌≡◌, ℕ, ◌<◌, ◌≤◌, Bool, true, false, List, [], ◌∷◌, length, slice_get, slice_set, Option, None, Some}
use Rattle.std.proofs.Common.{nat_eq, refl, sym, ◌∙◌, ap, inl, inr, ◌⊎◌, arith}
use Rattle.std.specs.List.{range_with_len}
use Rattle.std.specs.Option.{option_flatten}
use Rattle.std.proofs.lemmas.Bool.{both_ways, cases_Bool, eqb-true, eq-eqb, or_cases, or_left, or_right}
use Rattle.std.proofs.lemmas.List.{length-set}
use Rattle.std.proofs.lemmas.Option.{slice_get_past}
use Rattle.cg_netlist.specs.Circuit.{RegisterCell}
use Rattle.cg_net.specs.NetSets.{is_in}
use Rattle.cg_netlist.specs.Moment.{bit}
use Rattle.cg_net.proofs.TableLemmas.{same_or_not, slice_get-set_other, slice_get-set_same}
use Rattle.cg_netlist.proofs.Values.{map_same}
use Rattle.cg_machine.specs.Machine.{MachineData, enable_of, load, next, next_of, step, values}
use Rattle.cg_machine.specs.Claims.{EqualOutside}
use Rattle.cg_machine.proofs.Bits.{each_get, length-each}
use Rattle.cg_machine.specs.Added.{give}
use Rattle.cg_machine.specs.Run.{with_enables}
use Rattle.cg_machine.proofs.Lists.{below_or}

-- these enables give the registers of G the net e, and leave the others
pub record Gives (m : MachineData) (G : List ℕ) (own : Option ℕ) (e : ℕ) (es : List (Option ℕ)) : Type 0 where
  pub had : (r : ℕ) → is_in G r ≡ true → enable_of m r ≡ own
  pub has : (r : ℕ) → is_in G r ≡ true → enable_of (with_enables m es) r ≡ Some e
  pub others : (r : ℕ) → is_in G r ≡ false → enable_of (with_enables m es) r ≡ enable_of m r

given_same : (es : List (Option ℕ)) (G : List ℕ) (e r : ℕ) → is_in G r ≡ false → option_flatten (slice_get (give es G e) r) ≡ option_flatten (slice_get es r)
given_same es [] e r out = refl
given_same es (g ∷ G) e r out =
    elim (same_or_not r g) [
      | inl is ↦ absurd (both_ways (is_in (g ∷ G) r) out (or_left (nat_eq r g) (is_in G r) (eq-eqb r g is)))
      | inr other ↦
          elim (cases_Bool (is_in G r)) [
            | inl among ↦ absurd (both_ways (is_in (g ∷ G) r) out (or_right (nat_eq r g) (is_in G r) among))
            | inr none ↦ given_same (slice_set es g (Some e)) G e r none ∙ ap option_flatten (slice_get-set_other es g r (Some e) other)
          ]
    ]

given_has : (es : List (Option ℕ)) (G : List ℕ) (e r : ℕ) → ((g : ℕ) → is_in G g ≡ true → g < length es) → is_in G r ≡ true → option_flatten (slice_get (give es G e) r) ≡ Some e
given_has es [] e r below among = absurd (both_ways false refl among)
given_has es (g ∷ G) e r below among = elim (cases_Bool (is_in G r)) [
  | inl later ↦ given_has (slice_set es g (Some e)) G e r (λ h inside. let b = below h (or_right (nat_eq h g) (is_in G h) inside) in omega (arith, b, length-set es g (Some e))) later
  | inr none ↦
      elim (or_cases (nat_eq r g) (is_in G r) among) [
        | inl same ↦ given_same (slice_set es g (Some e)) G e r none ∙ ap option_flatten (ap (slice_get (slice_set es g (Some e))) (eqb-true r g same) ∙ slice_get-set_same es g (Some e) (below g (or_left (nat_eq g g) (is_in G g) (eq-eqb g g refl))))
        | inr later ↦ absurd (both_ways (is_in G r) none later)
      ]
]

pub gives : (m : MachineData) (G : List ℕ) (own : Option ℕ) (e : ℕ) → ((r : ℕ) → is_in G r ≡ true → r < length m.enables) → ((r : ℕ) → is_in G r ≡ true → enable_of m r ≡ own) → Gives m G own e (give m.enables G e)
gives m G own e below had = record {
  had = had;
  has = λ r among. given_has m.enables G e r below among;
  others = λ r out. given_same m.enables G e r out;
}

pub length-give : (es : List (Option ℕ)) (G : List ℕ) (e : ℕ) → length (give es G e) ≡ length es
length-give es [] e = refl
length-give es (g ∷ G) e = length-give (slice_set es g (Some e)) G e ∙ length-set es g (Some e)

-- a register that is not loaded keeps its bit
pub not_loaded : (m : MachineData) (nets s : List Bool) (r : ℕ) → load nets (enable_of m r) ≡ false → next m nets s r ≡ bit s r
not_loaded m nets s r off = go (slice_get m.circuit.registers r) (load nets (enable_of m r)) off
  where
    go : (cell : Option (RegisterCell ℕ ℕ)) → (b : Bool) → b ≡ false → next_of cell (enable_of m r) nets (bit s r) ≡ bit s r
    go None b is = refl
    go (Some cell) b is = rw off refl

module _ (m : MachineData) (G : List ℕ) (own : Option ℕ) (e : ℕ) (es : List (Option ℕ)) (gives : Gives m G own e es) where
  pub gated-outside : (nets s : List Bool) (r : ℕ) → is_in G r ≡ false → next (with_enables m es) nets s r ≡ next m nets s r
  gated-outside nets s r out = ap (λ o. next_of (slice_get m.circuit.registers r) o nets (bit s r)) (gives.others r out)

  pub gated-off : (nets s : List Bool) (r : ℕ) → is_in G r ≡ true → bit nets e ≡ false → next (with_enables m es) nets s r ≡ bit s r
  gated-off nets s r among off = not_loaded (with_enables m es) nets s r (ap (load nets) (gives.has r among) ∙ off)

  loads_same : (nets : List Bool) (cell : Option (RegisterCell ℕ ℕ)) (a b : Option ℕ) (own : Bool) → load nets a ≡ load nets b → next_of cell a nets own ≡ next_of cell b nets own
  loads_same nets None a b own same = refl
  loads_same nets (Some cell) a b own same = rw same refl

  pub gated-on : (nets s : List Bool) (r : ℕ) → bit nets e ≡ load nets own → next (with_enables m es) nets s r ≡ next m nets s r
  gated-on nets s r on = elim (cases_Bool (is_in G r)) [
    | inr out ↦ gated-outside nets s r out
    | inl among ↦ loads_same nets (slice_get m.circuit.registers r) (enable_of (with_enables m es) r) (enable_of m r) (bit s r) (ap (load nets) (gives.has r among) ∙ (on ∙ ap (load nets) (sym (gives.had r among))))
  ]

  -- as whole steps
  pub step_by : (s x : List Bool) → ((r : ℕ) → next (with_enables m es) (values m s x) s r ≡ next m (values m s x) s r) → step (with_enables m es) s x ≡ step m s x
  step_by s x same = map_same (next (with_enables m es) (values m s x) s) (next m (values m s x) s) (range_with_len 0 (length m.circuit.registers)) (λ r among. same r)

  pub step_outside : (s x : List Bool) → EqualOutside G (step m s x) (step (with_enables m es) s x)
  step_outside s x = record {
    long = length-each (with_enables m es) (next (with_enables m es) (values m s x) s) ∙ sym (length-each m (next m (values m s x) s));
    equal = λ r out. places r (gated-outside (values m s x) s r out);
  }
    where
      places : (r : ℕ) → next (with_enables m es) (values m s x) s r ≡ next m (values m s x) s r → slice_get (step (with_enables m es) s x) r ≡ slice_get (step m s x) r
      places r same = go (below_or (length m.circuit.registers) r)
        where
          go : (r < length m.circuit.registers) ⊎ (length m.circuit.registers ≤ r) → slice_get (step (with_enables m es) s x) r ≡ slice_get (step m s x) r
          go (inl below) = each_get (with_enables m es) (next (with_enables m es) (values m s x) s) r below ∙ (ap Some same ∙ sym (each_get m (next m (values m s x) s) r below))
          go (inr past) =
              slice_get_past (step (with_enables m es) s x) r (omega (arith, length-each (with_enables m es) (next (with_enables m es) (values m s x) s)))
              ∙ sym (slice_get_past (step m s x) r (omega (arith, length-each m (next m (values m s x) s))))

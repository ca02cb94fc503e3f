-- Nets before others in an order.
use Rattle.std.proofs.Common.{[], ℕ, zero, suc, ◌+◌, ◌<◌, ◌≤◌, ◌≡◌, ◌≢◌, inl, inr, Bool, true, false, List, ◌∷◌, refl, sym, ap, ◌∙◌}
use Rattle.std.proofs.Common.{arith, nat_eq, nat_lt}
use Rattle.std.specs.List.{list_any, range_with_len}
use Rattle.std.proofs.lemmas.Bool.{eqb-true, eq-eqb, both_ways, or_cases, or_left, or_right, ltb-true, lt-ltb, cases_Bool}
use Rattle.cg_net.specs.NetSets.{is_in}
use Rattle.cg_net.specs.Marks.{AreMarksOf, is_marked}
use Rattle.cg_netlist_builder.specs.inner.FirstNet.{marked_before}
use Rattle.std.specs.Cmp.{both_ways as same_truth}

-- a net at a clock pin comes after none that is before it
pub any_before : (pins : List ℕ) (a b : ℕ) → is_in pins a ≡ true → a < b → list_any (λ other. nat_lt other b) pins ≡ true
any_before [] a b in' lt = absurd (both_ways false refl in')
any_before (pin ∷ pins) a b in' lt = elim (or_cases (nat_eq a pin) (is_in pins a) in') [
  | inl here ↦ or_left (nat_lt pin b) (list_any (λ other. nat_lt other b) pins) (ap (λ x. nat_lt x b) (sym (eqb-true a pin here)) ∙ lt-ltb a b lt)
  | inr later ↦ or_right (nat_lt pin b) (list_any (λ other. nat_lt other b) pins) (any_before pins a b later lt)
]

any_in_range : (test : ℕ → Bool) (n a y : ℕ) → a ≤ y → y < a + n → test y ≡ true → list_any test (range_with_len a n) ≡ true
any_in_range test zero a y low high is = absurd (omega arith)
any_in_range test (suc n) a y low high is = elim (cases_Bool (nat_eq a y)) [
  | inl same ↦ or_left (test a) (list_any test (range_with_len (a + 1) n)) (ap test (eqb-true a y same) ∙ is)
  | inr other ↦ or_right (test a) (list_any test (range_with_len (a + 1) n)) (any_in_range test n (a + 1) y (omega (arith, apart a y other)) (omega arith) is)
]
  where
    apart : (a b : ℕ) → nat_eq a b ≡ false → a ≢ b
    apart a b no' same = both_ways (nat_eq a b) no' (ap (nat_eq a) (sym same) ∙ eq-eqb a a refl)

range_has : (test : ℕ → Bool) (n a : ℕ) → list_any test (range_with_len a n) ≡ true → (y : ℕ) × (y < a + n) × (test y ≡ true)
range_has test zero a is = absurd (both_ways false refl is)
range_has test (suc n) a is = elim (or_cases (test a) (list_any test (range_with_len (a + 1) n)) is) [
  | inl here ↦ (a, omega arith, here)
  | inr later ↦ let more = range_has test n (a + 1) later in (more.0, omega (arith, more.1), more.2)
]

pub pins_before : (pins : List ℕ) (net : ℕ) → list_any (λ other. nat_lt other net) pins ≡ true → (y : ℕ) × (y < net) × (is_in pins y ≡ true)
pins_before [] net is = absurd (both_ways false refl is)
pins_before (pin ∷ pins) net is = elim (or_cases (nat_lt pin net) (list_any (λ other. nat_lt other net) pins) is) [
  | inl here ↦ (pin, ltb-true pin net here, or_left (nat_eq pin pin) (is_in pins pin) (eq-eqb pin pin refl))
  | inr later ↦ let more = pins_before pins net later in (more.0, more.1, or_right (nat_eq more.0 pin) (is_in pins more.0) more.2)
]

pub before_is : (clocks : List Bool) (pins : List ℕ) (n net : ℕ) → AreMarksOf clocks n (is_in pins) → net ≤ n → marked_before clocks net ≡ list_any (λ other. nat_lt other net) pins
before_is clocks pins n net table le = same_truth (marked_before clocks net) (list_any (λ other. nat_lt other net) pins)
    (λ is. let y = range_has (is_marked clocks) net 0 is in any_before pins y.0 net (sym (table.tells y.0 (omega (arith, y.1))) ∙ y.2) (omega (arith, y.1)))
    (λ is. let y = pins_before pins net is in any_in_range (is_marked clocks) net 0 y.0 (omega arith) (omega (arith, y.1)) (table.tells y.0 (omega (arith, y.1)) ∙ y.2))

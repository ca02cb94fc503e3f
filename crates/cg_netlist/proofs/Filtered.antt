-- What passes a test, and what stands in a range.
use Rattle.std.proofs.Common.{◌≡◌, ℕ, zero, suc, ◌+◌, ◌<◌, Bool, true, false, ◌||◌, cond, List, [], ◌∷◌, nat_eq, refl, ◌∙◌, ap}
use Rattle.std.proofs.Common.{subst, arith, inl, inr}
use Rattle.std.specs.List.{filter, range_with_len}
use Rattle.std.proofs.lemmas.Bool.{both_ways, eqb-true, eq-eqb, or_cases, or_left, or_right}
use Rattle.cg_net.specs.NetSets.{is_in}

pub in_filter : (test : ℕ → Bool) (xs : List ℕ) (x : ℕ) → is_in (filter test xs) x ≡ true → (is_in xs x ≡ true) × (test x ≡ true)
in_filter test [] x among = absurd (both_ways false refl among)
in_filter test (y ∷ xs) x among = go (in_filter test xs x) (test y) refl among
  where
    go : (is_in (filter test xs) x ≡ true → (is_in xs x ≡ true) × (test x ≡ true)) → (b : Bool) → test y ≡ b → is_in (cond b (y ∷ filter test xs) (filter test xs)) x ≡ true → ((nat_eq x y || is_in xs x) ≡ true) × (test x ≡ true)
    go known false is inside = let k = known inside in (or_right (nat_eq x y) (is_in xs x) k.0, k.1)
    go known true is inside = elim (or_cases (nat_eq x y) (is_in (filter test xs) x) inside) [
      | inl same ↦ (or_left (nat_eq x y) (is_in xs x) same, ap test (eqb-true x y same) ∙ is)
      | inr later ↦ let k = known later in (or_right (nat_eq x y) (is_in xs x) k.0, k.1)
    ]

pub to_filter : (test : ℕ → Bool) (xs : List ℕ) (x : ℕ) → is_in xs x ≡ true → test x ≡ true → is_in (filter test xs) x ≡ true
to_filter test [] x among passes = absurd (both_ways false refl among)
to_filter test (y ∷ xs) x among passes = go (λ later. to_filter test xs x later passes) (test y) refl
  where
    go : (is_in xs x ≡ true → is_in (filter test xs) x ≡ true) → (b : Bool) → test y ≡ b → is_in (cond b (y ∷ filter test xs) (filter test xs)) x ≡ true
    go rest true is = elim (or_cases (nat_eq x y) (is_in xs x) among) [
      | inl same ↦ or_left (nat_eq x y) (is_in (filter test xs) x) same
      | inr later ↦ or_right (nat_eq x y) (is_in (filter test xs) x) (rest later)
    ]
    go rest false is = elim (or_cases (nat_eq x y) (is_in xs x) among) [
      | inl same ↦ absurd (both_ways (test x) (ap test (eqb-true x y same) ∙ is) passes)
      | inr later ↦ rest later
    ]

pub range_in : (n a x : ℕ) → x < n → is_in (range_with_len a n) (a + x) ≡ true
range_in zero a x below = absurd (omega arith)
range_in (suc n) a zero below = or_left (nat_eq (a + 0) a) (is_in (range_with_len (a + 1) n) (a + 0)) (eq-eqb (a + 0) a (omega arith))
range_in (suc n) a (suc x) below =
    let e : a + 1 + x ≡ a + suc x = omega arith in
    or_right (nat_eq (a + suc x) a) (is_in (range_with_len (a + 1) n) (a + suc x)) (subst (λ y. is_in (range_with_len (a + 1) n) y ≡ true) e (range_in n (a + 1) x (omega arith)))

-- Rising lists of places: those of the items that pass a test give what a filter gives, and two with the same members
-- are equal.
use Rattle.std.proofs.Common.{◌≡◌, ℕ, zero, suc, ◌+◌, ◌-◌, ◌<◌, ◌≤◌, ◌⊎◌, Bool, true, false, ◌||◌, cond, List, [], ◌∷◌, map, length}
use Rattle.std.proofs.Common.{slice_get, Some, nat_eq, refl, ap, sym, ◌∙◌, subst, inl, inr, arith}
use Rattle.std.specs.List.{cons_option, filter}
use Rattle.std.proofs.lemmas.Bool.{both_ways, cases_Bool, eqb-true, eq-eqb, or_cases, or_left, or_right}
use Rattle.cg_net.specs.NetSets.{is_in}
use Rattle.cg_netlist.specs.Moment.{values_at}
pub use Rattle.cg_netlist.specs.inner.Rising.{Rises}

pub in_head : (x : ℕ) (xs : List ℕ) → is_in (x ∷ xs) x ≡ true
in_head x xs = or_left (nat_eq x x) (is_in xs x) (eq-eqb x x refl)

pub in_tail : (x y : ℕ) (xs : List ℕ) → is_in xs x ≡ true → is_in (y ∷ xs) x ≡ true
in_tail x y xs among = or_right (nat_eq x y) (is_in xs x) among

pub rises_from : (a : ℕ) (ps : List ℕ) (p : ℕ) → Rises a ps → is_in ps p ≡ true → a ≤ p
rises_from a [] p rises among = absurd (both_ways false refl among)
rises_from a (q ∷ ps) p rises among = elim (or_cases (nat_eq p q) (is_in ps p) among) [
  | inl same ↦ omega (arith, rises.0, eqb-true p q same)
  | inr later ↦ omega (arith, rises.0, rises_from (suc q) ps p rises.1 later)
]

shift_at : {X : Type 0} (x : X) (xs : List X) (ps : List ℕ) (a : ℕ) → Rises (suc a) ps → values_at (x ∷ xs) (map (λ p. p - a) ps) ≡ values_at xs (map (λ p. p - suc a) ps)
shift_at x xs [] a rises = refl
shift_at x xs (p ∷ ps) a rises =
    let e : p - a ≡ suc (p - suc a) = omega (arith, rises.0) in
    ap (λ i. cons_option (slice_get (x ∷ xs) i) (values_at (x ∷ xs) (map (λ p. p - a) ps))) e
    ∙ ap (cons_option (slice_get xs (p - suc a))) (shift_at x xs ps a (weaker (suc p) (suc a) ps (omega (arith, rises.0)) rises.1))
  where
    weaker : (b c : ℕ) (qs : List ℕ) → c ≤ b → Rises b qs → Rises c qs
    weaker b c [] le r = tt
    weaker b c (q ∷ qs) le r = (omega (arith, r.0), r.1)

-- places counted from a
places_from : {X : Type 0} (test : X → Bool) (xs : List X) (a : ℕ) (ps : List ℕ) → Rises a ps
    → ((p : ℕ) → is_in ps p ≡ true → p < a + length xs) → ((i : ℕ) (x : X) → slice_get xs i ≡ Some x → is_in ps (a + i) ≡ test x)
    → values_at xs (map (λ p. p - a) ps) ≡ filter test xs
places_from test [] a [] rises within is = refl
places_from test [] a (p ∷ ps) rises within is = absurd (omega (arith, rises.0, within p (in_head p ps)))
places_from test (x ∷ xs) a [] rises within is =
    let e : test x ≡ false = sym (is 0 x refl) in
    let rest = places_from test xs (suc a) [] tt (λ p among. absurd (both_ways false refl among)) (λ i y at. is (suc i) y at) in
    rest ∙ sym (ap (λ b. cond b (x ∷ filter test xs) (filter test xs)) e)
places_from test (x ∷ xs) a (p ∷ ps) rises within is = elim (same_or_later a p rises.0) [
  | inl same ↦
      let first : a + 0 ≡ p = omega (arith, same) in
      let e : test x ≡ true = sym (is 0 x refl) ∙ (ap (is_in (p ∷ ps)) first ∙ in_head p ps) in
      let later : Rises (suc a) ps = subst (λ n. Rises (suc n) ps) (sym same) rises.1 in
      let zero_p : p - a ≡ 0 = omega (arith, same) in
      let rest = places_from test xs (suc a) ps later
      (λ q among. let w = within q (in_tail q p ps among) in omega (arith, w))
      (λ i y at.
      let shift : suc a + i ≡ a + suc i = omega arith in
      let other : nat_eq (a + suc i) p ≡ false = differs (a + suc i) p (omega (arith, same)) in
      ap (is_in ps) shift ∙ (ap (λ b. b || is_in ps (a + suc i)) (sym other) ∙ is (suc i) y at)) in
      ap (λ i. cons_option (slice_get (x ∷ xs) i) (values_at (x ∷ xs) (map (λ p. p - a) ps))) zero_p
      ∙ (ap (λ l. x ∷ l) (shift_at x xs ps a later ∙ rest) ∙ sym (ap (λ b. cond b (x ∷ filter test xs) (filter test xs)) e))
  | inr after ↦
      let all : Rises (suc a) (p ∷ ps) = (after, rises.1) in
      let e : test x ≡ false = sym (is 0 x refl) ∙ none (is_in (p ∷ ps) (a + 0)) (λ among. let low = rises_from (suc a) (p ∷ ps) (a + 0) all among in omega (arith, low)) in
      let rest = places_from test xs (suc a) (p ∷ ps) all
      (λ q among. let w = within q among in omega (arith, w))
      (λ i y at. let shift : suc a + i ≡ a + suc i = omega arith in ap (is_in (p ∷ ps)) shift ∙ is (suc i) y at) in
      shift_at x xs (p ∷ ps) a all ∙ (rest ∙ sym (ap (λ b. cond b (x ∷ filter test xs) (filter test xs)) e))
]
  where
    same_or_later : (a p : ℕ) → a ≤ p → (a ≡ p) ⊎ (suc a ≤ p)
    same_or_later zero zero le = inl refl
    same_or_later zero (suc p) le = inr (omega arith)
    same_or_later (suc a) zero le = absurd (omega arith)
    same_or_later (suc a) (suc p) le = elim (same_or_later a p (omega arith)) [ inl e ↦ inl (ap suc e) | inr l ↦ inr (omega (arith, l)) ]

    differs : (x y : ℕ) → y < x → nat_eq x y ≡ false
    differs x y low = elim (cases_Bool (nat_eq x y)) [ inl same ↦ absurd (omega (arith, low, eqb-true x y same)) | inr other ↦ other ]

    none : (b : Bool) → (b ≡ true → ⊥) → b ≡ false
    none true out = absurd (out refl)
    none false out = refl

minus_zero : (ps : List ℕ) → map (λ p. p - 0) ps ≡ ps
minus_zero [] = refl
minus_zero (p ∷ ps) = let e : p - 0 ≡ p = omega arith in ap (λ q. q ∷ map (λ p. p - 0) ps) e ∙ ap (λ l. p ∷ l) (minus_zero ps)

pub places_filter : {X : Type 0} (test : X → Bool) (xs : List X) (ps : List ℕ) → Rises 0 ps → ((p : ℕ) → is_in ps p ≡ true → p < length xs)
    → ((i : ℕ) (x : X) → slice_get xs i ≡ Some x → is_in ps i ≡ test x) → values_at xs ps ≡ filter test xs
places_filter test xs ps rises within is =
    sym (ap (values_at xs) (minus_zero ps))
    ∙ places_from test xs 0 ps rises (λ p among. let w = within p among in omega (arith, w)) (λ i x at. let e : 0 + i ≡ i = omega arith in ap (is_in ps) e ∙ is i x at)

-- rising lists with the same members are equal
pub rising_same : (ps qs : List ℕ) (a b : ℕ) → Rises a ps → Rises b qs → ((x : ℕ) → is_in ps x ≡ is_in qs x) → ps ≡ qs
rising_same [] [] a b rp rq same = refl
rising_same [] (q ∷ qs) a b rp rq same = absurd (both_ways false refl (same q ∙ in_head q qs))
rising_same (p ∷ ps) [] a b rp rq same = absurd (both_ways false refl (sym (same p) ∙ in_head p ps))
rising_same (p ∷ ps) (q ∷ qs) a b rp rq same =
    let low = rises_from p (p ∷ ps) q (omega arith, rp.1) (same q ∙ in_head q qs) in
    let high = rises_from q (q ∷ qs) p (omega arith, rq.1) (sym (same p) ∙ in_head p ps) in
    let e : p ≡ q = omega (arith, low, high) in
    let rest : ps ≡ qs = rising_same ps qs (suc p) (suc q) rp.1 rq.1 (λ x. tails x e (same x) (cases_Bool (nat_eq x p))) in
    ap (λ x. x ∷ ps) e ∙ ap (λ l. q ∷ l) rest
  where
    not_in : (r : ℕ) (rs : List ℕ) (x : ℕ) → Rises (suc r) rs → x ≡ r → is_in rs x ≡ false
    not_in r rs x rises is = elim (cases_Bool (is_in rs x)) [
      | inl among ↦ let low = rises_from (suc r) rs x rises among in absurd (omega (arith, low, is))
      | inr none ↦ none
    ]

    tails : (x : ℕ) → p ≡ q → (nat_eq x p || is_in ps x) ≡ (nat_eq x q || is_in qs x) → (nat_eq x p ≡ true) ⊎ (nat_eq x p ≡ false) → is_in ps x ≡ is_in qs x
    tails x e whole (inl here') =
        let xp : x ≡ p = eqb-true x p here' in
        not_in p ps x rp.1 xp ∙ sym (not_in q qs x rq.1 (xp ∙ e))
    tails x e whole (inr there) =
        let other : nat_eq x q ≡ false = ap (nat_eq x) (sym e) ∙ there in
        sym (ap (λ b. b || is_in ps x) there) ∙ (whole ∙ ap (λ b. b || is_in qs x) other)

-- Lists of numbers at the places of registers, and numbers that are put behind.
use Rattle.std.proofs.Common.{◌≡◌, ℕ, zero, suc, ◌+◌, ◌<◌, Bool, true, false, ◌||◌, ◌&&◌, not, if◌then◌else◌, List, [], ◌∷◌, ◌++◌}
use Rattle.std.proofs.Common.{length, replicate, take, nat_eq, slice_get, slice_set, slice_index_or, Some, refl, sym, ◌∙◌, ap, inl}
use Rattle.std.proofs.Common.{inr}
use Rattle.std.specs.Option.{option_map_or}
use Rattle.std.proofs.lemmas.Bool.{both_ways, eqb-true, eq-eqb}
use Rattle.std.proofs.lemmas.Bool.Decides.{eqb_tells}
use Rattle.std.proofs.lemmas.Option.{slice_get-get_or}
use Rattle.cg_net.proofs.TableLemmas.{slice_get-set_other, slice_get-set_same, take_next}
use Rattle.cg_net.specs.NetSets.{is_in}
use Rattle.cg_odc.specs.inner.Guarding.{list_at}
use Rattle.cg_netlist_cone.proofs.ConeEdge.{in_more}
use Rattle.std.proofs.Math.Bool.{or-false}

-- one item more of those that were put
pub in_taken : (xs : List ℕ) (i x y : ℕ) → slice_get xs i ≡ Some x → is_in (take (i + 1) xs) y ≡ (is_in (take i xs) y || nat_eq y x)
in_taken xs i x y at = ap (λ l. is_in l y) (take_next xs i x at) ∙ in_more (take i xs) x y

-- a number that is put behind others, unless it is there
pub put_once : (keys after : List ℕ) (x y : ℕ) → after ≡ (if is_in keys x then keys else keys ++ x ∷ []) → is_in after y ≡ (is_in keys y || nat_eq y x)
put_once keys after x y is = ap (λ l. is_in l y) is ∙ go (is_in keys x) refl
  where
    go : (b : Bool) → is_in keys x ≡ b → is_in (if b then keys else keys ++ x ∷ []) y ≡ (is_in keys y || nat_eq y x)
    go false there = in_more keys x y
    go true there = inner (nat_eq y x) refl
      where
        all : (b : Bool) → b ≡ true → b ≡ (b || true)
        all true h = refl
        all false h = h

        inner : (c : Bool) → nat_eq y x ≡ c → is_in keys y ≡ (is_in keys y || c)
        inner false same = sym (or-false (is_in keys y))
        inner true same = all (is_in keys y) (ap (is_in keys) (eqb-true y x same) ∙ there)

-- a list with one more number
pub put_at : (lists : List (List ℕ)) (p h : ℕ) (old list : List ℕ) → p < length lists → old ≡ slice_index_or lists p old → list ≡ old ++ h ∷ [] → (g : ℕ) → g < length lists → (q : ℕ)
    → is_in (list_at (slice_set lists p list) g) q ≡ (is_in (list_at lists g) q || (nat_eq g p && nat_eq q h))
put_at lists p h old list below read is g within q = elim (eqb_tells g p) [
  | inl same ↦
      ap (λ z. is_in (list_at (slice_set lists p list) z) q) same.1
      ∙ (ap (λ o. is_in (option_map_or (λ (l : List ℕ). l) o []) q) (slice_get-set_same lists p list below)
      ∙ (ap (λ l. is_in l q) is
      ∙ (in_more old h q
      ∙ (ap (λ l. is_in l q || nat_eq q h) (sym (ap (λ o. option_map_or (λ (l : List ℕ). l) o []) (ap (slice_get lists) same.1 ∙ (slice_get-get_or lists p old below ∙ ap Some (sym read)))))
      ∙ ap (λ b. is_in (list_at lists g) q || (b && nat_eq q h)) (sym same.0)))))
  | inr other ↦
      ap (λ o. is_in (option_map_or (λ (l : List ℕ). l) o []) q) (slice_get-set_other lists p g list other.1)
      ∙ (sym (or-false (is_in (list_at lists g) q)) ∙ ap (λ b. is_in (list_at lists g) q || (b && nat_eq q h)) (sym other.0))
]

pub none_at : (n g q : ℕ) → is_in (list_at (replicate n []) g) q ≡ false
none_at zero g q = refl
none_at (suc n) zero q = refl
none_at (suc n) (suc g) q = none_at n g q

-- a register under another gets its guard, unless it is one of them
turned : (a b : ℕ) → nat_eq a b ≡ nat_eq b a
turned a b = truth (nat_eq a b) (nat_eq b a) (λ h. eq-eqb b a (sym (eqb-true a b h))) (λ h. eq-eqb a b (sym (eqb-true b a h)))
  where
    truth : (x y : Bool) → (x ≡ true → y ≡ true) → (y ≡ true → x ≡ true) → x ≡ y
    truth true y there back = sym (there refl)
    truth false true there back = back refl
    truth false false there back = refl

pub put_none : (old : Bool) (g under reg h q : ℕ) → (nat_eq under reg || nat_eq under h) ≡ true → old ≡ (old || (nat_eq g under && (not (nat_eq g reg) && not (nat_eq g h)) && nat_eq q h))
put_none old g under reg h q one = sym (ap (λ b. old || b) (go (nat_eq g under) refl) ∙ or-false old)
  where
    closed : (a b c : Bool) → (a || b) ≡ true → (true && (not a && not b) && c) ≡ false
    closed true b c is = refl
    closed false true c is = refl
    closed false false c is = absurd (both_ways false refl is)

    go : (b : Bool) → nat_eq g under ≡ b → (b && (not (nat_eq g reg) && not (nat_eq g h)) && nat_eq q h) ≡ false
    go false is = refl
    go true is = closed (nat_eq g reg) (nat_eq g h) (nat_eq q h) (ap (λ z. nat_eq z reg || nat_eq z h) (eqb-true g under is) ∙ one)

pub put_some : (old : Bool) (g under reg h q : ℕ) → (nat_eq under reg || nat_eq under h) ≡ false → (old || (nat_eq g under && nat_eq q h)) ≡ (old || (nat_eq g under && (not (nat_eq g reg) && not (nat_eq g h)) && nat_eq q h))
put_some old g under reg h q none = ap (λ b. old || b) (go (nat_eq g under) refl)
  where
    open_to : (a b c : Bool) → (a || b) ≡ false → c ≡ (true && (not a && not b) && c)
    open_to true b c is = absurd (both_ways true is refl)
    open_to false true c is = absurd (both_ways true is refl)
    open_to false false c is = refl

    go : (b : Bool) → nat_eq g under ≡ b → (b && nat_eq q h) ≡ (b && (not (nat_eq g reg) && not (nat_eq g h)) && nat_eq q h)
    go false is = refl
    go true is = open_to (nat_eq g reg) (nat_eq g h) (nat_eq q h) (ap (λ z. nat_eq z reg || nat_eq z h) (eqb-true g under is) ∙ none)

-- one register more
pub spread_three : (old x y a b ab k q : Bool) → ab ≡ (a || b) → x ≡ (old || (a && k && q)) → y ≡ (x || (b && k && q)) → y ≡ (old || (ab && k && q))
spread_three old x y a b ab k q more before now = now ∙ (ap (λ z. z || (b && k && q)) before ∙ (go old a b k q ∙ ap (λ z. old || (z && k && q)) (sym more)))
  where
    go : (o a b k q : Bool) → ((o || (a && k && q)) || (b && k && q)) ≡ (o || ((a || b) && k && q))
    go true a b k q = refl
    go false true true true true = refl
    go false true true true false = refl
    go false true true false q = refl
    go false true false true true = refl
    go false true false true false = refl
    go false true false false q = refl
    go false false b k q = refl

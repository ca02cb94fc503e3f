-- Lists of nets under numbers that no two of some nets share.
use Rattle.std.proofs.Common.{[], ◌≡◌, ℕ, ◌+◌, Bool, true, false, cond, List, ◌∷◌, map, slice_get, None, Some, nat_eq}
use Rattle.std.proofs.Common.{refl, ap, sym, ◌∙◌, inl, inr, zero, suc, arith}
use Rattle.std.specs.List.{IsDistinct, position_from}
use Rattle.std.proofs.lemmas.Bool.{both_ways, cases_Bool, false_from_ne_true, eq-eqb, or_left, or_right}
use Rattle.cg_net.specs.NetSets.{is_in}
use Rattle.cg_net.proofs.Members.{distinct_cons, distinct_head, distinct_tail}
use Rattle.cg_netlist.proofs.NetOrder.{from_mapped, in_mapped}

-- where no two nets of `own` have one number
module _ (f : ℕ → ℕ) (own : List ℕ) (apart : (x y : ℕ) → is_in own x ≡ true → is_in own y ≡ true → f x ≡ f y → x ≡ y) where
  -- a net is among others under its number where it is among them
  pub mapped_same : (xs : List ℕ) → ((x : ℕ) → is_in xs x ≡ true → is_in own x ≡ true) → (x : ℕ) → is_in own x ≡ true → is_in (map f xs) (f x) ≡ is_in xs x
  mapped_same xs within x here = elim (cases_Bool (is_in xs x)) [
    | inl among ↦ in_mapped f xs x among ∙ sym among
    | inr out ↦ false_from_ne_true (is_in (map f xs) (f x)) (λ there.
        let found = from_mapped f xs (f x) there in
        both_ways (is_in xs x) out (ap (is_in xs) (sym (apart found.0 x (within found.0 found.1) here found.2)) ∙ found.1)) ∙ sym out
  ]

  pub distinct_mapped : (xs : List ℕ) → ((x : ℕ) → is_in xs x ≡ true → is_in own x ≡ true) → IsDistinct nat_eq xs → IsDistinct nat_eq (map f xs)
  unfolding IsDistinct
  distinct_mapped [] within once = tt
  distinct_mapped (x ∷ xs) within once =
      distinct_cons (f x) (map f xs)
      (false_from_ne_true (is_in (map f xs) (f x)) (λ there.
      let found = from_mapped f xs (f x) there in
      let same : found.0 ≡ x = apart found.0 x (within found.0 (or_right (nat_eq found.0 x) (is_in xs found.0) found.1)) (within x (or_left (nat_eq x x) (is_in xs x) (eq-eqb x x refl))) found.2 in
      both_ways (is_in xs x) (distinct_head x xs once) (ap (is_in xs) (sym same) ∙ found.1)))
      (distinct_mapped xs (λ y among. within y (or_right (nat_eq y x) (is_in xs y) among)) (distinct_tail x xs once))

-- a search that finds nothing, and one that has nothing to find
pub none_found : {X : Type 0} (p : X → Bool) (xs : List X) (a : ℕ) → position_from p a xs ≡ None → (k : ℕ) (x : X) → slice_get xs k ≡ Some x → p x ≡ false
none_found p [] a none k x at = absurd (cc)
none_found {X} p (y ∷ ys) a none k x at = go (p y) refl none k at (λ later j there. none_found p ys (a + 1) later j x there)
  where
    go : (b : Bool) → p y ≡ b → cond b (Some a) (position_from p (a + 1) ys) ≡ None → (k : ℕ) → slice_get (y ∷ ys) k ≡ Some x → (position_from p (a + 1) ys ≡ None → (j : ℕ) → slice_get ys j ≡ Some x → p x ≡ false) → p x ≡ false
    go true is none k at rest = absurd (cc)
    go false is none zero at rest = let same : y ≡ x = cc in ap p (sym same) ∙ is
    go false is none (suc k) at rest = rest none k at

pub find_none : {X : Type 0} (p : X → Bool) (xs : List X) (a : ℕ) → ((k : ℕ) (x : X) → slice_get xs k ≡ Some x → p x ≡ false) → position_from p a xs ≡ None
find_none p [] a all = refl
find_none p (y ∷ ys) a all = ap (λ b. cond b (Some a) (position_from p (a + 1) ys)) (all 0 y refl) ∙ find_none p ys (a + 1) (λ k x at. all (k + 1) x (next k at))
  where
    next : (k : ℕ) {x : _} → slice_get ys k ≡ Some x → slice_get (y ∷ ys) (k + 1) ≡ Some x
    next k at = ap (slice_get (y ∷ ys)) (let e : k + 1 ≡ suc k = omega arith in e) ∙ at

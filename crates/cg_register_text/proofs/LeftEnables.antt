-- The enable that is left of one by what gives others.
use Rattle.std.proofs.Common.{◌≡◌, ℕ, suc, ◌+◌, Bool, true, false, if◌then◌else◌, List, [], ◌∷◌, map, slice_get, Option, Some, refl, ◌∙◌}
use Rattle.cg_register_text.specs.Meaning.{left_by}
use Rattle.cg_register_text.specs.Trials.{Trial, numbers_from}

module _ {T : Type 0} (test : Trial → Bool) (f : T → Trial) (net : T → Option ℕ) where
  abbrev gives : T → Bool
  gives x = test (f x)

  -- where nothing gives one, it is this one
  pub left_none : (number : ℕ) (xs : List T) (enable : Option ℕ) → numbers_from test number (map f xs) ≡ [] → left_by (λ x. test (f x)) net enable xs ≡ enable
  left_none number [] enable none = refl
  left_none number (x ∷ xs) enable none = go (test (f x)) (left_none (number + 1) xs enable) none
    where
      go : (b : Bool) → (numbers_from test (number + 1) (map f xs) ≡ [] → left_by (λ y. test (f y)) net enable xs ≡ enable)
          → (if b then number ∷ numbers_from test (number + 1) (map f xs) else numbers_from test (number + 1) (map f xs)) ≡ []
          → left_by (λ y. test (f y)) net (if b then net x else enable) xs ≡ enable
      go true rest h = absurd (cc)
      go false rest h = rest h

  -- where something does, it is whatever was there before
  pub left_some : (number : ℕ) (xs : List T) → ((k : ℕ) (x : T) → slice_get xs k ≡ Some x → test (f x) ≡ true → (e : ℕ) × (net x ≡ Some e))
      → (n : ℕ) (ns : List ℕ) → numbers_from test number (map f xs) ≡ n ∷ ns → (e : ℕ) × ((enable : Option ℕ) → left_by (λ x. test (f x)) net enable xs ≡ Some e)
  left_some number [] nets n ns is = absurd (cc)
  left_some number (x ∷ xs) nets n ns is =
      go (test (f x)) refl (numbers_from test (number + 1) (map f xs)) refl (left_some (number + 1) xs (λ k. nets (suc k))) is
    where
      go : (b : Bool) → test (f x) ≡ b → (rest : List ℕ) → numbers_from test (number + 1) (map f xs) ≡ rest
          → ((m : ℕ) (ms : List ℕ) → numbers_from test (number + 1) (map f xs) ≡ m ∷ ms → (e : ℕ) × ((enable : Option ℕ) → left_by (λ y. test (f y)) net enable xs ≡ Some e))
          → (if b then number ∷ numbers_from test (number + 1) (map f xs) else numbers_from test (number + 1) (map f xs)) ≡ n ∷ ns
          → (e : ℕ) × ((enable : Option ℕ) → left_by (λ y. test (f y)) net (if b then net x else enable) xs ≡ Some e)
      go true it [] none later h = let e = nets 0 x refl it in (e.0, λ enable. left_none (number + 1) xs (net x) none ∙ e.1)
      go true it (m ∷ ms) some later h = let e = later m ms some in (e.0, λ enable. e.1 (net x))
      go false it rest is later h = let e = later n ns h in (e.0, λ enable. e.1 enable)

-- Whether some item passes a test: over what is filtered, over two lists, and where tests are the same.
use Rattle.std.proofs.Common.{◌≡◌, Bool, true, false, ◌||◌, ◌&&◌, cond, List, [], ◌∷◌, refl, sym, ◌∙◌, ap}
use Rattle.std.specs.List.{filter, list_any}

-- tests that are the same on the items
pub any_same : {X : Type 0} (p q : X → Bool) (xs : List X) → ((x : X) → p x ≡ q x) → list_any p xs ≡ list_any q xs
any_same p q [] same = refl
any_same p q (x ∷ xs) same = ap (λ b. b || list_any p xs) (same x) ∙ ap (λ b. q x || b) (any_same p q xs same)

-- none passes a test that nothing passes
pub any_never : {X : Type 0} (xs : List X) → list_any (λ x. false) xs ≡ false
any_never [] = refl
any_never (x ∷ xs) = any_never xs

-- either of two tests
any_either : {X : Type 0} (p q : X → Bool) (xs : List X) → list_any (λ x. p x || q x) xs ≡ (list_any p xs || list_any q xs)
any_either p q [] = refl
any_either p q (x ∷ xs) = ap (λ b. (p x || q x) || b) (any_either p q xs) ∙ turn (p x) (q x) (list_any p xs) (list_any q xs)
  where
    turn : (a b c d : Bool) → ((a || b) || (c || d)) ≡ ((a || c) || (b || d))
    turn true b c d = refl
    turn false true true d = refl
    turn false true false d = refl
    turn false false c d = refl

-- two lists, in either order
pub any_swap : {X Y : Type 0} (p : X → Y → Bool) (xs : List X) (ys : List Y) → list_any (λ x. list_any (p x) ys) xs ≡ list_any (λ y. list_any (λ x. p x y) xs) ys
any_swap p [] ys = sym (any_never ys)
any_swap p (x ∷ xs) ys = ap (λ b. list_any (p x) ys || b) (any_swap p xs ys) ∙ sym (any_either (p x) (λ y. list_any (λ z. p z y) xs) ys)

-- over what is filtered
pub any_filter : {X : Type 0} (p q : X → Bool) (xs : List X) → list_any p (filter q xs) ≡ list_any (λ x. q x && p x) xs
any_filter p q [] = refl
any_filter {X = X} p q (x ∷ xs) = go (q x) ∙ ap (λ b. (q x && p x) || b) (any_filter p q xs)
  where
    go : (b : Bool) → list_any p (cond b (x ∷ filter q xs) (filter q xs)) ≡ ((b && p x) || list_any p (filter q xs))
    go true = refl
    go false = refl

-- a fact beside the test
pub any_beside : {X : Type 0} (b : Bool) (p : X → Bool) (xs : List X) → (b && list_any p xs) ≡ list_any (λ x. p x && b) xs
any_beside true p xs = any_same p (λ x. p x && true) xs (λ x. and_true (p x))
  where
    and_true : (b : Bool) → b ≡ (b && true)
    and_true true = refl
    and_true false = refl
any_beside {X = X} false p xs = sym (any_same (λ x. p x && false) (λ x. false) xs (λ x. and_false (p x)) ∙ any_never xs)
  where
    and_false : (b : Bool) → (b && false) ≡ false
    and_false true = refl
    and_false false = refl

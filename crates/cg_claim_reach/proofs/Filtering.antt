-- What a filter leaves of a list.
use Rattle.std.proofs.Common.{◌≡◌, ℕ, zero, suc, ◌+◌, ◌<◌, ◌≤◌, Bool, true, false, ◌||◌, ◌&&◌, cond, if◌then◌else◌, List, [], ◌∷◌}
use Rattle.std.proofs.Common.{◌++◌, length, take, slice_get, Some, nat_eq, refl, sym, ◌∙◌, ap, subst, arith}
use Rattle.std.specs.List.{filter, flat_map, range_with_len}
use Rattle.std.proofs.lemmas.List.{append-nil, append_assoc}
use Rattle.std.proofs.lemmas.List.Elements.{filter-append}
use Rattle.std.proofs.lemmas.Bool.{eqb-true}
use Rattle.cg_net.specs.NetSets.{is_in}
use Rattle.cg_claim.proofs.HoldWidths.{same_test}
use Rattle.cg_netlist.proofs.Filtered.{range_in}
use Rattle.std.proofs.Math.Bool.{and-false}
use Rattle.cg_net.proofs.TableLemmas.{take_next}

-- what passes one test and then another passes both
pub filter_twice : {X : Type 0} (f g : X → Bool) (xs : List X) → filter g (filter f xs) ≡ filter (λ x. f x && g x) xs
filter_twice f g [] = refl
filter_twice f g (x ∷ xs) = go (filter f xs) (filter (λ y. f y && g y) xs) (filter_twice f g xs) (f x) (g x) refl
  where
    go : (rest both : List _) → filter g rest ≡ both → (a b : Bool) → g x ≡ b → filter g (cond a (x ∷ rest) rest) ≡ cond (a && b) (x ∷ both) both
    go rest both same true true is = ap (λ b. cond b (x ∷ filter g rest) (filter g rest)) is ∙ ap (λ l. x ∷ l) same
    go rest both same true false is = ap (λ b. cond b (x ∷ filter g rest) (filter g rest)) is ∙ same
    go rest both same false b is = same

-- an element of what a filter leaves is one of the list that passes
pub in_filtered : (test : ℕ → Bool) (xs : List ℕ) (k : ℕ) → is_in (filter test xs) k ≡ (is_in xs k && test k)
in_filtered test [] k = refl
in_filtered test (x ∷ xs) k = go (in_filtered test xs k) (test x) refl
  where
    passes_here : (a : Bool) → test x ≡ a → nat_eq k x ≡ true → test k ≡ a
    passes_here a passes is = ap test (eqb-true k x is) ∙ passes

    kept : test x ≡ true → (b c : Bool) → nat_eq k x ≡ b → (b || (c && test k)) ≡ ((b || c) && test k)
    kept passes true c is = sym (passes_here true passes is)
    kept passes false c is = refl

    dropped : test x ≡ false → (b c : Bool) → nat_eq k x ≡ b → (c && test k) ≡ ((b || c) && test k)
    dropped passes true c is = ap (λ t. c && t) (passes_here false passes is) ∙ (and-false c ∙ sym (passes_here false passes is))
    dropped passes false c is = refl

    go : is_in (filter test xs) k ≡ (is_in xs k && test k) → (a : Bool) → test x ≡ a → is_in (cond a (x ∷ filter test xs) (filter test xs)) k ≡ ((nat_eq k x || is_in xs k) && test k)
    go rest true passes = ap (λ b. nat_eq k x || b) rest ∙ kept passes (nat_eq k x) (is_in xs k) refl
    go rest false passes = rest ∙ dropped passes (nat_eq k x) (is_in xs k) refl

-- a number is among those of a range that pass where it passes, if only numbers of the range do
pub in_ranged : (test : ℕ → Bool) (n k : ℕ) → ((j : ℕ) → test j ≡ true → j < n) → is_in (filter test (range_with_len 0 n)) k ≡ test k
in_ranged test n k within = in_filtered test (range_with_len 0 n) k ∙ go (test k) refl
  where
    go : (b : Bool) → test k ≡ b → (is_in (range_with_len 0 n) k && b) ≡ b
    go true is = let e : 0 + k ≡ k = omega arith in ap (λ a. a && true) (subst (λ y. is_in (range_with_len 0 n) y ≡ true) e (range_in n 0 k (within k is)))
    go false is = and-false (is_in (range_with_len 0 n) k)

-- numbers in order are those that pass a test
pub in_order_are : (test : ℕ → Bool) (n : ℕ) (numbers regs : List ℕ) → ((j : ℕ) → test j ≡ true → j < n) → ((k : ℕ) → is_in numbers k ≡ test k)
    → ((n : ℕ) → ((x : ℕ) → is_in numbers x ≡ true → x < n) → regs ≡ filter (is_in numbers) (range_with_len 0 n)) → regs ≡ filter test (range_with_len 0 n)
in_order_are test n numbers regs within same ordered =
    ordered n (λ x among. within x (sym (same x) ∙ among)) ∙ same_test (is_in numbers) test (range_with_len 0 n) same

pub take_whole : {X : Type 0} (xs : List X) (n : ℕ) → length xs ≤ n → take n xs ≡ xs
take_whole [] zero past = refl
take_whole [] (suc n) past = refl
take_whole (x ∷ xs) zero past = absurd (omega arith)
take_whole (x ∷ xs) (suc n) past = ap (λ l. x ∷ l) (take_whole xs n (omega arith))

pub filter_on : (test : ℕ → Bool) (xs start old new : List ℕ) (i x : ℕ) (b : Bool) → slice_get xs i ≡ Some x → b ≡ test x → new ≡ old ++ (if b then x ∷ [] else [])
    → old ≡ start ++ filter test (take i xs) → new ≡ start ++ filter test (take (i + 1) xs)
filter_on test xs start old new i x b at is pushed so_far =
    pushed ∙ (ap (λ l. l ++ (if b then x ∷ [] else [])) so_far
    ∙ (append_assoc start (filter test (take i xs)) (if b then x ∷ [] else [])
    ∙ ap (λ l. start ++ l) (ap (λ c. filter test (take i xs) ++ (if c then x ∷ [] else [])) is
    ∙ (sym (filter-append test (take i xs) (x ∷ [])) ∙ ap (filter test) (sym (take_next xs i x at))))))

pub flat_on : (f : ℕ → List ℕ) (xs start old new : List ℕ) (i x : ℕ) → slice_get xs i ≡ Some x → new ≡ old ++ f x → old ≡ start ++ flat_map f (take i xs) → new ≡ start ++ flat_map f (take (i + 1) xs)
flat_on f xs start old new i x at pushed so_far =
    pushed ∙ (ap (λ l. l ++ f x) so_far
    ∙ (append_assoc start (flat_map f (take i xs)) (f x)
    ∙ ap (λ l. start ++ l) (sym (ap (flat_map f) (take_next xs i x at) ∙ flat_end (take i xs)))))
  where
    flat_end : (ys : List ℕ) → flat_map f (ys ++ x ∷ []) ≡ flat_map f ys ++ f x
    flat_end [] = append-nil (f x)
    flat_end (y ∷ ys) = ap (λ l. f y ++ l) (flat_end ys) ∙ sym (append_assoc (f y) (flat_map f ys) (f x))

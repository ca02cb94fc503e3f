-- The registers whose hold claims are measured, one after another.
use Rattle.std.proofs.Common.{◌≡◌, ℕ, zero, suc, ◌+◌, ◌<◌, Bool, true, false, cond, if◌then◌else◌, List, [], ◌∷◌, ◌++◌, length, map, slice_get}
use Rattle.std.proofs.Common.{Some, refl, sym, ◌∙◌, ap, arith, append-nil}
use Rattle.std.specs.List.{All, filter, range_with_len}
use Rattle.std.proofs.lemmas.List.Elements.{filter-append}
use Rattle.cg_net.specs.NetSets.{is_in}
use Rattle.cg_net.proofs.Members.{All-from_members}
use Rattle.cg_netlist.proofs.Driven.{in_range}
use Rattle.cg_netlist.proofs.Filtered.{in_filter}

range_push : (s n : ℕ) → range_with_len s (suc n) ≡ range_with_len s n ++ (s + n) ∷ []
range_push s zero = ap (λ k. k ∷ []) (let e : s ≡ s + 0 = omega arith in e)
range_push s (suc n) = ap (λ l. s ∷ l) (range_push (s + 1) n ∙ ap (λ k. range_with_len (s + 1) n ++ k ∷ []) (let e : s + 1 + n ≡ s + suc n = omega arith in e))

-- one more number
pub filter_more : (test : ℕ → Bool) (n : ℕ) → filter test (range_with_len 0 (n + 1)) ≡ (if test n then filter test (range_with_len 0 n) ++ n ∷ [] else filter test (range_with_len 0 n))
filter_more test n =
    ap (λ k. filter test (range_with_len 0 k)) (let e : n + 1 ≡ suc n = omega arith in e)
    ∙ (ap (filter test) (range_push 0 n ∙ ap (λ k. range_with_len 0 n ++ k ∷ []) (let e : 0 + n ≡ n = omega arith in e))
    ∙ (filter-append test (range_with_len 0 n) (n ∷ []) ∙ go (test n)))
  where
    go : (b : Bool) → filter test (range_with_len 0 n) ++ cond b (n ∷ []) [] ≡ (if b then filter test (range_with_len 0 n) ++ n ∷ [] else filter test (range_with_len 0 n))
    go true = refl
    go false = append-nil (filter test (range_with_len 0 n))

pub count_more : (test : ℕ → Bool) (n place next : ℕ) → place ≡ length (filter test (range_with_len 0 n)) → next ≡ (if test n then place + 1 else place) → next ≡ length (filter test (range_with_len 0 (n + 1)))
count_more test n place next is step = step ∙ (go (test n) ∙ ap length (sym (filter_more test n)))
  where
    push_length : (xs : List ℕ) → length (xs ++ n ∷ []) ≡ length xs + 1
    push_length [] = refl
    push_length (x ∷ xs) = let more = push_length xs in omega (arith, more)

    go : (b : Bool) → (if b then place + 1 else place) ≡ length (if b then filter test (range_with_len 0 n) ++ n ∷ [] else filter test (range_with_len 0 n))
    go true = ap (λ k. k + 1) is ∙ sym (push_length (filter test (range_with_len 0 n)))
    go false = is

-- where the value of a number that passes stands
pub value_at : {X : Type 0} (test : ℕ → Bool) (value : ℕ → X) (s n k : ℕ) → k < n → test (s + k) ≡ true
    → slice_get (map value (filter test (range_with_len s n))) (length (filter test (range_with_len s k))) ≡ Some (value (s + k))
value_at test value s zero k below passes = absurd (omega (arith, below))
value_at {X} test value s (suc n) zero below passes = go (test s) (ap test (let e : s ≡ s + 0 = omega arith in e) ∙ passes)
  where
    go : (b : Bool) → b ≡ true → slice_get (map value (cond b (s ∷ filter test (range_with_len (s + 1) n)) (filter test (range_with_len (s + 1) n)))) 0 ≡ Some (value (s + 0))
    go true is = ap (λ k. Some (value k)) (let e : s ≡ s + 0 = omega arith in e)
    go false is = absurd (Rattle.std.proofs.lemmas.Bool.both_ways false refl is)
value_at {X} test value s (suc n) (suc k) below passes =
    let e : s + 1 + k ≡ s + suc k = omega arith in
    go (test s) (value_at test value (s + 1) n k (omega (arith, below)) (ap test e ∙ passes) ∙ ap (λ j. Some (value j)) e)
  where
    go : (b : Bool) → slice_get (map value (filter test (range_with_len (s + 1) n))) (length (filter test (range_with_len (s + 1) k))) ≡ Some (value (s + suc k))
        → slice_get (map value (cond b (s ∷ filter test (range_with_len (s + 1) n)) (filter test (range_with_len (s + 1) n)))) (length (cond b (s ∷ filter test (range_with_len (s + 1) k)) (filter test (range_with_len (s + 1) k)))) ≡ Some (value (s + suc k))
    go true rest = rest
    go false rest = rest

-- all that pass are below
pub filtered_below : (test : ℕ → Bool) (n : ℕ) → All (λ k. k < n) (filter test (range_with_len 0 n))
filtered_below test n = All-from_members (λ k. k < n) (filter test (range_with_len 0 n)) (λ k among.
    let b = in_range n 0 k (in_filter test (range_with_len 0 n) k among).0 in omega (arith, b.1))

-- One and-inverter list in another: its nodes are nodes of the other, apart from one another, with their operands. So it has no
-- more nodes, and an `and` on both keeps it so.
use Rattle.std.proofs.Common.{◌≡◌, ◌<◌, ◌≤◌, ℕ, zero, suc, ◌+◌, ◌-◌, ◌*◌, ◌/◌, ◌%◌, Bool, true, false, ◌||◌, if◌then◌else◌, List}
use Rattle.std.proofs.Common.{[], ◌∷◌, ◌++◌, get_or, length, nat_eq, nat_lt, Option, None, Some, option_map, refl, sym, ◌∙◌, ap}
use Rattle.std.proofs.Common.{subst, arith, ◌⊎◌, inl, inr, length-append}
use Rattle.std.specs.Prelude.{◌≢◌, ◌==◌, position}
use Rattle.std.specs.List.{AllByRecursion, IsDistinct, list_any, position_or_len}
use Rattle.std.proofs.Math.ListN.{get_or-append}
use Rattle.std.proofs.Math.Seq.{get_or-append_seam}
use Rattle.std.proofs.lemmas.Bool.{and_from, both_ways, cases_lt, eqb-false, eqb-true, eq-eqb, lt-ltb, ltb-false, ltb-true, ne_eqb}
use Rattle.std.proofs.lemmas.Bool.{or_cases}
use Rattle.std.proofs.lemmas.List.Quantifiers.{position-Some}
use Rattle.std.proofs.lemmas.Map.Steps.{length-le_from_distinct_below}
use Rattle.std.proofs.lemmas.List.Sums.{fails_before_first, position_or_len_is}
use Rattle.std.proofs.lemmas.Option.{none-some, same_Some}
use Rattle.cg_cell.specs.Domain.{GrowsAtEnd, Made, Seen, after}
use Rattle.cg_cell.proofs.Building.{extends_self}
use Rattle.cg_aig.specs.Aig.{aig_and, and_with, in_order, inverse, nodes, pair_node, pair_node_at, same_pair, simple}
use Rattle.cg_aig.specs.Values.{and_left, and_right, inverse_even, inverse_odd, parity}
use Rattle.std.specs.Cmp.{both_ways as same_bools}

-- the literal of the image of a literal's node, inverted where the literal is
abbrev pub sent : (ℕ → ℕ) → ℕ → ℕ
sent g a = 2 * g (a / 2) + a % 2

-- the first pair that is this one stands at a place
pub record IsAt (pairs : List (ℕ × ℕ)) (q : ℕ × ℕ) (j : ℕ) : Type 0 where
  pub below : j < length pairs
  pub is : get_or pairs j (0, 0) ≡ q
  pub first : (k : ℕ) → k < j → same_pair q (get_or pairs k (0, 0)) ≡ false

-- and-node k of s, with these operands, is an and-node of t with their images
pub record Goes (g : ℕ → ℕ) (s t : Seen) (k : ℕ) (p : ℕ × ℕ) : Type 0 where
  pub ordered : p.0 < p.1
  pub earlier : p.1 < 2 * nodes s
  pub place : ℕ
  pub at : IsAt t.pairs (in_order (sent g p.0) (sent g p.1)) place
  pub is : g (1 + s.number + k) ≡ 1 + t.number + place

-- the nodes of s are nodes of t
pub record Embeds (g : ℕ → ℕ) (s t : Seen) : Type 0 where
  pub origin : g 0 ≡ 0
  pub below : (k : ℕ) → k < nodes s → g k < nodes t
  pub apart : (k l : ℕ) → k < nodes s → l < nodes s → g k ≡ g l → k ≡ l
  pub leaf : (k : ℕ) → k < 1 + s.number → g k < 1 + t.number
  pub pairs : (k : ℕ) → k < length s.pairs → Goes g s t k (get_or s.pairs k (0, 0))

-- a literal of s, and that of its image
pub record IsSent (g : ℕ → ℕ) (s : Seen) (a b : ℕ) : Type 0 where
  pub valid : a < 2 * nodes s
  pub is : sent g a ≡ b

-- what was built on both: the lists are embedded still, each node as it was, and so are the answers
pub record Grown (g : ℕ → ℕ) (s s' t' : Seen) (a b : ℕ) : Type 0 where
  pub to : ℕ → ℕ
  pub embeds : Embeds to s' t'
  pub longer : nodes s ≤ nodes s'
  pub same : (k : ℕ) → k < nodes s → to k ≡ g k
  pub answer : IsSent to s' a b

-- two tests whether numbers are the same
same_test : (x y u v : ℕ) → (u ≡ v → x ≡ y) → (x ≡ y → u ≡ v) → (x == y) ≡ (u == v)
same_test x y u v f g = same_bools (x == y) (u == v) (λ h. eq-eqb u v (g (eqb-true x y h))) (λ h. eq-eqb x y (f (eqb-true u v h)))

pair_same : (p q : ℕ × ℕ) → same_pair p q ≡ true → p ≡ q
pair_same p q h =
    let e = eqb-true p.0 q.0 (and_left (p.0 == q.0) _ h) in
    let f = eqb-true p.1 q.1 (and_right (p.0 == q.0) _ h) in
    ap (λ x. (x, p.1)) e ∙ ap (λ y. (q.0, y)) f

pair_self : (p q : ℕ × ℕ) → q ≡ p → same_pair p q ≡ true
pair_self p q h = subst (λ z. same_pair p z ≡ true) (sym h) (and_from (p.0 == p.0) (p.1 == p.1) (eq-eqb p.0 p.0 refl) (eq-eqb p.1 p.1 refl))

-- places of pairs
pub found_at : (pairs : List (ℕ × ℕ)) (q : ℕ × ℕ) (j : ℕ) → position (same_pair q) pairs ≡ Some j → IsAt pairs q j
found_at pairs q j h =
    let at = position-Some (same_pair q) pairs j (0, 0) h in
    record { below = at.0; is = sym (pair_same q (get_or pairs j (0, 0)) at.1); first = at.2 }

pub at_found : (pairs : List (ℕ × ℕ)) (q : ℕ × ℕ) (j : ℕ) → IsAt pairs q j → position (same_pair q) pairs ≡ Some j
at_found pairs q j at =
    let n : position_or_len (same_pair q) pairs ≡ j = position_or_len_is (same_pair q) pairs j (0, 0) (let b = at.below in omega arith) at.first (λ _. pair_self q (get_or pairs j (0, 0)) at.is) in
    ap (λ i. if nat_lt i (length pairs) then Some i else None) n ∙ ap (λ b. if b then Some j else None) (lt-ltb j (length pairs) at.below)

pub none_at : (pairs : List (ℕ × ℕ)) (q : ℕ × ℕ) → position (same_pair q) pairs ≡ None → (k : ℕ) → k < length pairs → same_pair q (get_or pairs k (0, 0)) ≡ false
none_at pairs q h k below = go (nat_lt (position_or_len (same_pair q) pairs) (length pairs)) refl h
  where
    go : (b : Bool) → nat_lt (position_or_len (same_pair q) pairs) (length pairs) ≡ b → (if b then Some (position_or_len (same_pair q) pairs) else None) ≡ None → same_pair q (get_or pairs k (0, 0)) ≡ false
    go true is none = absurd (none-some (position_or_len (same_pair q) pairs) (sym none))
    go false is none = fails_before_first (same_pair q) pairs k (0, 0) (let e = ltb-false (position_or_len (same_pair q) pairs) (length pairs) is in omega arith)

pub at_later : (pairs more : List (ℕ × ℕ)) (q : ℕ × ℕ) (j : ℕ) → IsAt pairs q j → IsAt (pairs ++ more) q j
at_later pairs more q j at = record {
  below = let e = length-append pairs more in let b = at.below in omega arith;
  is = get_or-append pairs more (0, 0) j at.below ∙ at.is;
  first = λ k before. ap (same_pair q) (get_or-append pairs more (0, 0) k (let b = at.below in omega arith)) ∙ at.first k before;
}

-- two literals in order
abbrev by_order : Bool → ℕ → ℕ → ℕ × ℕ
by_order c a b = if c then (a, b) else (b, a)

swapped : (a b : ℕ) → a ≢ b → in_order a b ≡ in_order b a
swapped a b other = go (nat_lt a b) (nat_lt b a) refl refl
  where
    go : (c d : Bool) → nat_lt a b ≡ c → nat_lt b a ≡ d → by_order c a b ≡ by_order d b a
    go true true h k = absurd (let e = ltb-true a b h in let f = ltb-true b a k in omega arith)
    go true false h k = refl
    go false true h k = refl
    go false false h k = absurd (let e = ltb-false a b h in let f = ltb-false b a k in other (omega arith))

order_rises : (a b : ℕ) → a ≢ b → (in_order a b).0 < (in_order a b).1
order_rises a b other = go (nat_lt a b) refl
  where
    go : (c : Bool) → nat_lt a b ≡ c → (by_order c a b).0 < (by_order c a b).1
    go true h = ltb-true a b h
    go false h = let e = ltb-false a b h in omega arith

order_below : (a b n : ℕ) → a < n → b < n → (in_order a b).1 < n
order_below a b n h k = go (nat_lt a b)
  where
    go : (c : Bool) → (by_order c a b).1 < n
    go true = k
    go false = h

order_parts : (x y u v : ℕ) → in_order x y ≡ in_order u v → ((x ≡ u) × (y ≡ v)) ⊎ ((x ≡ v) × (y ≡ u))
order_parts x y u v = go (nat_lt x y) (nat_lt u v)
  where
    go : (c d : Bool) → by_order c x y ≡ by_order d u v → ((x ≡ u) × (y ≡ v)) ⊎ ((x ≡ v) × (y ≡ u))
    go true true h = inl (ap (λ (p : ℕ × ℕ). p.0) h, ap (λ (p : ℕ × ℕ). p.1) h)
    go true false h = inr (ap (λ (p : ℕ × ℕ). p.0) h, ap (λ (p : ℕ × ℕ). p.1) h)
    go false true h = inr (ap (λ (p : ℕ × ℕ). p.1) h, ap (λ (p : ℕ × ℕ). p.0) h)
    go false false h = inl (ap (λ (p : ℕ × ℕ). p.1) h, ap (λ (p : ℕ × ℕ). p.0) h)

module _ (g : ℕ → ℕ) (s t : Seen) (e : Embeds g s t) where
  sent_below : (a : ℕ) → a < 2 * nodes s → sent g a < 2 * nodes t
  sent_below a h = let k = e.below (a / 2) (omega arith) in omega arith

  sent_apart : (a b : ℕ) → a < 2 * nodes s → b < 2 * nodes s → sent g a ≡ sent g b → a ≡ b
  sent_apart a b h k same =
      let half : a / 2 ≡ b / 2 = e.apart (a / 2) (b / 2) (omega arith) (omega arith) (omega arith) in
      let rest : a % 2 ≡ b % 2 = omega arith in
      omega arith

  pub sent_zero : sent g 0 ≡ 0
  sent_zero =
      let half : 0 / 2 ≡ 0 = omega arith in
      let read : sent g 0 ≡ 2 * g 0 + 0 % 2 = ap (λ k. 2 * g k + 0 % 2) half in
      let last : 2 * g 0 + 0 % 2 ≡ 0 = omega (arith, e.origin) in
      read ∙ last

  pub sent_one : sent g 1 ≡ 1
  sent_one =
      let half : 1 / 2 ≡ 0 = omega arith in
      let read : sent g 1 ≡ 2 * g 0 + 1 % 2 = ap (λ k. 2 * g k + 1 % 2) half in
      let last : 2 * g 0 + 1 % 2 ≡ 1 = omega (arith, e.origin) in
      read ∙ last

pub sent_inverse : (g : ℕ → ℕ) (a : ℕ) → sent g (inverse a) ≡ inverse (sent g a)
sent_inverse g a = elim (parity a) [
  | inl h ↦
      let half : (a + 1) / 2 ≡ a / 2 = omega arith in
      let read : sent g (inverse a) ≡ 2 * g (a / 2) + (a + 1) % 2 = ap (sent g) (inverse_even a h) ∙ ap (λ k. 2 * g k + (a + 1) % 2) half in
      let next : 2 * g (a / 2) + (a + 1) % 2 ≡ sent g a + 1 = omega arith in
      let even : sent g a % 2 ≡ 0 = omega arith in
      read ∙ (next ∙ sym (inverse_even (sent g a) even))
  | inr h ↦
      let half : (a - 1) / 2 ≡ a / 2 = omega arith in
      let read : sent g (inverse a) ≡ 2 * g (a / 2) + (a - 1) % 2 = ap (sent g) (inverse_odd a h) ∙ ap (λ k. 2 * g k + (a - 1) % 2) half in
      let next : 2 * g (a / 2) + (a - 1) % 2 ≡ sent g a - 1 = omega arith in
      let odd : sent g a % 2 ≡ 1 = omega arith in
      read ∙ (next ∙ sym (inverse_odd (sent g a) odd))
]

-- the inverse of a literal that is sent
pub inverse_sent : (g : ℕ → ℕ) (s : Seen) (a b : ℕ) → IsSent g s a b → IsSent g s (inverse a) (inverse b)
inverse_sent g s a b h = record { valid = below (parity a); is = sent_inverse g a ∙ ap inverse h.is }
  where
    below : (a % 2 ≡ 0) ⊎ (a % 2 ≡ 1) → inverse a < 2 * nodes s
    below (inl even) = let f = inverse_even a even in let v = h.valid in omega arith
    below (inr odd) = let f = inverse_odd a odd in let v = h.valid in omega arith

-- what an `and` answers without a node, by its tests
abbrev picked : Bool → Bool → Bool → Bool → ℕ → ℕ → Option ℕ
picked none one other same a b = if none then Some 0 else if one then Some b else if other then Some a else if same then Some a else None

module _ (g : ℕ → ℕ) (s t : Seen) (e : Embeds g s t) (a b : ℕ) (h : a < 2 * nodes s) (k : b < 2 * nodes s) where
  same_zero : (x : ℕ) → x < 2 * nodes s → (sent g x == 0) ≡ (x == 0)
  same_zero x below = same_test (sent g x) 0 x 0 (λ is. ap (sent g) is ∙ sent_zero g s t e) (λ is. sent_apart g s t e x 0 below (omega arith) (is ∙ sym (sent_zero g s t e)))

  same_one : (x : ℕ) → x < 2 * nodes s → (sent g x == 1) ≡ (x == 1)
  same_one x below = same_test (sent g x) 1 x 1 (λ is. ap (sent g) is ∙ sent_one g s t e) (λ is. sent_apart g s t e x 1 below (omega arith) (is ∙ sym (sent_one g s t e)))

  inverse_below : inverse b < 2 * nodes s
  inverse_below = elim (parity b) [
    | inl even ↦ let f = inverse_even b even in omega arith
    | inr odd ↦ let f = inverse_odd b odd in omega arith
  ]

  same_inverse : (sent g a == inverse (sent g b)) ≡ (a == inverse b)
  same_inverse = same_test (sent g a) (inverse (sent g b)) a (inverse b) (λ is. ap (sent g) is ∙ sent_inverse g b) (λ is. sent_apart g s t e a (inverse b) h inverse_below (is ∙ sym (sent_inverse g b)))

  same_both : (sent g a == sent g b) ≡ (a == b)
  same_both = same_test (sent g a) (sent g b) a b (λ is. ap (sent g) is) (λ is. sent_apart g s t e a b h k is)

  same_none : (sent g a == 0 || (sent g b == 0 || sent g a == inverse (sent g b))) ≡ (a == 0 || (b == 0 || a == inverse b))
  same_none =
      ap (λ x. x || (sent g b == 0 || sent g a == inverse (sent g b))) (same_zero a h)
      ∙ (ap (λ x. a == 0 || (x || sent g a == inverse (sent g b))) (same_zero b k) ∙ ap (λ x. a == 0 || (b == 0 || x)) same_inverse)

  -- so an `and` of the images answers the image of its answer
  pub simple_sent : simple (sent g a) (sent g b) ≡ option_map (sent g) (simple a b)
  simple_sent =
      ap (λ x. picked x (sent g a == 1) (sent g b == 1) (sent g a == sent g b) (sent g a) (sent g b)) same_none
      ∙ (ap (λ x. picked (a == 0 || (b == 0 || a == inverse b)) x (sent g b == 1) (sent g a == sent g b) (sent g a) (sent g b)) (same_one a h)
      ∙ (ap (λ x. picked (a == 0 || (b == 0 || a == inverse b)) (a == 1) x (sent g a == sent g b) (sent g a) (sent g b)) (same_one b k)
      ∙ (ap (λ x. picked (a == 0 || (b == 0 || a == inverse b)) (a == 1) (b == 1) x (sent g a) (sent g b)) same_both
      ∙ go (a == 0 || (b == 0 || a == inverse b)) (a == 1) (b == 1) (a == b))))
    where
      go : (x y z w : Bool) → picked x y z w (sent g a) (sent g b) ≡ option_map (sent g) (picked x y z w a b)
      go true y z w = ap Some (sym (sent_zero g s t e))
      go false true z w = refl
      go false false true w = refl
      go false false false true = refl
      go false false false false = refl

  pub simple_below : (r : ℕ) → simple a b ≡ Some r → r < 2 * nodes s
  simple_below r = go (a == 0 || (b == 0 || a == inverse b)) (a == 1) (b == 1) (a == b)
    where
      go : (x y z w : Bool) → picked x y z w a b ≡ Some r → r < 2 * nodes s
      go true y z w is = let f = same_Some 0 r is in omega arith
      go false true z w is = let f = same_Some b r is in omega arith
      go false false true w is = let f = same_Some a r is in omega arith
      go false false false true is = let f = same_Some a r is in omega arith
      go false false false false is = absurd (none-some r is)

  pub simple_other : simple a b ≡ None → a ≡ b → ⊥
  simple_other = go (a == 0 || (b == 0 || a == inverse b)) (a == 1) (b == 1) (a == b) refl
    where
      go : (x y z w : Bool) → (a == b) ≡ w → picked x y z w a b ≡ None → a ≡ b → ⊥
      go true y z w is none = absurd (none-some 0 (sym none))
      go false true z w is none = absurd (none-some b (sym none))
      go false false true w is none = absurd (none-some a (sym none))
      go false false false true is none = absurd (none-some a (sym none))
      go false false false false is none = eqb-false a b is

  -- the images of operands in order are in order
  pub order_sent : a ≢ b → (p : ℕ × ℕ) → p ≡ in_order a b → in_order (sent g p.0) (sent g p.1) ≡ in_order (sent g a) (sent g b)
  order_sent other p is = ap (λ (z : ℕ × ℕ). in_order (sent g z.0) (sent g z.1)) is ∙ go (nat_lt a b)
    where
      go : (c : Bool) → in_order (sent g (by_order c a b).0) (sent g (by_order c a b).1) ≡ in_order (sent g a) (sent g b)
      go true = refl
      go false = swapped (sent g b) (sent g a) (λ same. other (sent_apart g s t e a b h k (sym same)))

-- a longer list has what is embedded
module _ (g : ℕ → ℕ) (s t u : Seen) (e : Embeds g s t) (number : u.number ≡ t.number) (longer : GrowsAtEnd t.pairs u.pairs) where
  nodes_longer : nodes t ≤ nodes u
  nodes_longer = let w = ap length longer.whole in let l = length-append t.pairs longer.added in omega arith

  goes_later : (k : ℕ) (p : ℕ × ℕ) → Goes g s t k p → Goes g s u k p
  goes_later k p goes = record {
    ordered = goes.ordered;
    earlier = goes.earlier;
    place = goes.place;
    at = subst (λ ps. IsAt ps (in_order (sent g p.0) (sent g p.1)) goes.place) (sym longer.whole) (at_later t.pairs longer.added (in_order (sent g p.0) (sent g p.1)) goes.place goes.at);
    is = let i = goes.is in omega arith;
  }

  pub embeds_later : Embeds g s u
  embeds_later = record {
    origin = e.origin;
    below = λ k h. let b = e.below k h in let n = nodes_longer in omega arith;
    apart = e.apart;
    leaf = λ k h. let b = e.leaf k h in omega arith;
    pairs = λ k h. goes_later k (get_or s.pairs k (0, 0)) (e.pairs k h);
  }

-- one more and-node
module _ (g : ℕ → ℕ) (s t : Seen) (e : Embeds g s t) (p : ℕ × ℕ) (ordered : p.0 < p.1) (earlier : p.1 < 2 * nodes s)
    (absent : (k : ℕ) → k < length s.pairs → get_or s.pairs k (0, 0) ≡ p → ⊥)
    (j : ℕ) (at : IsAt t.pairs (in_order (sent g p.0) (sent g p.1)) j) where
  abbrev more : Seen
  more = record { number = s.number; pairs = s.pairs ++ p ∷ [] }

  abbrev pub to_new : ℕ → ℕ
  to_new k = if nat_eq k (nodes s) then 1 + t.number + j else g k

  pub nodes_more : nodes more ≡ nodes s + 1
  nodes_more = let l = length-append s.pairs (p ∷ []) in omega arith

  pub old_node : (k : ℕ) → k < nodes s → to_new k ≡ g k
  old_node k below = ap (λ b. if b then 1 + t.number + j else g k) (ne_eqb k (nodes s) (λ is. omega arith))

  pub new_node : (k : ℕ) → k ≡ nodes s → to_new k ≡ 1 + t.number + j
  new_node k is = ap (λ b. if b then 1 + t.number + j else g k) (eq-eqb k (nodes s) is)

  old_sent : (a : ℕ) → a < 2 * nodes s → sent to_new a ≡ sent g a
  old_sent a below = ap (λ z. 2 * z + a % 2) (old_node (a / 2) (omega arith))

  -- no earlier node has this image
  taken_and : (k : ℕ) (q : ℕ × ℕ) → Goes g s t k q → (q ≡ p → ⊥) → g (1 + s.number + k) ≡ 1 + t.number + j → ⊥
  taken_and k q goes other is =
      let place : goes.place ≡ j = omega (arith, goes.is, is) in
      let same : in_order (sent g q.0) (sent g q.1) ≡ in_order (sent g p.0) (sent g p.1) = sym goes.at.is ∙ (ap (λ i. get_or t.pairs i (0, 0)) place ∙ at.is) in
      let o : q.0 < q.1 = goes.ordered in
      let f : q.1 < 2 * nodes s = goes.earlier in
      let first : q.0 < 2 * nodes s = omega arith in
      let low : p.0 < 2 * nodes s = omega arith in
      elim (order_parts (sent g q.0) (sent g q.1) (sent g p.0) (sent g p.1) same) [
        | inl both ↦
            let x : q.0 ≡ p.0 = sent_apart g s t e q.0 p.0 first low both.0 in
            let y : q.1 ≡ p.1 = sent_apart g s t e q.1 p.1 f earlier both.1 in
            other (ap (λ z. (z, q.1)) x ∙ ap (λ z. (p.0, z)) y)
        | inr across ↦
            let x : q.0 ≡ p.1 = sent_apart g s t e q.0 p.1 first earlier across.0 in
            let y : q.1 ≡ p.0 = sent_apart g s t e q.1 p.0 f low across.1 in
            absurd (omega (arith, x, y, o, ordered))
      ]

  taken_past : (l k : ℕ) → 1 + s.number + k ≡ l → k < length s.pairs → g l ≡ 1 + t.number + j → ⊥
  taken_past l k here inside is = taken_and k (get_or s.pairs k (0, 0)) (e.pairs k inside) (absent k inside) (ap g here ∙ is)

  taken : (l : ℕ) → l < nodes s → g l ≡ 1 + t.number + j → ⊥
  taken l below is = elim (cases_lt l (1 + s.number)) [
    | inl leaf ↦ let h = e.leaf l leaf in absurd (omega (arith, h, is))
    | inr past ↦ taken_past l (l - (1 + s.number)) (omega arith) (omega arith) is
  ]

  goes_more : (k : ℕ) (q : ℕ × ℕ) → k < length s.pairs → Goes g s t k q → Goes to_new more t k q
  goes_more k q inside goes =
      let o = goes.ordered in let f = goes.earlier in let n = nodes_more in
      record {
        ordered = o;
        earlier = omega arith;
        place = goes.place;
        at = subst (λ z. IsAt t.pairs z goes.place) (sym (ap (λ z. in_order z (sent to_new q.1)) (old_sent q.0 (omega arith)) ∙ ap (λ z. in_order (sent g q.0) z) (old_sent q.1 f))) goes.at;
        is = old_node (1 + s.number + k) (omega arith) ∙ goes.is;
      }

  goes_new : (k : ℕ) → k ≡ length s.pairs → Goes to_new more t k p
  goes_new k last =
      let n = nodes_more in
      record {
        ordered = ordered;
        earlier = omega arith;
        place = j;
        at = subst (λ z. IsAt t.pairs z j) (sym (ap (λ z. in_order z (sent to_new p.1)) (old_sent p.0 (omega arith)) ∙ ap (λ z. in_order (sent g p.0) z) (old_sent p.1 earlier))) at;
        is = new_node (1 + s.number + k) (omega arith);
      }

  pub embeds_new : Embeds to_new more t
  embeds_new = record {
    origin = old_node 0 (omega arith) ∙ e.origin;
    below = λ k h. elim (cases_lt k (nodes s)) [
      | inl old ↦ let b = e.below k old in let i = old_node k old in omega arith
      | inr new ↦ let n = nodes_more in let i = new_node k (omega arith) in let b = at.below in omega arith
    ];
    apart = λ k l h i same. two k l (cases_lt k (nodes s)) (cases_lt l (nodes s)) h i same;
    leaf = λ k h. let b = e.leaf k h in let i = old_node k (omega arith) in omega arith;
    pairs = λ k h. elim (cases_lt k (length s.pairs)) [
      | inl old ↦ subst (λ q. Goes to_new more t k q) (sym (get_or-append s.pairs (p ∷ []) (0, 0) k old)) (goes_more k (get_or s.pairs k (0, 0)) old (e.pairs k old))
      | inr new ↦
          let l = length-append s.pairs (p ∷ []) in
          let last : k ≡ length s.pairs = omega arith in
          subst (λ q. Goes to_new more t k q) (sym (ap (λ i. get_or (s.pairs ++ p ∷ []) i (0, 0)) last ∙ get_or-append_seam s.pairs p [] (0, 0))) (goes_new k last)
    ];
  }
    where
      two : (k l : ℕ) → (k < nodes s) ⊎ (nodes s ≤ k) → (l < nodes s) ⊎ (nodes s ≤ l) → k < nodes more → l < nodes more → to_new k ≡ to_new l → k ≡ l
      two k l (inl x) (inl y) h i same = e.apart k l x y (sym (old_node k x) ∙ (same ∙ old_node l y))
      two k l (inl x) (inr y) h i same = let n = nodes_more in absurd (taken k x (sym (old_node k x) ∙ (same ∙ new_node l (omega arith))))
      two k l (inr x) (inl y) h i same = let n = nodes_more in absurd (taken l y (sym (old_node l y) ∙ (sym same ∙ new_node k (omega arith))))
      two k l (inr x) (inr y) h i same = let n = nodes_more in omega arith

  pub grown_new : (answer : ℕ) → answer ≡ 2 * (1 + t.number + j) → Grown g s more t (2 * nodes s) answer
  grown_new answer is =
      let half : (2 * nodes s) / 2 ≡ nodes s = omega arith in
      let read : sent to_new (2 * nodes s) ≡ 2 * to_new (nodes s) + (2 * nodes s) % 2 = ap (λ z. 2 * to_new z + (2 * nodes s) % 2) half in
      let new : to_new (nodes s) ≡ 1 + t.number + j = new_node (nodes s) refl in
      let last : 2 * to_new (nodes s) + (2 * nodes s) % 2 ≡ answer = omega (arith, new, is) in
      record {
        to = to_new;
        embeds = embeds_new;
        longer = omega (arith, nodes_more);
        same = old_node;
        answer = record { valid = omega (arith, nodes_more); is = read ∙ last };
      }

-- where a pair was put it stands
record Placed (t : Seen) (q : ℕ × ℕ) (made : Made) : Type 0 where
  place : ℕ
  at : IsAt made.pairs q place
  answer : made.answer ≡ 2 * (1 + t.number + place)
  longer : GrowsAtEnd t.pairs made.pairs

placed_at : (t : Seen) (q : ℕ × ℕ) (found : Option ℕ) → position (same_pair q) t.pairs ≡ found → Placed t q (pair_node_at found t q)
placed_at t q (Some k) is = record { place = k; at = found_at t.pairs q k is; answer = refl; longer = extends_self t.pairs }
placed_at t q None is = record {
  place = length t.pairs;
  at = record {
    below = let l = length-append t.pairs (q ∷ []) in omega arith;
    is = get_or-append_seam t.pairs q [] (0, 0);
    first = λ k before. ap (same_pair q) (get_or-append t.pairs (q ∷ []) (0, 0) k before) ∙ none_at t.pairs q is k before;
  };
  answer = omega arith;
  longer = record { added = q ∷ []; whole = refl };
}

-- an `and` on both
module _ (g : ℕ → ℕ) (s t : Seen) (e : Embeds g s t) (a b : ℕ) (h : a < 2 * nodes s) (k : b < 2 * nodes s) where
  put_grown : a ≢ b → (found : Option ℕ) → position (same_pair (in_order a b)) s.pairs ≡ found
      → Grown g s (after s (pair_node_at found s (in_order a b))) (after t (pair_node t (in_order (sent g a) (sent g b)))) (pair_node_at found s (in_order a b)).answer (pair_node t (in_order (sent g a) (sent g b))).answer
  put_grown other (Some i) is =
      let p : ℕ × ℕ = in_order a b in
      let q : ℕ × ℕ = in_order (sent g a) (sent g b) in
      let here : IsAt s.pairs p i = found_at s.pairs p i is in
      let goes : Goes g s t i (get_or s.pairs i (0, 0)) = e.pairs i here.below in
      let at : IsAt t.pairs q goes.place = subst (λ z. IsAt t.pairs z goes.place) (order_sent g s t e a b h k other (get_or s.pairs i (0, 0)) here.is) goes.at in
      let found : position (same_pair q) t.pairs ≡ Some goes.place = at_found t.pairs q goes.place at in
      let half : (2 * (1 + s.number + i)) / 2 ≡ 1 + s.number + i = omega arith in
      let read : sent g (2 * (1 + s.number + i)) ≡ 2 * g (1 + s.number + i) + (2 * (1 + s.number + i)) % 2 = ap (λ n. 2 * g n + (2 * (1 + s.number + i)) % 2) half in
      let last : 2 * g (1 + s.number + i) + (2 * (1 + s.number + i)) % 2 ≡ 2 * (1 + t.number + goes.place) = omega (arith, goes.is) in
      let inside : i < length s.pairs = here.below in
      let grown : Grown g s s t (2 * (1 + s.number + i)) (2 * (1 + t.number + goes.place)) = record {
        to = g;
        embeds = e;
        longer = omega arith;
        same = λ n below. refl;
        answer = record { valid = omega arith; is = read ∙ last };
      } in
      subst (λ f. Grown g s s (after t (pair_node_at f t q)) (2 * (1 + s.number + i)) (pair_node_at f t q).answer) (sym found) grown
  put_grown other None is =
      let p : ℕ × ℕ = in_order a b in
      let q : ℕ × ℕ = in_order (sent g a) (sent g b) in
      let placed : Placed t q (pair_node t q) = placed_at t q (position (same_pair q) t.pairs) refl in
      let later : Embeds g s (after t (pair_node t q)) = embeds_later g s t (after t (pair_node t q)) e refl placed.longer in
      let at : IsAt (pair_node t q).pairs (in_order (sent g p.0) (sent g p.1)) placed.place = subst (λ z. IsAt (pair_node t q).pairs z placed.place) (sym (order_sent g s t e a b h k other p refl)) placed.at in
      grown_new g s (after t (pair_node t q)) later p (order_rises a b other) (order_below a b (2 * nodes s) h k)
      (λ n below same. both_ways (same_pair p (get_or s.pairs n (0, 0))) (none_at s.pairs p is n below) (pair_self p (get_or s.pairs n (0, 0)) same))
      placed.place at (pair_node t q).answer placed.answer

  with_grown : (found : Option ℕ) → simple a b ≡ found
      → Grown g s (after s (and_with found s (in_order a b))) (after t (and_with (option_map (sent g) found) t (in_order (sent g a) (sent g b)))) (and_with found s (in_order a b)).answer (and_with (option_map (sent g) found) t (in_order (sent g a) (sent g b))).answer
  with_grown (Some r) is = record {
    to = g;
    embeds = e;
    longer = omega arith;
    same = λ n below. refl;
    answer = record { valid = simple_below g s t e a b h k r is; is = refl };
  }
  with_grown None is = put_grown (simple_other g s t e a b h k is) (position (same_pair (in_order a b)) s.pairs) refl

  both_grown : Grown g s (after s (aig_and s a b)) (after t (aig_and t (sent g a) (sent g b))) (aig_and s a b).answer (aig_and t (sent g a) (sent g b)).answer
  both_grown =
      subst (λ f. Grown g s (after s (aig_and s a b)) (after t (and_with f t (in_order (sent g a) (sent g b)))) (aig_and s a b).answer (and_with f t (in_order (sent g a) (sent g b))).answer)
      (sym (simple_sent g s t e a b h k)) (with_grown (simple a b) refl)

pub and_grown : (g : ℕ → ℕ) (s t : Seen) → Embeds g s t → (a b x y : ℕ) → IsSent g s a x → IsSent g s b y
    → Grown g s (after s (aig_and s a b)) (after t (aig_and t x y)) (aig_and s a b).answer (aig_and t x y).answer
and_grown g s t e a b x y h k =
    subst (λ z. Grown g s (after s (aig_and s a b)) (after t (aig_and t z y)) (aig_and s a b).answer (aig_and t z y).answer) h.is
    (subst (λ z. Grown g s (after s (aig_and s a b)) (after t (aig_and t (sent g a) z)) (aig_and s a b).answer (aig_and t (sent g a) z).answer) k.is (both_grown g s t e a b h.valid k.valid))

-- different numbers below n, one for each number below m
abbrev listed : (ℕ → ℕ) → ℕ → List ℕ
listed g zero = []
listed g (suc k) = g k ∷ listed g k

among_listed : (g : ℕ → ℕ) (m n q : ℕ) → ((k : ℕ) → k < m → g k < n) → list_any (nat_eq q) (listed g m) ≡ true → q < n
among_listed g zero n q below h = absurd (both_ways false refl h)
among_listed g (suc m) n q below h = elim (or_cases (nat_eq q (g m)) (list_any (nat_eq q) (listed g m)) h) [
  | inl here ↦ let e = eqb-true q (g m) here in let b = below m (omega arith) in omega arith
  | inr later ↦ among_listed g m n q (λ k less. below k (omega arith)) later
]

not_listed : (g : ℕ → ℕ) (m q : ℕ) → ((k : ℕ) → k < m → q ≡ g k → ⊥) → AllByRecursion (λ y. nat_eq q y ≡ false) (listed g m)
not_listed g zero q none = tt
not_listed g (suc m) q none = (ne_eqb q (g m) (none m (omega arith)), not_listed g m q (λ k less. none k (omega arith)))

distinct_listed : (g : ℕ → ℕ) (m : ℕ) → ((k l : ℕ) → k < m → l < m → g k ≡ g l → k ≡ l) → IsDistinct nat_eq (listed g m)
unfolding IsDistinct
distinct_listed g zero apart = tt
distinct_listed g (suc m) apart = (
  not_listed g m (g m) (λ k less same. let e = apart m k (omega arith) (omega arith) same in absurd (omega arith)),
  distinct_listed g m (λ k l x y same. apart k l (omega arith) (omega arith) same),
)

length-listed : (g : ℕ → ℕ) (m : ℕ) → length (listed g m) ≡ m
length-listed g zero = refl
length-listed g (suc m) = ap suc (length-listed g m)

below_all : (m n : ℕ) (g : ℕ → ℕ) → ((k : ℕ) → k < m → g k < n) → ((k l : ℕ) → k < m → l < m → g k ≡ g l → k ≡ l) → m ≤ n
below_all m n g below apart =
    let e = length-listed g m in
    let h = length-le_from_distinct_below (listed g m) n (distinct_listed g m apart) (λ q among. among_listed g m n q below among) in
    omega arith

-- what is embedded has no more nodes
pub embedded_fits : (g : ℕ → ℕ) (s t : Seen) → Embeds g s t → nodes s ≤ nodes t
embedded_fits g s t e = below_all (nodes s) (nodes t) g e.below e.apart

-- Where nets are numbered in net order, every net has exactly one driver.
use Rattle.std.proofs.Common.{◌≡◌, ℕ, zero, suc, ◌+◌, ◌<◌, ◌≤◌, Bool, true, false, ◌||◌, ◌&&◌, not, cond, List, [], ◌∷◌, ◌++◌}
use Rattle.std.proofs.Common.{length, Option, None, Some, nat_eq, refl, ap, sym, ◌∙◌, subst, inl, inr, arith}
use Rattle.std.specs.List.{IsDistinct, filter, range_with_len}
use Rattle.std.specs.Option.{option_to_list}
use Rattle.std.proofs.lemmas.Bool.{eqb-true, eq-eqb, or_cases, or_left, or_right, and_parts, both_ways, cases_eq, cases_Bool}
use Rattle.std.proofs.lemmas.Bool.{false_from_ne_true, not-true}
use Rattle.cg_netlist.specs.Circuit.{Circuit, cell_nets, data_inputs, drivers, gater_outputs, net_order, register_nets}
use Rattle.cg_net.specs.NetSets.{is_in}
use Rattle.cg_netlist.specs.WellFormed.{IsDriven, IsInNetOrder}
use Rattle.cg_net.proofs.Members.{All-from_members, distinct_cons, is_in-append, is_in_cases, is_in_left, is_in_right}
use Rattle.cg_net.proofs.Members.{distinct_apart, distinct_append, distinct_head, distinct_left, distinct_right, distinct_tail}

-- the numbers from a on
pub is_in-range : (n a x : ℕ) → a ≤ x → x < a + n → is_in (range_with_len a n) x ≡ true
is_in-range zero a x low high = absurd (omega arith)
is_in-range (suc n) a x low high =
    elim (cases_eq x a) [
      | inl same ↦ or_left (nat_eq x a) (is_in (range_with_len (a + 1) n) x) (eq-eqb x a same)
      | inr other ↦ or_right (nat_eq x a) (is_in (range_with_len (a + 1) n) x) (is_in-range n (a + 1) x (omega arith) (omega arith))
    ]

pub in_range : (n a x : ℕ) → is_in (range_with_len a n) x ≡ true → (a ≤ x) × (x < a + n)
in_range zero a x among = absurd (both_ways false refl among)
in_range (suc n) a x among =
    elim (or_cases (nat_eq x a) (is_in (range_with_len (a + 1) n) x) among) [
      | inl here ↦ let same : x ≡ a = eqb-true x a here in (omega arith, omega arith)
      | inr later ↦ let found : (a + 1 ≤ x) × (x < a + 1 + n) = in_range n (a + 1) x later in (omega arith, omega arith)
    ]

pub distinct_range : (n a : ℕ) → IsDistinct nat_eq (range_with_len a n)
unfolding IsDistinct
distinct_range zero a = tt
distinct_range (suc n) a =
    distinct_cons a (range_with_len (a + 1) n) (false_from_ne_true (is_in (range_with_len (a + 1) n) a) (λ among. let found : (a + 1 ≤ a) × (a < a + 1 + n) = in_range n (a + 1) a among in let none : ⊥ = omega arith in none)) (distinct_range n (a + 1))

-- what passes a test stays, once where it stood once
is_in-filter : (p : ℕ → Bool) (xs : List ℕ) (x : ℕ) → is_in (filter p xs) x ≡ (p x && is_in xs x)
is_in-filter p [] x = elim (p x) as (λ b. false ≡ (b && false)) [ true ↦ refl | false ↦ refl ]
is_in-filter p (y ∷ ys) x = go (is_in-filter p ys x) (p y) refl
  where
    go : is_in (filter p ys) x ≡ (p x && is_in ys x) → (b : Bool) → p y ≡ b → is_in (cond b (y ∷ filter p ys) (filter p ys)) x ≡ (p x && (nat_eq x y || is_in ys x))
    go rest true passes = elim (cases_Bool (nat_eq x y)) [
      | inl same ↦ let px : p x ≡ true = ap p (eqb-true x y same) ∙ passes in rw (same, px) refl
      | inr other ↦ rw (other, rest) refl
    ]
    go rest false fails = elim (cases_Bool (nat_eq x y)) [
      | inl same ↦ let px : p x ≡ false = ap p (eqb-true x y same) ∙ fails in rw (rest, px) refl
      | inr other ↦ rw (other, rest) refl
    ]

pub distinct_filter : (p : ℕ → Bool) (xs : List ℕ) → IsDistinct nat_eq xs → IsDistinct nat_eq (filter p xs)
distinct_filter p [] distinct = distinct
distinct_filter p (y ∷ ys) distinct = go (distinct_filter p ys (distinct_tail y ys distinct)) (p y) refl
  where
    go : IsDistinct nat_eq (filter p ys) → (b : Bool) → p y ≡ b → IsDistinct nat_eq (cond b (y ∷ filter p ys) (filter p ys))
    go rest true passes = distinct_cons y (filter p ys) (is_in-filter p ys y ∙ (let none : is_in ys y ≡ false = distinct_head y ys distinct in rw (passes, none) refl)) rest
    go rest false fails = rest

distinct_option : (o : Option ℕ) → IsDistinct nat_eq (option_to_list o)
unfolding IsDistinct
distinct_option None = tt
distinct_option (Some x) = (tt, tt)

same_front : (a k : Bool) → ((not k && a) || k) ≡ (a || (not a && k))
same_front true true = refl
same_front true false = refl
same_front false true = refl
same_front false false = refl

turned : (s g r k : Bool) → (((s || g) || r) || k) ≡ (((s || k) || g) || r)
turned true g r k = refl
turned false true r true = refl
turned false true r false = refl
turned false false true true = refl
turned false false true false = refl
turned false false false true = refl
turned false false false false = refl

is_in-four : (as' bs cs ds : List ℕ) (x : ℕ) → is_in (as' ++ bs ++ cs ++ ds) x ≡ (((is_in as' x || is_in bs x) || is_in cs x) || is_in ds x)
is_in-four as' bs cs ds x =
    is_in-append (as' ++ bs ++ cs) ds x ∙ ap (λ b. b || is_in ds x) (is_in-append (as' ++ bs) cs x ∙ ap (λ b. b || is_in cs x) (is_in-append as' bs x))

module _ (c : Circuit) (order : IsInNetOrder c) where
  abbrev inputs : List ℕ
  inputs = c.inputs ++ filter (λ net. not (is_in c.inputs net)) (option_to_list c.clock)

  abbrev sources : List ℕ
  sources = data_inputs c ++ option_to_list c.clock

  distinct : IsDistinct nat_eq (net_order c)
  distinct = subst (IsDistinct nat_eq) (sym order) (distinct_range (length c.names) 0)

  -- the data inputs and the clock are the inputs, and the clock where it is none
  same_sources : (x : ℕ) → is_in sources x ≡ is_in inputs x
  same_sources x =
      is_in-append (data_inputs c) (option_to_list c.clock) x
      ∙ (ap (λ b. b || is_in (option_to_list c.clock) x) (is_in-filter (λ net. not (is_in (option_to_list c.clock) net)) c.inputs x)
      ∙ (same_front (is_in c.inputs x) (is_in (option_to_list c.clock) x)
      ∙ (ap (λ b. is_in c.inputs x || b) (sym (is_in-filter (λ net. not (is_in c.inputs net)) (option_to_list c.clock) x))
      ∙ sym (is_in-append c.inputs (filter (λ net. not (is_in c.inputs net)) (option_to_list c.clock)) x))))

  same_members : (x : ℕ) → is_in (drivers c) x ≡ is_in (net_order c) x
  same_members x =
      is_in-four sources (gater_outputs c) (register_nets c) (cell_nets c) x
      ∙ (turned (is_in sources x) (is_in (gater_outputs c) x) (is_in (register_nets c) x) (is_in (cell_nets c) x)
      ∙ (ap (λ b. ((b || is_in (cell_nets c) x) || is_in (gater_outputs c) x) || is_in (register_nets c) x) (same_sources x)
      ∙ sym (is_in-four inputs (cell_nets c) (gater_outputs c) (register_nets c) x)))

  -- the fronts of net order
  three : IsDistinct nat_eq (inputs ++ cell_nets c ++ gater_outputs c)
  three = distinct_left (inputs ++ cell_nets c ++ gater_outputs c) (register_nets c) distinct

  two : IsDistinct nat_eq (inputs ++ cell_nets c)
  two = distinct_left (inputs ++ cell_nets c) (gater_outputs c) three

  distinct_sources : IsDistinct nat_eq sources
  distinct_sources =
      distinct_append (data_inputs c) (option_to_list c.clock)
      (distinct_filter (λ net. not (is_in (option_to_list c.clock) net)) c.inputs (distinct_left c.inputs (filter (λ net. not (is_in c.inputs net)) (option_to_list c.clock)) (distinct_left inputs (cell_nets c) two)))
      (distinct_option c.clock)
      (λ x among. not-true (is_in (option_to_list c.clock) x) ((and_parts (not (is_in (option_to_list c.clock) x)) (is_in c.inputs x) (sym (is_in-filter (λ net. not (is_in (option_to_list c.clock) net)) c.inputs x) ∙ among)).0))

  source_apart : (x : ℕ) → is_in sources x ≡ true → is_in (cell_nets c) x ≡ false
  source_apart x among = distinct_apart inputs (cell_nets c) two x (sym (same_sources x) ∙ among)

  gate_apart : (x : ℕ) → is_in (inputs ++ cell_nets c) x ≡ true → is_in (gater_outputs c) x ≡ false
  gate_apart x among = distinct_apart (inputs ++ cell_nets c) (gater_outputs c) three x among

  register_apart : (x : ℕ) → is_in (inputs ++ cell_nets c ++ gater_outputs c) x ≡ true → is_in (register_nets c) x ≡ false
  register_apart x among = distinct_apart (inputs ++ cell_nets c ++ gater_outputs c) (register_nets c) distinct x among

  -- a source stands in each front
  source_in_two : (x : ℕ) → is_in sources x ≡ true → is_in (inputs ++ cell_nets c) x ≡ true
  source_in_two x among = is_in_left inputs (cell_nets c) x (sym (same_sources x) ∙ among)

  cell_in_two : (x : ℕ) → is_in (cell_nets c) x ≡ true → is_in (inputs ++ cell_nets c) x ≡ true
  cell_in_two x among = is_in_right inputs (cell_nets c) x among

  in_three : (x : ℕ) → is_in (inputs ++ cell_nets c) x ≡ true → is_in (inputs ++ cell_nets c ++ gater_outputs c) x ≡ true
  in_three x among = is_in_left (inputs ++ cell_nets c) (gater_outputs c) x among

  no_cell : (x : ℕ) → is_in (sources ++ gater_outputs c ++ register_nets c) x ≡ true → is_in (cell_nets c) x ≡ false
  no_cell x among = false_from_ne_true (is_in (cell_nets c) x) (λ cell. elim (is_in_cases (sources ++ gater_outputs c) (register_nets c) x among) [
    | inl front ↦ elim (is_in_cases sources (gater_outputs c) x front) [
      | inl source ↦ both_ways (is_in (cell_nets c) x) (source_apart x source) cell
      | inr gate ↦ both_ways (is_in (gater_outputs c) x) (gate_apart x (cell_in_two x cell)) gate
    ]
    | inr register ↦ both_ways (is_in (register_nets c) x) (register_apart x (in_three x (cell_in_two x cell))) register
  ])

  once : IsDistinct nat_eq (drivers c)
  once =
      distinct_append (sources ++ gater_outputs c ++ register_nets c) (cell_nets c)
      (distinct_append (sources ++ gater_outputs c) (register_nets c)
      (distinct_append sources (gater_outputs c) distinct_sources (distinct_right (inputs ++ cell_nets c) (gater_outputs c) three) (λ x source. gate_apart x (source_in_two x source)))
      (distinct_right (inputs ++ cell_nets c ++ gater_outputs c) (register_nets c) distinct)
      (λ x among. elim (is_in_cases sources (gater_outputs c) x among) [
        | inl source ↦ register_apart x (in_three x (source_in_two x source))
        | inr gate ↦ register_apart x (is_in_right (inputs ++ cell_nets c) (gater_outputs c) x gate)
      ]))
      (distinct_right inputs (cell_nets c) two)
      no_cell

  pub driven_in_order : IsDriven c
  driven_in_order = record {
    driven = λ x below. same_members x ∙ (ap (λ xs. is_in xs x) order ∙ is_in-range (length c.names) 0 x (omega arith) (omega arith));
    once = once;
    nets = All-from_members (λ x. x < length c.names) (drivers c) (λ x among. let found : (0 ≤ x) × (x < 0 + length c.names) = in_range (length c.names) 0 x (sym (ap (λ xs. is_in xs x) order) ∙ (sym (same_members x) ∙ among)) in omega arith);
  }

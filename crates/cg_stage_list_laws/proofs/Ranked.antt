-- The literals of a register stand by how often they are 0, and those that are 0 as often in net order, plain before inverted.
use Rattle.std.proofs.Common.{◌≡◌, ℕ, zero, suc, ◌+◌, ◌<◌, ◌≤◌, Bool, true, false, if◌then◌else◌, cond, List, [], ◌∷◌, length, nat_eq}
use Rattle.std.proofs.Common.{nat_le, slice_get, Option, None, Some, refl, sym, ◌∙◌, ap, subst, arith, ◌⊎◌, inl, inr}
use Rattle.std.specs.List.{filter, range_with_len}
use Rattle.std.proofs.lemmas.Bool.{both_ways, eq-eqb, eqb-true, leb-false, leb-true, or_cases, or_left, or_right}
use Rattle.std.proofs.lemmas.Option.{none-some, same_Some}
use Rattle.cg_machine.specs.Claims.{Literal}
use Rattle.cg_machine.specs.Machine.{IsMachine, MachineData, walk_of}
use Rattle.cg_claim.specs.Reach.{inputs_of_register}
use Rattle.cg_net.specs.NetSets.{is_in}
use Rattle.cg_netlist.proofs.Driven.{in_range, is_in-range}
use Rattle.cg_netlist.proofs.Filtered.{in_filter, to_filter}
use Rattle.cg_stage_list_laws.specs.Literals.{ZeroCounts, both_literals, by_count, insert_literal, literals_of, zero_count}
use Rattle.cg_stage_list_laws.specs.Ranked.{AreRanked, IsBefore, LiteralsAreRanked, Precedes}
use Rattle.cg_stage_list_laws.specs.Supports.{all_nets, in_net_order, input_cone}
use Rattle.cg_stage_list_laws.proofs.Among.{Among, among_cons, among_none, later}
use Rattle.cg_stage_list_laws.proofs.HoldFits.{both_among, sorted_among}
use Rattle.cg_stage_list_laws.proofs.UsedNets.{cone_used, inputs_used, used_net}

-- a literal stands so to each literal of a list, and each literal of a list stands so to those behind it
abbrev ToAll : (Literal → Literal → Type 0) → Literal → List Literal → Type 0
ToAll R l [] = Unit {0}
ToAll R l (k ∷ ls) = R l k × ToAll R l ls

abbrev InOrder : (Literal → Literal → Type 0) → List Literal → Type 0
InOrder R [] = Unit {0}
InOrder R (l ∷ ls) = ToAll R l ls × InOrder R ls

to_all_map : (R S : Literal → Literal → Type 0) (l k : Literal) → ((j : Literal) → R l j → S k j) → (ls : List Literal) → ToAll R l ls → ToAll S k ls
to_all_map R S l k f [] all = tt
to_all_map R S l k f (j ∷ ls) all = (f j all.0, to_all_map R S l k f ls all.1)

to_each : (R : Literal → Literal → Type 0) (l : Literal) (ls : List Literal) → ToAll R l ls → (j : ℕ) (k : Literal) → slice_get ls j ≡ Some k → R l k
to_each R l [] all j k at = absurd (none-some k at)
to_each R l (x ∷ ls) all zero k at = subst (R l) (same_Some x k at) all.0
to_each R l (x ∷ ls) all (suc j) k at = to_each R l ls all.1 j k at

at_places : (R : Literal → Literal → Type 0) (ls : List Literal) → InOrder R ls → (i j : ℕ) (l k : Literal) → i < j → slice_get ls i ≡ Some l → slice_get ls j ≡ Some k → R l k
at_places R [] order i j l k low at to = absurd (none-some l at)
at_places R (x ∷ ls) order zero zero l k low at to = absurd (omega (arith, low))
at_places R (x ∷ ls) order zero (suc j) l k low at to = subst (λ y. R y k) (same_Some x l at) (to_each R x ls order.0 j k to)
at_places R (x ∷ ls) order (suc i) zero l k low at to = absurd (omega (arith, low))
at_places R (x ∷ ls) order (suc i) (suc j) l k low at to = at_places R ls order.1 i j l k (omega (arith, low)) at to

-- the literals of nets from one on
module _ (test : ℕ → Bool) where
  above : (l : Literal) (n a : ℕ) → l.0 < a → ToAll IsBefore l (both_literals (filter test (range_with_len a n)))
  above l zero a low = tt
  above l (suc n) a low = go (test a) (above l n (a + 1) (omega (arith, low)))
    where
      go : (b : Bool) → ToAll IsBefore l (both_literals (filter test (range_with_len (a + 1) n))) → ToAll IsBefore l (both_literals (cond b (a ∷ filter test (range_with_len (a + 1) n)) (filter test (range_with_len (a + 1) n))))
      go true rest = (inl low, (inl low, rest))
      go false rest = rest

  nets_ordered : (n a : ℕ) → InOrder IsBefore (both_literals (filter test (range_with_len a n)))
  nets_ordered zero a = tt
  nets_ordered (suc n) a = go (test a) (nets_ordered n (a + 1))
    where
      go : (b : Bool) → InOrder IsBefore (both_literals (filter test (range_with_len (a + 1) n))) → InOrder IsBefore (both_literals (cond b (a ∷ filter test (range_with_len (a + 1) n)) (filter test (range_with_len (a + 1) n))))
      go true rest = ((inr (refl, refl, refl), above (a, false) n (a + 1) (omega arith)), (above (a, true) n (a + 1) (omega arith), rest))
      go false rest = rest

module _ (counts : Option ZeroCounts) where
  no_more : (l k : Literal) → Precedes counts l k → zero_count counts k ≤ zero_count counts l
  no_more l k (inl fewer) = omega (arith, fewer)
  no_more l k (inr as_many) = let same = as_many.0 in omega (arith, same)

  as_often : (l k : Literal) → zero_count counts k ≤ zero_count counts l → IsBefore l k → Precedes counts l k
  as_often l k most before = go (less_or (zero_count counts k) (zero_count counts l) most)
    where
      less_or : (a b : ℕ) → a ≤ b → (a < b) ⊎ (b ≡ a)
      less_or zero zero h = inr refl
      less_or zero (suc b) h = inl (omega arith)
      less_or (suc a) zero h = absurd (omega (arith, h))
      less_or (suc a) (suc b) h = elim (less_or a b (omega (arith, h))) [ inl low ↦ inl (omega (arith, low)) | inr same ↦ inr (omega (arith, same)) ]

      go : (zero_count counts k < zero_count counts l) ⊎ (zero_count counts l ≡ zero_count counts k) → Precedes counts l k
      go (inl fewer) = inl fewer
      go (inr same) = inr (same, before)

  -- what stands so to a literal and to each of a list stands so to each of the list with it
  to_inserted : (l k : Literal) (ls : List Literal) → Precedes counts k l → ToAll (Precedes counts) k ls → ToAll (Precedes counts) k (insert_literal counts l ls)
  to_inserted l k [] one all = (one, tt)
  to_inserted l k (j ∷ ls) one all = go (nat_le (zero_count counts j) (zero_count counts l)) (to_inserted l k ls one all.1)
    where
      go : (b : Bool) → ToAll (Precedes counts) k (insert_literal counts l ls) → ToAll (Precedes counts) k (if b then l ∷ j ∷ ls else j ∷ insert_literal counts l ls)
      go true rest = (one, all)
      go false rest = (all.0, rest)

  before_all : (l : Literal) (n : ℕ) (ls : List Literal) → n ≤ zero_count counts l → ToAll (λ l k. zero_count counts k ≤ n) l ls → ToAll IsBefore l ls → ToAll (Precedes counts) l ls
  before_all l n [] most few before = tt
  before_all l n (k ∷ ls) most few before = (let low = few.0 in as_often l k (omega (arith, low, most)) before.0, before_all l n ls most few.1 before.1)

  inserted_order : (l : Literal) (ls : List Literal) → ToAll IsBefore l ls → InOrder (Precedes counts) ls → InOrder (Precedes counts) (insert_literal counts l ls)
  inserted_order l [] before order = (tt, tt)
  inserted_order l (k ∷ ls) before order = go (nat_le (zero_count counts k) (zero_count counts l)) refl (inserted_order l ls before.1 order.1)
    where
      go : (b : Bool) → nat_le (zero_count counts k) (zero_count counts l) ≡ b → InOrder (Precedes counts) (insert_literal counts l ls) → InOrder (Precedes counts) (if b then l ∷ k ∷ ls else k ∷ insert_literal counts l ls)
      go true is rest =
          let most : zero_count counts k ≤ zero_count counts l = leb-true (zero_count counts k) (zero_count counts l) is in
          ((as_often l k most before.0, before_all l (zero_count counts k) ls most (to_all_map (Precedes counts) (λ l j. zero_count counts j ≤ zero_count counts k) k l (λ j. no_more k j) ls order.0) before.1), order)
      go false is rest = (to_inserted l k ls (inl (leb-false (zero_count counts k) (zero_count counts l) is)) order.0, rest)

  -- what stands so to each of a list stands so to each of the sorted list
  to_sorted : (R : Literal → Literal → Type 0) (k : Literal) (ls : List Literal) → ToAll R k ls → ToAll R k (by_count counts ls)
  to_sorted R k [] all = tt
  to_sorted R k (l ∷ ls) all = put (by_count counts ls) (to_sorted R k ls all.1)
    where
      put : (js : List Literal) → ToAll R k js → ToAll R k (insert_literal counts l js)
      put [] rest = (all.0, tt)
      put (j ∷ js) rest = go (nat_le (zero_count counts j) (zero_count counts l)) (put js rest.1)
        where
          go : (b : Bool) → ToAll R k (insert_literal counts l js) → ToAll R k (if b then l ∷ j ∷ js else j ∷ insert_literal counts l js)
          go true more = (all.0, rest)
          go false more = (rest.0, more)

  sorted_order : (ls : List Literal) → InOrder IsBefore ls → InOrder (Precedes counts) (by_count counts ls)
  sorted_order [] order = tt
  sorted_order (l ∷ ls) order = inserted_order l (by_count counts ls) (to_sorted IsBefore l ls order.0) (sorted_order ls order.1)

  -- all that is sorted is there
  in_inserted : (l : Literal) (ls : List Literal) (k : Literal) → (l ≡ k) ⊎ Among k ls → Among k (insert_literal counts l ls)
  in_inserted l [] k (inl same) = record { place = 0; at = ap Some same }
  in_inserted l [] k (inr none) = absurd (among_none k none)
  in_inserted l (j ∷ ls) k which = go (nat_le (zero_count counts j) (zero_count counts l)) which (in_inserted l ls k)
    where
      go : (b : Bool) → (l ≡ k) ⊎ Among k (j ∷ ls) → ((l ≡ k) ⊎ Among k ls → Among k (insert_literal counts l ls)) → Among k (if b then l ∷ j ∷ ls else j ∷ insert_literal counts l ls)
      go true (inl same) rest = record { place = 0; at = ap Some same }
      go true (inr among) rest = later k l (j ∷ ls) among
      go false (inl same) rest = later k j (insert_literal counts l ls) (rest (inl same))
      go false (inr among) rest = elim (among_cons k j ls among) [
        | inl first ↦ record { place = 0; at = ap Some first }
        | inr more ↦ later k j (insert_literal counts l ls) (rest (inr more))
      ]

  in_sorted : (ls : List Literal) (k : Literal) → Among k ls → Among k (by_count counts ls)
  in_sorted [] k a = a
  in_sorted (l ∷ ls) k a = in_inserted l (by_count counts ls) k (elim (among_cons k l ls a) [ inl same ↦ inl same | inr more ↦ inr (in_sorted ls k more) ])

  -- none precedes itself
  not_itself : (l : Literal) → Precedes counts l l → ⊥
  not_itself l (inl fewer) = omega (arith, fewer)
  not_itself l (inr (same, inl less)) = omega (arith, less)
  not_itself l (inr (same, inr both)) = both_ways l.1 both.1 both.2

-- both literals of each net
both_there : (nets : List ℕ) (y : ℕ) (inverted : Bool) → is_in nets y ≡ true → Among (y, inverted) (both_literals nets)
both_there [] y inverted among = absurd (both_ways false refl among)
both_there (x ∷ nets) y inverted among = elim (or_cases (nat_eq y x) (is_in nets y) among) [
  | inl same ↦ subst (λ z. Among (y, inverted) ((z, false) ∷ (z, true) ∷ both_literals nets)) (eqb-true y x same) (one inverted)
  | inr more ↦ later (y, inverted) (x, false) ((x, true) ∷ both_literals nets) (later (y, inverted) (x, true) (both_literals nets) (both_there nets y inverted more))
]
  where
    one : (b : Bool) → Among (y, b) ((y, false) ∷ (y, true) ∷ both_literals nets)
    one false = record { place = 0; at = refl }
    one true = record { place = 1; at = refl }

pub literals_ranked : LiteralsAreRanked
literals_ranked m counts r good = record {
  there = λ net inverted among.
      let used = used_net m good net (cone_used m good (walk_of m) good.walk.of_cells (inputs_of_register m r) (inputs_used m good r) net among) in
      let in_all : is_in (all_nets m) net ≡ true = is_in-range (length m.circuit.names) 0 net (omega arith) (let low = used.below in omega (arith, low)) in
      let a = in_sorted counts ls (net, inverted) (both_there nets net inverted (to_filter (is_in (input_cone m r)) (all_nets m) net in_all among)) in
      (a.place, a.at);
  only = λ place l at. (in_filter (is_in (input_cone m r)) (all_nets m) l.0 (both_among m good nets l (sorted_among m good counts ls l (record { place = place; at = at })))).1;
  once = λ i j l at to. elim (three i j) [
    | inl same ↦ same
    | inr (inl low) ↦ absurd (not_itself counts l (ranked i j l l low at to))
    | inr (inr low) ↦ absurd (not_itself counts l (ranked j i l l low to at))
  ];
  ranked = ranked;
}
  where
    nets : List ℕ
    nets = in_net_order m (input_cone m r)

    ls : List Literal
    ls = both_literals (in_net_order m (input_cone m r))

    ranked : (i j : ℕ) (l k : Literal) → i < j → slice_get (literals_of m counts r) i ≡ Some l → slice_get (literals_of m counts r) j ≡ Some k → Precedes counts l k
    ranked i j l k low at to = at_places (Precedes counts) (literals_of m counts r) (sorted_order counts (both_literals (in_net_order m (input_cone m r))) (nets_ordered (is_in (input_cone m r)) (length m.circuit.names) 0)) i j l k low at to

    three : (i j : ℕ) → (i ≡ j) ⊎ ((i < j) ⊎ (j < i))
    three zero zero = inl refl
    three zero (suc j) = inr (inl (omega arith))
    three (suc i) zero = inr (inr (omega arith))
    three (suc i) (suc j) = elim (three i j) [
      | inl same ↦ inl (ap suc same)
      | inr (inl low) ↦ inr (inl (omega (arith, low)))
      | inr (inr low) ↦ inr (inr (omega (arith, low)))
    ]

-- Each step of the search for ranks keeps it sound, and brings it nearer to its end.
use Rattle.std.proofs.Common.{[], ℕ, zero, suc, ◌+◌, ◌<◌, ◌≡◌, ◌≢◌, ◌⊎◌, inl, inr, List, ◌∷◌, ◌++◌, Option, Some, None, Bool, true}
use Rattle.std.proofs.Common.{false, not, cond, is_some, length, take, set, get_or, refl, sym, ap, ◌∙◌, subst, arith, unwrap_or, nat_eq}
use Rattle.std.proofs.lemmas.Bool.{or_cases, eqb-true}
use Rattle.std.specs.List.{All, slice_get, count_by}
use Rattle.std.proofs.lemmas.List.{length-set, length_push, take_all}
use Rattle.std.proofs.lemmas.Option.{same_Some, none-some, slice_get_within, slice_get-get_or}
use Rattle.std.proofs.lemmas.List.Elements.{All-head, All-tail}
use Rattle.std.proofs.lemmas.List.Sums.{sum_by-set}
use Rattle.cg_netlist.specs.declared.ranks.Progress.{Progress}
use Rattle.cg_net.specs.NetSets.{is_in}
use Rattle.cg_netlist.specs.inner.Ranking.{Advances, HasLooked, IsAbove, IsStacked, IsLost, IsPending, IsSound, Looks, NamesCells, Search}
use Rattle.cg_netlist.specs.inner.Ranking.{cells_above, entered, entry, given_up, met, rank_under, was_seen, with_rank, with_top}
use Rattle.cg_netlist.proofs.RankLemmas.{next_rank-bound, next_rank-more}
use Rattle.cg_netlist.proofs.EntryLemmas.{entry-set_other, entry-set_same, entry_or}
use Rattle.cg_net.proofs.TableLemmas.{front_get, same_or_not, slice_get-set_other, slice_get-set_same}

-- a list with one more element

pub get_last : {X : Type 0} (xs : List X) (y : X) → slice_get (xs ++ y ∷ []) (length xs) ≡ Some y
get_last [] y = refl
get_last (x ∷ xs) y = get_last xs y

pub push_cases : {X : Type 0} (xs : List X) (y z : X) (i : ℕ) → slice_get (xs ++ y ∷ []) i ≡ Some z → (slice_get xs i ≡ Some z) ⊎ ((i ≡ length xs) × (y ≡ z))
push_cases [] y z zero at = inr (refl, same_Some y z at)
push_cases [] y z (suc i) at = absurd (cc)
push_cases (x ∷ xs) y z zero at = inl at
push_cases (x ∷ xs) y z (suc i) at = elim (push_cases xs y z i at) [ inl h ↦ inl h | inr h ↦ inr (ap suc h.0, h.1) ]

-- what stands in another table's place of one whose last entry is of the same cell
same_cells : (stack : List Progress) (p q t : Progress) (i : ℕ) → p.cell ≡ q.cell → slice_get (stack ++ q ∷ []) i ≡ Some t → (u : Progress) × (slice_get (stack ++ p ∷ []) i ≡ Some u) × (u.cell ≡ t.cell)
same_cells stack p q t i same at = elim (push_cases stack q t i at) [
  | inl h ↦ (t, front_get stack (p ∷ []) i t h, refl)
  | inr h ↦ (p, ap (slice_get (stack ++ p ∷ [])) h.0 ∙ get_last stack p, same ∙ ap (λ x. x.cell) h.1)
]

-- what holds of all cells of a list holds of each that is in it
in_all : (n : ℕ) (js : List ℕ) (j : ℕ) → All (λ i. i < n) js → is_in js j ≡ true → j < n
in_all n [] j all in' = absurd (cc)
in_all n (i ∷ js) j all in' = elim (or_cases (nat_eq j i) (is_in js j) in') [
  | inl here ↦ let same : j ≡ i = eqb-true j i here in omega (arith, All-head (λ i. i < n) i js all, same)
  | inr there ↦ in_all n js j (All-tail (λ i. i < n) i js all) there
]

-- which cells stand on the stack

abbrev StandsOn : List Progress → ℕ → Type 0
StandsOn stack k = (i : ℕ) × (p : Progress) × (slice_get stack i ≡ Some p) × (p.cell ≡ k)

abbrev pub IsOff : List Progress → ℕ → Type 0
IsOff stack k = (i : ℕ) (p : Progress) → slice_get stack i ≡ Some p → p.cell ≢ k

pub none_on : (k : ℕ) → IsOff [] k
none_on k i p at = absurd (cc)

off_more : (q : Progress) (stack : List Progress) (k : ℕ) → q.cell ≢ k → IsOff stack k → IsOff (q ∷ stack) k
off_more q stack k other off zero p at = λ same. other (ap (λ x. x.cell) (same_Some q p at) ∙ same)
off_more q stack k other off (suc i) p at = off i p at

on_or_off : (stack : List Progress) (k : ℕ) → StandsOn stack k ⊎ IsOff stack k
on_or_off [] k = inr (none_on k)
on_or_off (q ∷ stack) k = elim (same_or_not q.cell k) [
  | inl e ↦ inl (0, q, refl, e)
  | inr other ↦ elim (on_or_off stack k) [ inl on ↦ inl (suc on.0, on.1, on.2, on.3) | inr off ↦ inr (off_more q stack k other off) ]
]

-- which cells were seen

seen_within : (seen : List Bool) (k : ℕ) → unwrap_or (slice_get seen k) false ≡ true → k < length seen
seen_within [] k is = absurd (cc)
seen_within (b ∷ seen) zero is = omega arith
seen_within (b ∷ seen) (suc k) is = omega (arith, seen_within seen k is)

pub seen_now : (s : Search) (k : ℕ) → k < length s.seen → was_seen (entered s k) k ≡ true
seen_now s k k_in = ap (λ o. unwrap_or o false) (slice_get-set_same s.seen k true k_in)

seen_other : (s : Search) (k j : ℕ) → j ≢ k → was_seen (entered s k) j ≡ was_seen s j
seen_other s k j other = ap (λ o. unwrap_or o false) (slice_get-set_other s.seen k j true other)

seen_still : (s : Search) (k j : ℕ) → k < length s.seen → was_seen s j ≡ true → was_seen (entered s k) j ≡ true
seen_still s k j k_in is = elim (same_or_not j k) [
  | inl e ↦ ap (was_seen (entered s k)) e ∙ seen_now s k k_in
  | inr other ↦ seen_other s k j other ∙ is
]

not_both : (b : Bool) → b ≡ true → b ≡ false → ⊥
not_both b yes' no' = cc

-- a cell that was seen is another than one that was not
unlike : (s : Search) (j k : ℕ) → was_seen s j ≡ true → was_seen s k ≡ false → j ≢ k
unlike s j k is not' = λ e. not_both (was_seen s j) is (ap (was_seen s) e ∙ not')

unseen_fewer : (seen : List Bool) (k : ℕ) → k < length seen → unwrap_or (slice_get seen k) false ≡ false → count_by not (set seen k true) + 1 ≡ count_by not seen
unseen_fewer seen k k_in is =
    let f : Bool → ℕ = λ b. cond (not b) 1 0 in
    let here : f (get_or seen k false) ≡ 1 = ap f (was seen k ∙ is) in
    omega (arith, sum_by-set f seen k true false k_in, here)
  where
    was : (seen : List Bool) (k : ℕ) → get_or seen k false ≡ unwrap_or (slice_get seen k) false
    was [] k = refl
    was (b ∷ seen) zero = refl
    was (b ∷ seen) (suc k) = was seen k

-- the table of ranks

more_ranks : (s : Search) (k r : ℕ) → entry s.ranks k ≡ None → (j q : ℕ) → entry s.ranks j ≡ Some q → entry (set s.ranks k (Some r)) j ≡ Some q
more_ranks s k r unranked j q is = elim (same_or_not j k) [
  | inl e ↦ absurd (none-some q (sym unranked ∙ (ap (entry s.ranks) (sym e) ∙ is)))
  | inr e ↦ entry-set_other s.ranks k j (Some r) e ∙ is
]

counted_more : (ranks : List (Option ℕ)) (k r : ℕ) → k < length ranks → entry ranks k ≡ None → count_by is_some (set ranks k (Some r)) ≡ count_by is_some ranks + 1
counted_more ranks k r k_in unranked =
    let f : Option ℕ → ℕ = λ o. cond (is_some o) 1 0 in
    let here : f (get_or ranks k None) ≡ 0 = ap f (entry_or ranks k ∙ unranked) in
    omega (arith, sum_by-set f ranks k (Some r) None k_in, here)

module _ (above : List (List ℕ)) where
  above_in : (k j : ℕ) → NamesCells above → IsAbove above k j → j < length above
  above_in k j names under = in_all (length above) (cells_above above k) j (names k) under

  -- a cell that was not seen has no rank
  unseen_unranked : (s : Search) (k : ℕ) → IsSound above s → was_seen s k ≡ false → entry s.ranks k ≡ None
  unseen_unranked s k sound unseen = at (entry s.ranks k) refl
    where
      at : (o : Option ℕ) → entry s.ranks k ≡ o → o ≡ None
      at None e = refl
      at (Some r) e = absurd (not_both (was_seen s k) (sound.ranked_seen k r e) unseen)

  pub top_stacked : (s : Search) (p : Progress) → IsSound above (with_top s p) → IsStacked above (with_top s p) p
  top_stacked s p sound = sound.stacked (length s.stack) p (get_last s.stack p)

  pub top_within : (s : Search) (p : Progress) → IsSound above (with_top s p) → p.cell < length above
  top_within s p sound = omega (arith, seen_within s.seen p.cell (top_stacked s p sound).pending.0, sound.seen_fits)

  -- looking on at the cells above the top keeps the search sound
  looked_on : (s : Search) (p q : Progress) → IsSound above (with_top s p) → q.cell ≡ p.cell
      → HasLooked s.ranks (cells_above above q.cell) q → IsSound above (with_top s q)
  looked_on s p q sound same looked = record {
    ranks_fit = sound.ranks_fit;
    seen_fits = sound.seen_fits;
    small = sound.small;
    ranked = sound.ranked;
    ranked_seen = sound.ranked_seen;
    stacked = λ i t at. elim (push_cases s.stack q t i at) [
      | inl h ↦ let e = sound.stacked i t (front_get s.stack (p ∷ []) i t h) in record { pending = e.pending; looked = e.looked }
      | inr h ↦ subst (IsStacked above (with_top s q)) h.1 (record { pending = subst (IsPending s) (sym same) (top_stacked s p sound).pending; looked = looked })
    ];
    once = λ i j t u at there is.
        let x = same_cells s.stack p q t i (sym same) at in
        let y = same_cells s.stack p q u j (sym same) there in
        sound.once i j x.0 y.0 x.1 y.1 (x.2 ∙ (is ∙ sym y.2));
    rises = λ i t u at there.
        let x = same_cells s.stack p q t i (sym same) at in
        let y = same_cells s.stack p q u (i + 1) (sym same) there in
        subst (λ k. IsAbove above k u.cell) x.2 (subst (IsAbove above x.0.cell) y.2 (sound.rises i x.0 y.0 x.1 y.1));
    lost = λ k lost.
        let w = sound.lost k (record { pending = lost.pending; off = λ i t at is. let x = same_cells s.stack q p t i same at in lost.off i x.0 x.1 (x.2 ∙ is) }) in
        (w.0, w.1, record { pending = w.2.pending; off = λ i t at is. let x = same_cells s.stack p q t i (sym same) at in w.2.off i x.0 x.1 (x.2 ∙ is) });
  }

  -- the top gets its rank, when all cells above it were looked at
  module _ (s : Search) (p : Progress) (sound : IsSound above (with_top s p)) (all : p.place ≡ length (cells_above above p.cell)) where
    abbrev ranks : List (Option ℕ)
    ranks = set s.ranks p.cell (Some p.rank)

    top_in : p.cell < length s.ranks
    top_in = omega (arith, top_within s p sound, sound.ranks_fit)

    more : (j q : ℕ) → entry s.ranks j ≡ Some q → entry ranks j ≡ Some q
    more = more_ranks s p.cell p.rank (top_stacked s p sound).pending.1

    is : rank_under s.ranks (cells_above above p.cell) ≡ Some p.rank
    is = ap (rank_under s.ranks) (sym (take_all p.place (cells_above above p.cell) (omega (arith, all)))) ∙ (top_stacked s p sound).looked.rank

    given : (j q : ℕ) → j ≡ p.cell → entry ranks j ≡ Some q → p.rank ≡ q
    given j q e at = same_Some p.rank q (sym (entry-set_same s.ranks p.cell (Some p.rank) top_in) ∙ (ap (entry ranks) (sym e) ∙ at))

    kept : (j : ℕ) (o : Option ℕ) → j ≢ p.cell → entry ranks j ≡ o → entry s.ranks j ≡ o
    kept j o other at = sym (entry-set_other s.ranks p.cell j (Some p.rank) other) ∙ at

    counted : count_by is_some ranks ≡ count_by is_some s.ranks + 1
    counted = counted_more s.ranks p.cell p.rank top_in (top_stacked s p sound).pending.1

    ranked_small : (j q : ℕ) → entry ranks j ≡ Some q → q < count_by is_some ranks
    ranked_small j q at = elim (same_or_not j p.cell) [
      | inl e ↦
          let bound = next_rank-bound (entry s.ranks) (cells_above above p.cell) p.rank (count_by is_some s.ranks) sound.small is in
          omega (arith, bound, counted, given j q e at)
      | inr e ↦ omega (arith, sound.small j q (kept j (Some q) e at), counted)
    ]

    ranked_still : (j q : ℕ) → entry ranks j ≡ Some q → rank_under ranks (cells_above above j) ≡ Some q
    ranked_still j q at =
        next_rank-more (entry s.ranks) (entry ranks) (cells_above above j) q more (elim (same_or_not j p.cell) [
          | inl e ↦ ap (λ i. rank_under s.ranks (cells_above above i)) e ∙ (is ∙ ap Some (given j q e at))
          | inr e ↦ sound.ranked j q (kept j (Some q) e at)
        ])

    ranked_was_seen : (j q : ℕ) → entry ranks j ≡ Some q → was_seen s j ≡ true
    ranked_was_seen j q at = elim (same_or_not j p.cell) [
      | inl e ↦ ap (was_seen s) e ∙ (top_stacked s p sound).pending.0
      | inr e ↦ sound.ranked_seen j q (kept j (Some q) e at)
    ]

    -- the cells below on the stack are others
    below_other : (i : ℕ) (q : Progress) → slice_get s.stack i ≡ Some q → q.cell ≢ p.cell
    below_other i q at = λ same.
        let here = sound.once i (length s.stack) q p (front_get s.stack (p ∷ []) i q at) (get_last s.stack p) same in
        absurd (omega (arith, here, slice_get_within s.stack i q at))

    still_stacked : (i : ℕ) (q : Progress) → slice_get s.stack i ≡ Some q → IsStacked above (with_rank s p) q
    still_stacked i q at =
        let e = sound.stacked i q (front_get s.stack (p ∷ []) i q at) in
        record {
          pending = (e.pending.0, entry-set_other s.ranks p.cell q.cell (Some p.rank) (below_other i q at) ∙ e.pending.1);
          looked = record {
            place = e.looked.place;
            rank = next_rank-more (entry s.ranks) (entry ranks) (take q.place (cells_above above q.cell)) q.rank more e.looked.rank;
          };
        }

    lost_before : (j : ℕ) → IsLost (with_rank s p) j → IsLost (with_top s p) j
    lost_before j lost =
        let other : j ≢ p.cell = λ e. none-some p.rank (sym lost.pending.1 ∙ (ap (entry ranks) e ∙ entry-set_same s.ranks p.cell (Some p.rank) top_in)) in
        record {
          pending = (lost.pending.0, kept j None other lost.pending.1);
          off = λ i q at same. elim (push_cases s.stack p q i at) [
            | inl h ↦ lost.off i q h same
            | inr h ↦ other (sym same ∙ ap (λ x. x.cell) (sym h.1))
          ];
        }

    lost_after : (j : ℕ) → IsLost (with_top s p) j → IsLost (with_rank s p) j
    lost_after j lost =
        let other : j ≢ p.cell = λ e. lost.off (length s.stack) p (get_last s.stack p) (sym e) in
        record {
          pending = (lost.pending.0, entry-set_other s.ranks p.cell j (Some p.rank) other ∙ lost.pending.1);
          off = λ i q at. lost.off i q (front_get s.stack (p ∷ []) i q at);
        }

    pub top_ranked : Advances above (with_top s p) (with_rank s p)
    top_ranked = record {
      sound = record {
        ranks_fit = length-set s.ranks p.cell (Some p.rank) ∙ sound.ranks_fit;
        seen_fits = sound.seen_fits;
        small = ranked_small;
        ranked = ranked_still;
        ranked_seen = ranked_was_seen;
        stacked = still_stacked;
        once = λ i j q t at there. sound.once i j q t (front_get s.stack (p ∷ []) i q at) (front_get s.stack (p ∷ []) j t there);
        rises = λ i q t at there. sound.rises i q t (front_get s.stack (p ∷ []) i q at) (front_get s.stack (p ∷ []) (i + 1) t there);
        lost = λ j lost. let w = sound.lost j (lost_before j lost) in (w.0, w.1, lost_after w.0 w.2);
      };
      seen = λ k is. is;
      nearer = omega (arith, length_push s.stack p);
    }

  -- all on the stack are given up, when the top lies under a cell that was seen and has no rank
  module _ (s : Search) (p : Progress) (j : ℕ) (sound : IsSound above (with_top s p)) (under : IsAbove above p.cell j) (pending : IsPending s j) where
    given_up_lost : (k : ℕ) → IsPending s k → IsLost (given_up s) k
    given_up_lost k is = record { pending = is; off = none_on k }

    lies_under : (k : ℕ) → IsPending s k → (m : ℕ) × IsAbove above k m × IsLost (given_up s) m
    lies_under k is = elim (on_or_off (s.stack ++ p ∷ []) k) [
      | inl on ↦ elim (push_cases s.stack p on.1 on.0 on.2) [
        | inl h ↦
            let within : on.0 + 1 < length (s.stack ++ p ∷ []) = omega (arith, slice_get_within s.stack on.0 on.1 h, length_push s.stack p) in
            let next : Progress = get_or (s.stack ++ p ∷ []) (on.0 + 1) p in
            let there : slice_get (s.stack ++ p ∷ []) (on.0 + 1) ≡ Some next = slice_get-get_or (s.stack ++ p ∷ []) (on.0 + 1) p within in
            (next.cell, subst (λ i. IsAbove above i next.cell) on.3 (sound.rises on.0 on.1 next on.2 there), given_up_lost next.cell (sound.stacked (on.0 + 1) next there).pending)
        | inr h ↦ (j, subst (λ i. IsAbove above i j) (ap (λ x. x.cell) h.1 ∙ on.3) under, given_up_lost j pending)
      ]
      | inr off ↦ let w = sound.lost k (record { pending = is; off = off }) in (w.0, w.1, given_up_lost w.0 w.2.pending)
    ]

    pub all_given_up : Advances above (with_top s p) (given_up s)
    all_given_up = record {
      sound = record {
        ranks_fit = sound.ranks_fit;
        seen_fits = sound.seen_fits;
        small = sound.small;
        ranked = sound.ranked;
        ranked_seen = sound.ranked_seen;
        stacked = λ i q at. absurd (cc);
        once = λ i m q t at there. absurd (cc);
        rises = λ i q t at there. absurd (cc);
        lost = λ k lost. lies_under k lost.pending;
      };
      seen = λ k is. is;
      nearer = omega (arith, length_push s.stack p);
    }

  -- a cell that was not seen comes on top of the stack, when it stands above the cell below
  module _ (s : Search) (k : ℕ) (sound : IsSound above s) (k_in : k < length above) (unseen : was_seen s k ≡ false)
      (under : (i : ℕ) (p : Progress) → slice_get s.stack i ≡ Some p → i + 1 ≡ length s.stack → IsAbove above p.cell k) where
    abbrev first : Progress
    first = record { cell = k; place = 0; rank = 0 }

    there : k < length s.seen
    there = omega (arith, sound.seen_fits)

    first_stacked : IsStacked above (entered s k) first
    first_stacked = record { pending = (seen_now s k there, unseen_unranked s k sound unseen); looked = record { place = omega arith; rank = refl } }

    entered_stacked : (i : ℕ) (p : Progress) → slice_get (s.stack ++ first ∷ []) i ≡ Some p → IsStacked above (entered s k) p
    entered_stacked i p at = elim (push_cases s.stack first p i at) [
      | inl h ↦ let e = sound.stacked i p h in record { pending = (seen_still s k p.cell there e.pending.0, e.pending.1); looked = e.looked }
      | inr h ↦ subst (IsStacked above (entered s k)) h.1 first_stacked
    ]

    -- those on the stack are others
    stacked_other : (i : ℕ) (p : Progress) → slice_get s.stack i ≡ Some p → p.cell ≢ k
    stacked_other i p at = unlike s p.cell k (sound.stacked i p at).pending.0 unseen

    entered_once : (i j : ℕ) (p q : Progress) → slice_get (s.stack ++ first ∷ []) i ≡ Some p → slice_get (s.stack ++ first ∷ []) j ≡ Some q → p.cell ≡ q.cell → i ≡ j
    entered_once i j p q at there same = elim (push_cases s.stack first p i at) [
      | inl a ↦ elim (push_cases s.stack first q j there) [
        | inl b ↦ sound.once i j p q a b same
        | inr b ↦ absurd (stacked_other i p a (same ∙ ap (λ x. x.cell) (sym b.1)))
      ]
      | inr a ↦ elim (push_cases s.stack first q j there) [
        | inl b ↦ absurd (stacked_other j q b (sym same ∙ ap (λ x. x.cell) (sym a.1)))
        | inr b ↦ a.0 ∙ sym b.0
      ]
    ]

    entered_rises : (i : ℕ) (p q : Progress) → slice_get (s.stack ++ first ∷ []) i ≡ Some p → slice_get (s.stack ++ first ∷ []) (i + 1) ≡ Some q → IsAbove above p.cell q.cell
    entered_rises i p q at there = elim (push_cases s.stack first p i at) [
      | inl a ↦ elim (push_cases s.stack first q (i + 1) there) [
        | inl b ↦ sound.rises i p q a b
        | inr b ↦ subst (IsAbove above p.cell) (ap (λ x. x.cell) b.1) (under i p a b.0)
      ]
      | inr a ↦ absurd (omega (arith, a.0, slice_get_within (s.stack ++ first ∷ []) (i + 1) q there, length_push s.stack first))
    ]

    entered_lost : (j : ℕ) → IsLost (entered s k) j → (m : ℕ) × IsAbove above j m × IsLost (entered s k) m
    entered_lost j lost =
        let other : j ≢ k = λ e. lost.off (length s.stack) first (get_last s.stack first) (sym e) in
        let w = sound.lost j (record { pending = (sym (seen_other s k j other) ∙ lost.pending.0, lost.pending.1); off = λ i p at. lost.off i p (front_get s.stack (first ∷ []) i p at) }) in (
          w.0,
          w.1,
          record {
            pending = (seen_still s k w.0 there w.2.pending.0, w.2.pending.1);
            off = λ i p at same. elim (push_cases s.stack first p i at) [
              | inl h ↦ w.2.off i p h same
              | inr h ↦ unlike s w.0 k w.2.pending.0 unseen (sym same ∙ ap (λ x. x.cell) (sym h.1))
            ];
          },
        )

    pub one_entered : Advances above s (entered s k)
    one_entered = record {
      sound = record {
        ranks_fit = sound.ranks_fit;
        seen_fits = length-set s.seen k true ∙ sound.seen_fits;
        small = sound.small;
        ranked = sound.ranked;
        ranked_seen = λ j r is. seen_still s k j there (sound.ranked_seen j r is);
        stacked = entered_stacked;
        once = entered_once;
        rises = entered_rises;
        lost = entered_lost;
      };
      seen = λ j is. seen_still s k j there is;
      nearer = omega (arith, length_push s.stack first, unseen_fewer s.seen k there unseen);
    }

  -- a step that looks on to the end of the cells above
  pub ranks_top : (s : Search) (p q : Progress) → IsSound above (with_top s p) → Looks above s.ranks p q None
      → Advances above (with_top s p) (with_rank s q)
  ranks_top s p q sound looks =
      let advances = top_ranked s q (looked_on s p q sound looks.cell looks.looked) looks.stops in
      record { sound = advances.sound; seen = advances.seen; nearer = omega (arith, advances.nearer, length_push s.stack p, length_push s.stack q) }

  -- a step that meets a cell without a rank
  pub meets_above : (s : Search) (p q : Progress) (j : ℕ) → NamesCells above → IsSound above (with_top s p) → Looks above s.ranks p q (Some j)
      → Advances above (with_top s p) (met s q j)
  meets_above s p q j names sound looks = at (was_seen s j) refl
    where
      now : IsSound above (with_top s q)
      now = looked_on s p q sound looks.cell looks.looked

      highest : (i : ℕ) (t : Progress) → slice_get (s.stack ++ q ∷ []) i ≡ Some t → i + 1 ≡ length (s.stack ++ q ∷ []) → IsAbove above t.cell j
      highest i t at last = elim (push_cases s.stack q t i at) [
        | inl h ↦ absurd (omega (arith, slice_get_within s.stack i t h, length_push s.stack q, last))
        | inr h ↦ subst (λ k. IsAbove above k j) (ap (λ x. x.cell) h.1) looks.stops.0
      ]

      as_before : (new : Search) → Advances above (with_top s q) new → Advances above (with_top s p) new
      as_before new advances = record { sound = advances.sound; seen = advances.seen; nearer = omega (arith, advances.nearer, length_push s.stack p, length_push s.stack q) }

      at : (b : Bool) → was_seen s j ≡ b → Advances above (with_top s p) (cond b (given_up s) (entered (with_top s q) j))
      at true seen = as_before (given_up s) (all_given_up s q j now looks.stops.0 (seen, looks.stops.1))
      at false unseen = as_before (entered (with_top s q) j) (one_entered (with_top s q) j now (above_in q.cell j names looks.stops.0) unseen highest)

  pub above_within : (s : Search) (p q : Progress) (j : ℕ) → NamesCells above → IsSound above (with_top s p) → Looks above s.ranks p q (Some j)
      → j < length s.seen
  above_within s p q j names sound looks = omega (arith, above_in q.cell j names looks.stops.0, sound.seen_fits)

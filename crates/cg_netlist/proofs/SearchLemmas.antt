-- The search for ranks from its beginning to its end, and what it has found then.
use Rattle.std.proofs.Common.{ℕ, zero, suc, ◌+◌, ◌<◌, ◌≤◌, ◌≡◌, inl, inr, List, [], ◌∷◌, Option, Some, None, true, false, is_some}
use Rattle.std.proofs.Common.{map, length, replicate, refl, sym, ap, ◌∙◌, subst, arith, nat_eq, unwrap_or}
use Rattle.std.specs.List.{slice_get}
use Rattle.std.proofs.lemmas.List.{length-replicate}
use Rattle.std.proofs.lemmas.List.Sums.{count_by-le-length}
use Rattle.std.proofs.lemmas.Bool.{or_cases, eqb-true}
use Rattle.std.proofs.lemmas.List.FromFn.{fill_by_all}
use Rattle.cg_net.specs.NetSets.{is_in}
use Rattle.cg_netlist.specs.Ranks.{next_rank, rank_within}
use Rattle.cg_netlist.specs.inner.Ranking.{Advances, HasVisited, IsSound, NamesCells, Search}
use Rattle.cg_netlist.specs.inner.Ranking.{cells_above, entered, entry, rank_under, ranks_in, unsearched, was_seen}
use Rattle.cg_netlist.proofs.Each.{by_recursion}
use Rattle.cg_netlist.proofs.RankLemmas.{rank_is, under_none}
use Rattle.cg_netlist.proofs.SearchSteps.{IsOff, none_on, one_entered, seen_now}
use Rattle.cg_netlist.proofs.EntryLemmas.{entry_or}
use Rattle.cg_net.proofs.TableLemmas.{same_or_not}

no_entry : (n k r : ℕ) → entry (replicate n None) k ≡ Some r → ⊥
no_entry zero k r is = cc
no_entry (suc n) zero r is = cc
no_entry (suc n) (suc k) r is = no_entry n k r is

none_seen : (n k : ℕ) → unwrap_or (slice_get (replicate n false) k) false ≡ true → ⊥
none_seen zero k is = cc
none_seen (suc n) zero is = cc
none_seen (suc n) (suc k) is = none_seen n k is

-- a cell under one without a rank has none
none_among : (f : ℕ → Option ℕ) (js : List ℕ) (j : ℕ) → is_in js j ≡ true → f j ≡ None → next_rank (map f js) ≡ None
none_among f [] j in' none = absurd (cc)
none_among f (i ∷ js) j in' none = elim (or_cases (nat_eq j i) (is_in js j) in') [
  | inl e ↦ ap (λ o. next_rank (o ∷ map f js)) (ap f (sym (eqb-true j i e)) ∙ none)
  | inr later ↦ under_none (f i) (map f js) (none_among f js j later none)
]

module _ (above : List (List ℕ)) where
  pub none_visited : HasVisited above (unsearched (length above)) 0
  none_visited = record {
    sound = record {
      ranks_fit = length-replicate (length above) None;
      seen_fits = length-replicate (length above) false;
      small = λ k r is. absurd (no_entry (length above) k r is);
      ranked = λ k r is. absurd (no_entry (length above) k r is);
      ranked_seen = λ k r is. absurd (no_entry (length above) k r is);
      stacked = λ i p at. absurd (cc);
      once = λ i j p q at there. absurd (cc);
      rises = λ i p q at there. absurd (cc);
      lost = λ k lost. absurd (none_seen (length above) k lost.pending.0);
    };
    back = refl;
    seen = λ k lt. absurd (omega arith);
  }

  seen_more : (s : Search) (k : ℕ) → ((j : ℕ) → j < k → was_seen s j ≡ true) → was_seen s k ≡ true → (j : ℕ) → j < k + 1 → was_seen s j ≡ true
  seen_more s k before now j lt = elim (same_or_not j k) [ inl e ↦ ap (was_seen s) e ∙ now | inr e ↦ before j (omega (arith, e)) ]

  -- a cell that was seen before is passed over
  pub passed_over : (s : Search) (k : ℕ) → HasVisited above s k → was_seen s k ≡ true → HasVisited above s (k + 1)
  passed_over s k visited seen = record { sound = visited.sound; back = visited.back; seen = seen_more s k visited.seen seen }

  -- the search goes up from a cell that was not seen, and comes back
  pub sets_out : (s : Search) (k : ℕ) → HasVisited above s k → k < length above → was_seen s k ≡ false → Advances above s (entered s k)
  sets_out s k visited k_in unseen = one_entered above s k visited.sound k_in unseen (λ i p at last. absurd (omega (arith, last, ap length visited.back)))

  pub comes_back : (s new : Search) (k : ℕ) → HasVisited above s k → k < length above → was_seen s k ≡ false
      → IsSound above new → new.stack ≡ [] → ((j : ℕ) → was_seen (entered s k) j ≡ true → was_seen new j ≡ true) → HasVisited above new (k + 1)
  comes_back s new k visited k_in unseen sound back kept =
      let advances = sets_out s k visited k_in unseen in
      let now : was_seen (entered s k) k ≡ true = seen_now s k (omega (arith, visited.sound.seen_fits)) in
      record { sound = sound; back = back; seen = seen_more new k (λ j lt. kept j (advances.seen j (visited.seen j lt))) (kept k now) }

  -- in the end a cell without a rank was given up: it lies under another without a rank
  fitting : (s : Search) (next k : ℕ) → HasVisited above s next → k < next → rank_under s.ranks (cells_above above k) ≡ entry s.ranks k
  fitting s next k visited lt = at (entry s.ranks k) refl
    where
      at : (o : Option ℕ) → entry s.ranks k ≡ o → rank_under s.ranks (cells_above above k) ≡ o
      at None e =
          let w = visited.sound.lost k (record { pending = (visited.seen k lt, e); off = subst (λ stack. IsOff stack k) (sym visited.back) (none_on k) }) in
          none_among (entry s.ranks) (cells_above above k) w.0 w.1 w.2.pending.1
      at (Some r) e = visited.sound.ranked k r e

  -- in the end the search has found the ranks
  pub ranks_found : (s : Search) (next : ℕ) → NamesCells above → HasVisited above s next → length above ≤ next
      → s.ranks ≡ ranks_in above
  ranks_found s next names visited all =
      fill_by_all (rank_within (cells_above above) (length above)) s.ranks (length above) None visited.sound.ranks_fit
      (λ k lt. entry_or s.ranks k ∙ sym (is k lt))
    where
      is : (k : ℕ) → k < length above → rank_within (cells_above above) (length above) k ≡ entry s.ranks k
      is = rank_is (cells_above above) (entry s.ranks) (length above)
          (λ k lt. by_recursion (λ j. j < length above) (cells_above above k) (names k))
          (λ k lt. fitting s next k visited (omega (arith, all)))
          (λ k r lt e. omega (arith, visited.sound.small k r e, count_by-le-length is_some s.ranks, visited.sound.ranks_fit))

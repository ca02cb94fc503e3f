-- The leaves of a claim in those of a claim that reaches more: each has a place of its own there, and a claim of one copy that
-- reaches more of it has no fewer leaves and and-nodes.
use Rattle.std.proofs.Common.{◌≡◌, ◌<◌, ◌+◌, ◌*◌, ◌/◌, ◌%◌, ℕ, zero, suc, Bool, true, false, ◌||◌, cond, if◌then◌else◌, List, []}
use Rattle.std.proofs.Common.{◌∷◌, map, length, Option, None, Some, option_map, refl, sym, ◌∙◌, ap, subst, arith, inl, inr}
use Rattle.std.specs.List.{filter, list_any}
use Rattle.std.specs.Option.{option_map_or}
use Rattle.std.proofs.lemmas.Bool.{both_ways, cases_Bool}
use Rattle.std.proofs.lemmas.List.{length-map}
use Rattle.std.proofs.lemmas.Option.{none-some, same_Some}
use Rattle.cg_claim.specs.Build.{aig_values, leaf_list, leaf_value}
use Rattle.cg_claim.specs.Leaves.{Leaf, leaf_place, same_leaf}
use Rattle.cg_claim.specs.Question.{Copy}
use Rattle.cg_claim.specs.declared.leaf.LeafSource.{LeafSource}
use Rattle.cg_claim.proofs.Embedded.{Embeds, IsSent, sent}
use Rattle.cg_claim.proofs.LeavesFound.{leaf_is, place_below}

-- where the k-th of those that pass one test stands among those that pass the other
abbrev step : Bool → Bool → (ℕ → ℕ) → ℕ → ℕ
step true b f zero = 0
step true b f (suc k) = suc (f k)
step false true f k = suc (f k)
step false false f k = f k

-- the first place of a leaf that is there
pub place_there : (leaves : List Leaf) (l : Leaf) → list_any (same_leaf l) leaves ≡ true → (i : ℕ) × (leaf_place leaves l ≡ Some i)
place_there [] l among = absurd (both_ways false refl among)
place_there (x ∷ leaves) l among = go (place_there leaves l) (same_leaf l x) among
  where
    go : (list_any (same_leaf l) leaves ≡ true → (i : ℕ) × (leaf_place leaves l ≡ Some i)) → (b : Bool) → (b || list_any (same_leaf l) leaves) ≡ true → (i : ℕ) × ((if b then Some 0 else option_map suc (leaf_place leaves l)) ≡ Some i)
    go known true inside = (0, refl)
    go known false inside = let at = known inside in (suc at.0, ap (option_map suc) at.1)

module _ (A B : LeafSource → Bool) (within : (x : LeafSource) → A x ≡ true → B x ≡ true) where
  abbrev moved : List LeafSource → ℕ → ℕ
  moved [] k = k
  moved (x ∷ xs) k = step (A x) (B x) (moved xs) k

  moved_below : (xs : List LeafSource) (k : ℕ) → k < length (filter A xs) → moved xs k < length (filter B xs)
  moved_below [] k below = below
  moved_below (x ∷ xs) k below = go (moved_below xs) (A x) (B x) refl refl k below
    where
      go : ((k : ℕ) → k < length (filter A xs) → moved xs k < length (filter B xs)) → (a b : Bool) → A x ≡ a → B x ≡ b → (k : ℕ) → k < length (cond a (x ∷ filter A xs) (filter A xs)) → step a b (moved xs) k < length (cond b (x ∷ filter B xs) (filter B xs))
      go known true true here there zero h = omega arith
      go known true true here there (suc k) h = let e = known k (omega arith) in omega arith
      go known true false here there k h = absurd (both_ways (B x) there (within x here))
      go known false true here there k h = let e = known k h in omega arith
      go known false false here there k h = known k h

  moved_apart : (xs : List LeafSource) (k l : ℕ) → moved xs k ≡ moved xs l → k ≡ l
  moved_apart [] k l same = same
  moved_apart (x ∷ xs) k l same = go (moved_apart xs) (A x) (B x) k l same
    where
      go : ((k l : ℕ) → moved xs k ≡ moved xs l → k ≡ l) → (a b : Bool) (k l : ℕ) → step a b (moved xs) k ≡ step a b (moved xs) l → k ≡ l
      go known true b zero zero h = refl
      go known true b zero (suc l) h = absurd (omega arith)
      go known true b (suc k) zero h = absurd (omega arith)
      go known true b (suc k) (suc l) h = ap suc (known k l (omega arith))
      go known false true k l h = known k l (omega arith)
      go known false false k l h = known k l h

  module _ (copy : Copy) where
    abbrev leaf : LeafSource → Leaf
    leaf source = record { copy = copy; source = source }

    abbrev Known : List LeafSource → LeafSource → Type 0
    Known xs source = (j : ℕ) → leaf_place (map leaf (filter A xs)) (leaf source) ≡ Some j → leaf_place (map leaf (filter B xs)) (leaf source) ≡ Some (moved xs j)

    moved_place : (xs : List LeafSource) (source : LeafSource) (i : ℕ) → A source ≡ true → leaf_place (map leaf (filter A xs)) (leaf source) ≡ Some i → leaf_place (map leaf (filter B xs)) (leaf source) ≡ Some (moved xs i)
    moved_place [] source i passes at = absurd (none-some i at)
    moved_place (x ∷ xs) source i passes at = go (λ j. moved_place xs source j passes) (A x) (B x) refl refl i at
      where
        later : Known xs source → (o : Option ℕ) → leaf_place (map leaf (filter A xs)) (leaf source) ≡ o → (i : ℕ) → option_map suc o ≡ Some i → option_map suc (leaf_place (map leaf (filter B xs)) (leaf source)) ≡ Some (step true true (moved xs) i)
        later known None is i at = absurd (none-some i at)
        later known (Some j) is i at = ap (option_map suc) (known j is) ∙ ap (λ k. Some (step true true (moved xs) k)) (same_Some (suc j) i at)

        both : Known xs source → (c : Bool) (i : ℕ) → (if c then Some 0 else option_map suc (leaf_place (map leaf (filter A xs)) (leaf source))) ≡ Some i
            → (if c then Some 0 else option_map suc (leaf_place (map leaf (filter B xs)) (leaf source))) ≡ Some (step true true (moved xs) i)
        both known true i at = ap (λ k. Some (step true true (moved xs) k)) (same_Some 0 i at)
        both known false i at = later known (leaf_place (map leaf (filter A xs)) (leaf source)) refl i at

        other : A x ≡ false → same_leaf (leaf source) (leaf x) ≡ false
        other here = elim (cases_Bool (same_leaf (leaf source) (leaf x))) [
          | inl same ↦ absurd (both_ways (A x) here (subst (λ (z : Leaf). A z.source ≡ true) (leaf_is (leaf source) (leaf x) same) passes))
          | inr none ↦ none
        ]

        go : Known xs source → (a b : Bool) → A x ≡ a → B x ≡ b → (i : ℕ) → leaf_place (map leaf (cond a (x ∷ filter A xs) (filter A xs))) (leaf source) ≡ Some i
            → leaf_place (map leaf (cond b (x ∷ filter B xs) (filter B xs))) (leaf source) ≡ Some (step a b (moved xs) i)
        go known true true here there i at = both known (same_leaf (leaf source) (leaf x)) i at
        go known true false here there i at = absurd (both_ways (B x) there (within x here))
        go known false true here there i at = ap (λ c. if c then Some 0 else option_map suc (leaf_place (map leaf (filter B xs)) (leaf source))) (other here) ∙ ap (option_map suc) (known i at)
        go known false false here there i at = known i at

    -- the lists of leaves alone
    module _ (xs : List LeafSource) where
      abbrev pub few : List Leaf
      few = map leaf (filter A xs)

      abbrev pub many : List Leaf
      many = map leaf (filter B xs)

      abbrev pub goes_to : ℕ → ℕ
      goes_to zero = 0
      goes_to (suc k) = suc (moved xs k)

      to_below : (k : ℕ) → k < 1 + length few → goes_to k < 1 + length many
      to_below zero h = omega arith
      to_below (suc k) h =
          let x = length-map (filter A xs) leaf in let y = length-map (filter B xs) leaf in
          let e = moved_below xs k (omega arith) in omega arith

      to_apart : (k l : ℕ) → goes_to k ≡ goes_to l → k ≡ l
      to_apart zero zero h = refl
      to_apart zero (suc l) h = absurd (omega arith)
      to_apart (suc k) zero h = absurd (omega arith)
      to_apart (suc k) (suc l) h = ap suc (moved_apart xs k l (omega arith))

      pub leaves_embed : Embeds goes_to (leaf_list (length few)) (leaf_list (length many))
      leaves_embed = record {
        origin = refl;
        below = λ k h. let e = to_below k (omega arith) in omega arith;
        apart = λ k l h i same. to_apart k l same;
        leaf = to_below;
        pairs = λ k h. absurd (omega arith);
      }

      -- a leaf of the few
      pub leaf_sent : (source : LeafSource) → A source ≡ true → list_any (same_leaf (leaf source)) few ≡ true
          → IsSent goes_to (leaf_list (length few)) (leaf_value aig_values few copy source) (leaf_value aig_values many copy source)
      leaf_sent source passes among =
          let at = place_there few (leaf source) among in
          let i : ℕ = at.0 in
          let there = moved_place xs source i passes at.1 in
          let below = place_below few (leaf source) i at.1 in
          let half : (2 * (i + 1)) / 2 ≡ suc i = omega arith in
          let read : sent goes_to (2 * (i + 1)) ≡ 2 * suc (moved xs i) + (2 * (i + 1)) % 2 = ap (λ k. 2 * goes_to k + (2 * (i + 1)) % 2) half in
          let last : 2 * suc (moved xs i) + (2 * (i + 1)) % 2 ≡ 2 * (moved xs i + 1) = omega arith in
          let sends : IsSent goes_to (leaf_list (length few)) (2 * (i + 1)) (2 * (moved xs i + 1)) = record { valid = omega arith; is = read ∙ last } in
          subst (λ o. IsSent goes_to (leaf_list (length few)) (option_map_or (λ k. 2 * (k + 1)) o 0) (leaf_value aig_values many copy source)) (sym at.1)
          (subst (λ o. IsSent goes_to (leaf_list (length few)) (2 * (i + 1)) (option_map_or (λ k. 2 * (k + 1)) o 0)) (sym there) sends)

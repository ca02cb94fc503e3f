-- What is found in a list, by a test or by its place.
use Rattle.std.proofs.Common.{◌≡◌, ℕ, suc, ◌+◌, ◌<◌, ◌≤◌, Bool, true, false, cond, List, [], ◌∷◌, ◌++◌, map, length, slice_get}
use Rattle.std.proofs.Common.{take, Option, None, Some, nat_le, nat_lt, refl, ap, sym, ◌∙◌, arith, append_assoc}
use Rattle.std.specs.List.{cons_option, filter_map, find, position, position_or_len, range_with_len}
use Rattle.std.proofs.lemmas.Bool.{lt-ltb}
use Rattle.std.proofs.lemmas.List.{append-nil, map-append}
use Rattle.std.proofs.lemmas.List.Elements.{filter_map-append}
use Rattle.std.proofs.lemmas.List.Folds.{find_at}
use Rattle.std.proofs.lemmas.Option.{same_Some, slice_get_within}
use Rattle.cg_net.proofs.TableLemmas.{take_next}
use Rattle.cg_insert.specs.Insert.{collect, with_net}
use Rattle.cg_netlist.proofs.ByRank.{range_more}

-- the first that passes a test stands at the first place
pub found_at : {X : Type 0} (p : X → Bool) (xs : List X) (x : X) → find p xs ≡ Some x → slice_get xs (position_or_len p xs) ≡ Some x
found_at p xs x is = sym (find_at p xs) ∙ is

pub found_first : {X : Type 0} (p : X → Bool) (xs : List X) (x : X) → find p xs ≡ Some x → position p xs ≡ Some (position_or_len p xs)
found_first p xs x is = ap (λ b. cond b (Some (position_or_len p xs)) None) (lt-ltb (position_or_len p xs) (length xs) (slice_get_within xs (position_or_len p xs) x (found_at p xs x is)))

-- the place of what has none is the length
pub no_place : {X : Type 0} (p : X → Bool) (xs : List X) → position p xs ≡ None → length xs ≤ position_or_len p xs
no_place p xs is = go (nat_lt (position_or_len p xs) (length xs)) refl is
  where
    go : (b : Bool) → nat_lt (position_or_len p xs) (length xs) ≡ b → cond b (Some (position_or_len p xs)) None ≡ None → length xs ≤ position_or_len p xs
    go true at none = absurd (cc)
    go false at none = Rattle.std.proofs.lemmas.Bool.ltb-false (position_or_len p xs) (length xs) at

pub its_place : {X : Type 0} (p : X → Bool) (xs : List X) (k : ℕ) → position p xs ≡ Some k → k ≡ position_or_len p xs
its_place p xs k is = go (nat_lt (position_or_len p xs) (length xs)) is
  where
    go : (b : Bool) → cond b (Some (position_or_len p xs)) None ≡ Some k → k ≡ position_or_len p xs
    go true some = sym (same_Some (position_or_len p xs) k some)
    go false none = absurd (cc)

-- one net more is collected
pub collect_more : (seen nets : List ℕ) (net : ℕ) → collect seen (nets ++ net ∷ []) ≡ with_net (collect seen nets) net
collect_more seen [] net = refl
collect_more seen (n ∷ nets) net = collect_more (with_net seen n) nets net

pub some_more : (os : List (Option ℕ)) (i : ℕ) (o : Option ℕ) → slice_get os i ≡ Some o → filter_map (λ e. e) (take (i + 1) os) ≡ filter_map (λ e. e) (take i os) ++ cons_option o []
some_more os i o at = ap (filter_map (λ e. e)) (take_next os i o at) ∙ filter_map-append (λ (e : Option ℕ). e) (take i os) (o ∷ [])

abbrev pub with_enable : List ℕ → Option ℕ → List ℕ
with_enable keys None = keys
with_enable keys (Some e) = with_net keys e

pub collect_step : (os : List (Option ℕ)) (n : ℕ) (o : Option ℕ) (keys new : List ℕ) → slice_get os n ≡ Some o → keys ≡ collect [] (filter_map (λ e. e) (take n os)) → new ≡ with_enable keys o → new ≡ collect [] (filter_map (λ e. e) (take (n + 1) os))
collect_step os n o keys new at is more = more ∙ (ap (λ ks. with_enable ks o) is ∙ (go o ∙ ap (collect []) (sym (some_more os n o at))))
  where
    go : (o : Option ℕ) → with_enable (collect [] (filter_map (λ e. e) (take n os))) o ≡ collect [] (filter_map (λ e. e) (take n os) ++ cons_option o [])
    go None = ap (collect []) (sym (append-nil (filter_map (λ (e : Option ℕ). e) (take n os))))
    go (Some e) = sym (collect_more [] (filter_map (λ (x : Option ℕ). x) (take n os)) e)

-- names with numbers, one more
pub numbered_step : (name : ℕ → List ℕ) (old now new : List (List ℕ)) (first k : ℕ) → now ≡ old ++ map name (range_with_len first k) → new ≡ now ++ name (first + k) ∷ [] → new ≡ old ++ map name (range_with_len first (k + 1))
numbered_step name old now new first k is more =
    let next : k + 1 ≡ suc k = omega arith in
    more ∙ (ap (λ xs. xs ++ name (first + k) ∷ []) is
    ∙ (append_assoc old (map name (range_with_len first k)) (name (first + k) ∷ [])
    ∙ ap (λ xs. old ++ xs) (sym (ap (λ n. map name (range_with_len first n)) next ∙ (ap (map name) (range_more k first) ∙ map-append name (range_with_len first k) ((first + k) ∷ []))))))

pub not_le : (a b : ℕ) → nat_le a b ≡ false → b < a
not_le a b is = Rattle.std.proofs.lemmas.Bool.leb-false a b is

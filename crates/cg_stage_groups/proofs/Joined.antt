-- Groups as their keys and their registers, with one more register.
use Rattle.std.proofs.Common.{◌≡◌, ℕ, suc, ◌+◌, ◌<◌, Bool, true, false, not, ◌||◌, ◌&&◌, if◌then◌else◌, List, [], ◌∷◌, ◌++◌, map}
use Rattle.std.proofs.Common.{length, nat_eq, bytes_eq, slice_get, slice_index_or, slice_set, Option, Some, None, refl, sym, ◌∙◌}
use Rattle.std.proofs.Common.{ap, subst, arith}
use Rattle.std.specs.List.{AllByRecursion, IsDistinct, list_any, position_or_len}
use Rattle.std.proofs.lemmas.Bool.{and_parts, both_ways, eqb-true, eq-eqb}
use Rattle.std.proofs.lemmas.Option.{same_Some, slice_get-get_or}
use Rattle.cg_stage_groups.specs.contracts.key.KeyPartialEq.TheImpl as key_eq
use Rattle.cg_stage_groups.specs.declared.key.Key.{Key}
use Rattle.cg_stage_groups.specs.inner.Grouping.{extend, with_member}
use Rattle.cg_stage_groups.specs.Keys.{groups_seen, key_seen}
use Rattle.cg_stage_list_laws.specs.Groups.{Group}
use Rattle.cg_stage_list_laws.specs.Rounds.{same_option}
use Rattle.cg_stage_list_laws.specs.StableList.{StableKey, same_stable}
use Rattle.std.specs.Cmp.{both_ways as same_truth}

abbrev pub same : Key → Key → Bool
same = (key_eq.ghosts).eq

-- keys are the same where what is seen of them is
list_self : (xs : List ℕ) → bytes_eq xs xs ≡ true
list_self [] = refl
list_self (x ∷ xs) = ap (λ b. b && bytes_eq xs xs) (eq-eqb x x refl) ∙ list_self xs

list_is : (xs ys : List ℕ) → bytes_eq xs ys ≡ true → xs ≡ ys
list_is [] [] h = refl
list_is [] (y ∷ ys) h = absurd (both_ways false refl h)
list_is (x ∷ xs) [] h = absurd (both_ways false refl h)
list_is (x ∷ xs) (y ∷ ys) h =
    let p = and_parts (nat_eq x y) (bytes_eq xs ys) h in
    ap (λ z. z ∷ xs) (eqb-true x y p.0) ∙ ap (λ l. y ∷ l) (list_is xs ys p.1)

option_self : (o : Option ℕ) → same_option o o ≡ true
option_self None = refl
option_self (Some x) = eq-eqb x x refl

option_is : (o p : Option ℕ) → same_option o p ≡ true → o ≡ p
option_is None None h = refl
option_is None (Some y) h = absurd (both_ways false refl h)
option_is (Some x) None h = absurd (both_ways false refl h)
option_is (Some x) (Some y) h = ap Some (eqb-true x y h)

pub stable_self : (k : StableKey) → same_stable k k ≡ true
stable_self k = ap (λ b. b && same_option k.own k.own) (list_self k.enables) ∙ option_self k.own

pub stable_is : (j k : StableKey) → same_stable j k ≡ true → j ≡ k
stable_is j k h =
    let p = and_parts (bytes_eq j.enables k.enables) (same_option j.own k.own) h in
    ap (λ l. let z : StableKey = record { enables = l; own = j.own } in z) (list_is j.enables k.enables p.0) ∙ ap (λ o. let z : StableKey = record { enables = k.enables; own = o } in z) (option_is j.own k.own p.1)

same_key : (a b : Key) → same a b ≡ same_stable (key_seen a) (key_seen b)
same_key a b = go a.own b.own
  where
    go : (o p : Option ℕ) → same (record a { own = o }) (record b { own = p }) ≡ (bytes_eq a.numbers.items b.numbers.items && same_option o p)
    go None None = refl
    go None (Some y) = refl
    go (Some x) None = refl
    go (Some x) (Some y) = refl

turned : (a b : Key) → same_stable (key_seen b) (key_seen a) ≡ same a b
turned a b = same_truth (same_stable (key_seen b) (key_seen a)) (same a b)
    (λ h. same_key a b ∙ subst (λ z. same_stable z (key_seen b) ≡ true) (stable_is (key_seen b) (key_seen a) h) (stable_self (key_seen b)))
    (λ h. let e = stable_is (key_seen a) (key_seen b) (sym (same_key a b) ∙ h) in subst (λ z. same_stable z (key_seen a) ≡ true) e (stable_self (key_seen a)))

pub any_seen : (keys : List Key) (regs : List (List ℕ)) (k : Key) → length regs ≡ length keys → list_any (λ (g : Group StableKey). same_stable g.key (key_seen k)) (groups_seen keys regs) ≡ list_any (same k) keys
any_seen [] regs k even = refl
any_seen (j ∷ keys) [] k even = absurd (omega (arith, even))
any_seen (j ∷ keys) (rs ∷ regs) k even =
    ap (λ b. b || list_any (λ (g : Group StableKey). same_stable g.key (key_seen k)) (groups_seen keys regs)) (turned k j)
    ∙ ap (λ b. same k j || b) (any_seen keys regs k (let e : length regs ≡ length keys = omega (arith, even) in e))

-- where no key is this one, none of the groups gets more
unextended : (keys : List Key) (regs : List (List ℕ)) (k : Key) (r : ℕ) → list_any (same k) keys ≡ false → map (extend same_stable (key_seen k) r) (groups_seen keys regs) ≡ groups_seen keys regs
unextended [] regs k r none = refl
unextended (j ∷ keys) [] k r none = refl
unextended (j ∷ keys) (rs ∷ regs) k r none = go (same k j) refl none (unextended keys regs k r)
  where
    go : (b : Bool) → same k j ≡ b → (b || list_any (same k) keys) ≡ false → (list_any (same k) keys ≡ false → map (extend same_stable (key_seen k) r) (groups_seen keys regs) ≡ groups_seen keys regs) → map (extend same_stable (key_seen k) r) (groups_seen (j ∷ keys) (rs ∷ regs)) ≡ groups_seen (j ∷ keys) (rs ∷ regs)
    go true is h rest = absurd (both_ways true h refl)
    go false is h rest =
        ap (λ b. (if b then (let g : Group StableKey = record { key = key_seen j; regs = rs ++ r ∷ [] } in g) else record { key = key_seen j; regs = rs }) ∷ map (extend same_stable (key_seen k) r) (groups_seen keys regs)) (turned k j ∙ is)
        ∙ ap (λ l. (let g : Group StableKey = record { key = key_seen j; regs = rs } in g) ∷ l) (rest h)

seen_push : (keys : List Key) (regs : List (List ℕ)) (k : Key) (r : ℕ) → length regs ≡ length keys → groups_seen (keys ++ k ∷ []) (regs ++ (r ∷ []) ∷ []) ≡ groups_seen keys regs ++ (let g : Group StableKey = record { key = key_seen k; regs = r ∷ [] } in g) ∷ []
seen_push [] [] k r even = refl
seen_push [] (rs ∷ regs) k r even = absurd (omega (arith, even))
seen_push (j ∷ keys) [] k r even = absurd (omega (arith, even))
seen_push (j ∷ keys) (rs ∷ regs) k r even = ap (λ l. (let g : Group StableKey = record { key = key_seen j; regs = rs } in g) ∷ l) (seen_push keys regs k r (let e : length regs ≡ length keys = omega (arith, even) in e))

append-none : {X : Type 0} (l : List X) → l ++ [] ≡ l
append-none [] = refl
append-none (y ∷ l) = ap (λ k. y ∷ k) (append-none l)

-- a new key begins a group
pub new_key : (keys : List Key) (regs : List (List ℕ)) (k : Key) (r : ℕ) → length regs ≡ length keys → list_any (same k) keys ≡ false
    → groups_seen (keys ++ k ∷ []) (regs ++ (r ∷ []) ∷ []) ≡ with_member same_stable (groups_seen keys regs) (key_seen k) r
new_key keys regs k r even none =
    seen_push keys regs k r even
    ∙ (ap (λ l. l ++ (let g : Group StableKey = record { key = key_seen k; regs = r ∷ [] } in g) ∷ []) (sym (unextended keys regs k r none))
    ∙ ap (λ b. map (extend same_stable (key_seen k) r) (groups_seen keys regs) ++ (if b then [] else (let g : Group StableKey = record { key = key_seen k; regs = r ∷ [] } in g) ∷ [])) (sym (any_seen keys regs k even ∙ none)))

-- the keys behind one that is this one are others
others : (j k : Key) (keys : List Key) → AllByRecursion (λ y. same j y ≡ false) keys → same k j ≡ true → list_any (same k) keys ≡ false
others j k [] apart is = refl
others j k (i ∷ keys) apart is =
    let e : key_seen k ≡ key_seen j = stable_is (key_seen k) (key_seen j) (sym (same_key k j) ∙ is) in
    let here : same k i ≡ false = same_key k i ∙ (ap (λ z. same_stable z (key_seen i)) e ∙ (sym (same_key j i) ∙ apart.0)) in
    ap (λ b. b || list_any (same k) keys) here ∙ others j k keys apart.1 is

place_cons : (k j : Key) (keys : List Key) → position_or_len (same k) (j ∷ keys) ≡ (if not (same k j) then suc (position_or_len (same k) keys) else 0)
place_cons k j keys = let e : 1 + position_or_len (same k) keys ≡ suc (position_or_len (same k) keys) = omega arith in ap (λ n. if not (same k j) then n else 0) e

grown_at : (keys : List Key) (regs : List (List ℕ)) (k : Key) (r : ℕ) (old : List ℕ) → length regs ≡ length keys → IsDistinct same keys → list_any (same k) keys ≡ true
    → slice_get regs (position_or_len (same k) keys) ≡ Some old → groups_seen keys (slice_set regs (position_or_len (same k) keys) (old ++ r ∷ [])) ≡ map (extend same_stable (key_seen k) r) (groups_seen keys regs)
unfolding IsDistinct
grown_at [] regs k r old even distinct any at = absurd (both_ways false refl any)
grown_at (j ∷ keys) [] k r old even distinct any at = absurd (omega (arith, even))
grown_at (j ∷ keys) (rs ∷ regs) k r old even distinct any at =
    let e : length regs ≡ length keys = omega (arith, even) in
    subst (λ n. slice_get (rs ∷ regs) n ≡ Some old → groups_seen (j ∷ keys) (slice_set (rs ∷ regs) n (old ++ r ∷ [])) ≡ map (extend same_stable (key_seen k) r) (groups_seen (j ∷ keys) (rs ∷ regs))) (sym (place_cons k j keys))
    (λ here. go (same k j) refl any here distinct.0 (λ h there. grown_at keys regs k r old e distinct.1 h there)) at
  where
    go : (b : Bool) → same k j ≡ b → (b || list_any (same k) keys) ≡ true → slice_get (rs ∷ regs) (if not b then suc (position_or_len (same k) keys) else 0) ≡ Some old → AllByRecursion (λ y. same j y ≡ false) keys
        → (list_any (same k) keys ≡ true → slice_get regs (position_or_len (same k) keys) ≡ Some old → groups_seen keys (slice_set regs (position_or_len (same k) keys) (old ++ r ∷ [])) ≡ map (extend same_stable (key_seen k) r) (groups_seen keys regs))
        → groups_seen (j ∷ keys) (slice_set (rs ∷ regs) (if not b then suc (position_or_len (same k) keys) else 0) (old ++ r ∷ [])) ≡ map (extend same_stable (key_seen k) r) (groups_seen (j ∷ keys) (rs ∷ regs))
    go true is h here apart rest =
        ap (λ l. (let g : Group StableKey = record { key = key_seen j; regs = l ++ r ∷ [] } in g) ∷ groups_seen keys regs) (sym (same_Some rs old here))
        ∙ (ap (λ l. (let g : Group StableKey = record { key = key_seen j; regs = rs ++ r ∷ [] } in g) ∷ l) (sym (unextended keys regs k r (others j k keys apart is)))
        ∙ ap (λ b. (if b then (let g : Group StableKey = record { key = key_seen j; regs = rs ++ r ∷ [] } in g) else record { key = key_seen j; regs = rs }) ∷ map (extend same_stable (key_seen k) r) (groups_seen keys regs)) (sym (turned k j ∙ is)))
    go false is h there apart rest =
        ap (λ l. (let g : Group StableKey = record { key = key_seen j; regs = rs } in g) ∷ l) (rest h there)
        ∙ ap (λ b. (if b then (let g : Group StableKey = record { key = key_seen j; regs = rs ++ r ∷ [] } in g) else record { key = key_seen j; regs = rs }) ∷ map (extend same_stable (key_seen k) r) (groups_seen keys regs)) (sym (turned k j ∙ is))

-- a key that is there gets one more register
pub old_key : (keys : List Key) (regs : List (List ℕ)) (k : Key) (r : ℕ) (old : List ℕ) → length regs ≡ length keys → IsDistinct same keys → list_any (same k) keys ≡ true
    → slice_get regs (position_or_len (same k) keys) ≡ Some old → groups_seen keys (slice_set regs (position_or_len (same k) keys) (old ++ r ∷ [])) ≡ with_member same_stable (groups_seen keys regs) (key_seen k) r
old_key keys regs k r old even distinct any at =
    grown_at keys regs k r old even distinct any at
    ∙ (sym (append-none (map (extend same_stable (key_seen k) r) (groups_seen keys regs)))
    ∙ ap (λ b. map (extend same_stable (key_seen k) r) (groups_seen keys regs) ++ (if b then [] else (let g : Group StableKey = record { key = key_seen k; regs = r ∷ [] } in g) ∷ [])) (sym (any_seen keys regs k even ∙ any)))

-- The steps of the code.
none_before : (k : Key) (keys : List Key) → list_any (same k) keys ≡ false → position_or_len (same k) keys ≡ length keys
none_before k [] none = refl
none_before k (j ∷ keys) none = place_cons k j keys ∙ go (same k j) none (none_before k keys)
  where
    go : (b : Bool) → (b || list_any (same k) keys) ≡ false → (list_any (same k) keys ≡ false → position_or_len (same k) keys ≡ length keys) → (if not b then suc (position_or_len (same k) keys) else 0) ≡ suc (length keys)
    go true h rest = absurd (both_ways true h refl)
    go false h rest = ap suc (rest h)

some_before : (k : Key) (keys : List Key) → list_any (same k) keys ≡ true → position_or_len (same k) keys < length keys
some_before k [] any = absurd (both_ways false refl any)
some_before k (j ∷ keys) any = subst (λ n. n < suc (length keys)) (sym (place_cons k j keys)) (go (same k j) any (some_before k keys))
  where
    go : (b : Bool) → (b || list_any (same k) keys) ≡ true → (list_any (same k) keys ≡ true → position_or_len (same k) keys < length keys) → (if not b then suc (position_or_len (same k) keys) else 0) < suc (length keys)
    go true h rest = omega arith
    go false h rest = let below = rest h in omega (arith, below)

get_last : (regs : List (List ℕ)) (d : List ℕ) → slice_index_or (regs ++ [] ∷ []) (length regs) d ≡ []
get_last [] d = refl
get_last (rs ∷ regs) d = get_last regs d

set_last : (regs : List (List ℕ)) (rs : List ℕ) → slice_set (regs ++ [] ∷ []) (length regs) rs ≡ regs ++ rs ∷ []
set_last [] rs = refl
set_last (qs ∷ regs) rs = ap (λ l. qs ∷ l) (set_last regs rs)

abbrev inserted : List Key → Key → List Key
inserted keys k = if list_any (same k) keys then keys else keys ++ k ∷ []

pub begins : (keys keys' : List Key) (regs regs' : List (List ℕ)) (k : Key) (seen : StableKey) (r place : ℕ) (old more : List ℕ) → length regs ≡ length keys → key_seen k ≡ seen → list_any (same k) keys ≡ false
    → keys' ≡ inserted keys k → place ≡ position_or_len (same k) keys → regs' ≡ regs ++ [] ∷ [] → old ≡ slice_index_or regs' place old → more ≡ old ++ r ∷ []
    → groups_seen keys' (slice_set regs' place more) ≡ with_member same_stable (groups_seen keys regs) seen r
begins keys keys' regs regs' k seen r place old more even sees none is at pushed read longer =
    let p : place ≡ length regs = at ∙ (none_before k keys none ∙ sym even) in
    let empty : old ≡ [] = read ∙ (ap (λ l. slice_index_or l place old) pushed ∙ (ap (λ n. slice_index_or (regs ++ [] ∷ []) n old) p ∙ get_last regs old)) in
    ap (λ l. groups_seen l (slice_set regs' place more)) (is ∙ ap (λ b. if b then keys else keys ++ k ∷ []) none)
    ∙ (ap (λ l. groups_seen (keys ++ k ∷ []) (slice_set l place more)) pushed
    ∙ (ap (λ n. groups_seen (keys ++ k ∷ []) (slice_set (regs ++ [] ∷ []) n more)) p
    ∙ (ap (λ l. groups_seen (keys ++ k ∷ []) l) (set_last regs more)
    ∙ (ap (λ l. groups_seen (keys ++ k ∷ []) (regs ++ l ∷ [])) (longer ∙ ap (λ l. l ++ r ∷ []) empty)
    ∙ (new_key keys regs k r even none ∙ ap (λ z. with_member same_stable (groups_seen keys regs) z r) sees)))))

pub goes_on : (keys keys' : List Key) (regs : List (List ℕ)) (k : Key) (seen : StableKey) (r place : ℕ) (old more : List ℕ) → length regs ≡ length keys → key_seen k ≡ seen → list_any (same k) keys ≡ true
    → keys' ≡ inserted keys k → IsDistinct same keys' → place ≡ position_or_len (same k) keys → old ≡ slice_index_or regs place old → more ≡ old ++ r ∷ []
    → groups_seen keys' (slice_set regs place more) ≡ with_member same_stable (groups_seen keys regs) seen r
goes_on keys keys' regs k seen r place old more even sees any is distinct at read longer =
    let same_keys : keys' ≡ keys = is ∙ ap (λ b. if b then keys else keys ++ k ∷ []) any in
    let below = some_before k keys any in
    let there : slice_get regs (position_or_len (same k) keys) ≡ Some old = slice_get-get_or regs (position_or_len (same k) keys) old (omega (arith, below, even)) ∙ ap Some (ap (λ n. slice_index_or regs n old) (sym at) ∙ sym read) in
    ap (λ l. groups_seen l (slice_set regs place more)) same_keys
    ∙ (ap (λ n. groups_seen keys (slice_set regs n more)) at
    ∙ (ap (λ l. groups_seen keys (slice_set regs (position_or_len (same k) keys) l)) longer
    ∙ (old_key keys regs k r old even (subst (IsDistinct same) same_keys distinct) any there ∙ ap (λ z. with_member same_stable (groups_seen keys regs) z r) sees)))

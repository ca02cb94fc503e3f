-- Groups by keys that are the same on their registers.
use Rattle.std.proofs.Common.{◌≡◌, ℕ, Bool, true, false, cond, if◌then◌else◌, List, [], ◌∷◌, nat_eq, Option, Some, None}
use Rattle.std.proofs.Common.{option_and_then, refl, ◌∙◌, ap}
use Rattle.std.specs.List.{cons_option, filter, filter_map, find}
use Rattle.std.specs.Option.{option_map_or}
use Rattle.std.proofs.lemmas.Bool.{eq-eqb, or_left, or_right}
use Rattle.cg_net.specs.NetSets.{is_in}
use Rattle.cg_stage_list_laws.specs.Groups.{Group, group_of, groups, has_key, is_first}
use Rattle.cg_netlist.proofs.ByRank.{filter_same}

same_find : (p q : ℕ → Bool) (xs : List ℕ) → ((x : ℕ) → is_in xs x ≡ true → p x ≡ q x) → find p xs ≡ find q xs
same_find p q [] same = refl
same_find p q (x ∷ xs) same =
    ap (λ b. cond b (Some x) (find p xs)) (same x (or_left (nat_eq x x) (is_in xs x) (eq-eqb x x refl)))
    ∙ ap (λ o. cond (q x) (Some x) o) (same_find p q xs (λ y among. same y (or_right (nat_eq y x) (is_in xs y) among)))

same_filter_map : {X : Type 0} (f g : ℕ → Option X) (xs : List ℕ) → ((x : ℕ) → is_in xs x ≡ true → f x ≡ g x) → filter_map f xs ≡ filter_map g xs
same_filter_map f g [] same = refl
same_filter_map f g (x ∷ xs) same =
    ap (λ o. cons_option o (filter_map f xs)) (same x (or_left (nat_eq x x) (is_in xs x) (eq-eqb x x refl)))
    ∙ ap (cons_option (g x)) (same_filter_map f g xs (λ y among. same y (or_right (nat_eq y x) (is_in xs y) among)))

pub same_groups : {K : Type 0} (same : K → K → Bool) (key other : ℕ → Option K) (regs : List ℕ) → ((r : ℕ) → is_in regs r ≡ true → key r ≡ other r) → groups same key regs ≡ groups same other regs
same_groups {K = K} same key other regs alike = same_filter_map (λ r. option_and_then (group_of same key regs r) (key r)) (λ r. option_and_then (group_of same other regs r) (other r)) regs (λ r among.
    ap (option_and_then (group_of same key regs r)) (alike r among) ∙ go r (other r))
  where
    tests : (k : K) (r : ℕ) → is_in regs r ≡ true → has_key same key k r ≡ has_key same other k r
    tests k r among = ap (λ o. option_map_or (same k) o false) (alike r among)

    go : (r : ℕ) (o : Option K) → option_and_then (group_of same key regs r) o ≡ option_and_then (group_of same other regs r) o
    go r None = refl
    go r (Some k) =
        ap (λ f. if is_first f r then Some (let g : Group K = record { key = k; regs = filter (has_key same key k) regs } in g) else None) (same_find (has_key same key k) (has_key same other k) regs (tests k))
        ∙ ap (λ l. if is_first (find (has_key same other k) regs) r then Some (let g : Group K = record { key = k; regs = l } in g) else None) (filter_same (has_key same key k) (has_key same other k) regs (tests k))

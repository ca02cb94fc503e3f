-- Groups of registers by their keys, with one more register behind the others.
use Rattle.std.proofs.Common.{◌≡◌, ℕ, Bool, true, false, cond, if◌then◌else◌, List, [], ◌∷◌, ◌++◌, map, nat_eq, Option, Some, None}
use Rattle.std.proofs.Common.{option_and_then, option_map, refl, sym, ◌∙◌, ap, subst, inl, inr}
use Rattle.std.specs.List.{cons_option, filter, filter_map, find, list_any}
use Rattle.std.specs.Option.{option_map_or, option_or}
use Rattle.std.proofs.lemmas.Bool.{both_ways, cases_Bool, eqb-true, eq-eqb, or_cases, or_left, or_right}
use Rattle.std.proofs.lemmas.List.Elements.{filter-append, filter_map-append}
use Rattle.std.proofs.lemmas.List.Folds.{find-append}
use Rattle.std.proofs.lemmas.Option.{none-some, same_Some}
use Rattle.cg_net.specs.NetSets.{is_in}
use Rattle.cg_stage_list_laws.specs.Groups.{Group, group_of, groups, has_key, is_first}
use Rattle.cg_stage_groups.specs.inner.Grouping.{extend, with_key, with_member}

-- the item that was found
pub found_is : (test : ℕ → Bool) (xs : List ℕ) (x : ℕ) → find test xs ≡ Some x → (is_in xs x ≡ true) × (test x ≡ true)
found_is test [] x is = absurd (none-some x is)
found_is test (y ∷ xs) x is = go (test y) refl is (found_is test xs x)
  where
    go : (b : Bool) → test y ≡ b → cond b (Some y) (find test xs) ≡ Some x → (find test xs ≡ Some x → (is_in xs x ≡ true) × (test x ≡ true)) → (is_in (y ∷ xs) x ≡ true) × (test x ≡ true)
    go true passes h rest = let e : y ≡ x = same_Some y x h in (or_left (nat_eq x y) (is_in xs x) (eq-eqb x y (sym e)), ap test (sym e) ∙ passes)
    go false passes h rest = let r = rest h in (or_right (nat_eq x y) (is_in xs x) r.0, r.1)

-- an item that passes is found, or one before it
pub is_found : (test : ℕ → Bool) (xs : List ℕ) (x : ℕ) → is_in xs x ≡ true → test x ≡ true → (y : ℕ) × (find test xs ≡ Some y)
is_found test [] x among passes = absurd (both_ways false refl among)
is_found test (y ∷ xs) x among passes = go (test y) refl (λ later. is_found test xs x later passes)
  where
    go : (b : Bool) → test y ≡ b → (is_in xs x ≡ true → (z : ℕ) × (find test xs ≡ Some z)) → (z : ℕ) × (cond b (Some y) (find test xs) ≡ Some z)
    go true is rest = (y, refl)
    go false is rest = elim (or_cases (nat_eq x y) (is_in xs x) among) [
      | inl same ↦ absurd (both_ways (test y) is (ap test (sym (eqb-true x y same)) ∙ passes))
      | inr later ↦ rest later
    ]

pub none_passes : (test : ℕ → Bool) (xs : List ℕ) → find test xs ≡ None → filter test xs ≡ []
none_passes test [] none = refl
none_passes test (y ∷ xs) none = go (test y) none (none_passes test xs)
  where
    go : (b : Bool) → cond b (Some y) (find test xs) ≡ None → (find test xs ≡ None → filter test xs ≡ []) → cond b (y ∷ filter test xs) (filter test xs) ≡ []
    go true h rest = absurd (none-some y (sym h))
    go false h rest = rest h

-- what is mapped of items alike
pub mapped_alike : {X : Type 0} (f g : ℕ → Option X) (h : X → X) (xs : List ℕ) → ((x : ℕ) → is_in xs x ≡ true → f x ≡ option_map h (g x)) → filter_map f xs ≡ map h (filter_map g xs)
mapped_alike {X = X} f g h [] alike = refl
mapped_alike {X = X} f g h (x ∷ xs) alike =
    ap (λ o. cons_option o (filter_map f xs)) (alike x (or_left (nat_eq x x) (is_in xs x) (eq-eqb x x refl)))
    ∙ (ap (λ l. cons_option (option_map h (g x)) l) (mapped_alike f g h xs (λ y among. alike y (or_right (nat_eq y x) (is_in xs y) among))) ∙ go (g x))
  where
    go : (o : Option X) → cons_option (option_map h o) (map h (filter_map g xs)) ≡ map h (cons_option o (filter_map g xs))
    go None = refl
    go (Some y) = refl

module _ {K : Type 0} (same : K → K → Bool) (self : (k : K) → same k k ≡ true) (is_same : (j k : K) → same j k ≡ true → j ≡ k) (key : ℕ → Option K) where
  -- the group that begins at a register
  abbrev begun : List ℕ → ℕ → Option (Group K)
  begun xs r = option_and_then (group_of same key xs r) (key r)

  -- whether a group of these registers has a key
  pub any_group : (k : K) (xs rs : List ℕ) → ((x : ℕ) → is_in rs x ≡ true → is_in xs x ≡ true) → list_any (λ (g : Group K). same g.key k) (filter_map (begun xs) rs) ≡ true → (x : ℕ) × (find (has_key same key k) xs ≡ Some x)
  any_group k xs [] within any = absurd (both_ways false refl any)
  any_group k xs (r ∷ rs) within any = go (any_group k xs rs (λ x among. within x (or_right (nat_eq x r) (is_in rs x) among))) (key r) refl any
    where
      go : (list_any (λ (g : Group K). same g.key k) (filter_map (begun xs) rs) ≡ true → (x : ℕ) × (find (has_key same key k) xs ≡ Some x)) → (o : Option K) → key r ≡ o → list_any (λ (g : Group K). same g.key k) (cons_option (option_and_then (group_of same key xs r) o) (filter_map (begun xs) rs)) ≡ true → (x : ℕ) × (find (has_key same key k) xs ≡ Some x)
      go rest None at h = rest h
      go rest (Some j) at h = inner (is_first (find (has_key same key j) xs) r) h
        where
          inner : (b : Bool) → list_any (λ (g : Group K). same g.key k) (cons_option (if b then Some (record { key = j; regs = filter (has_key same key j) xs }) else None) (filter_map (begun xs) rs)) ≡ true → (x : ℕ) × (find (has_key same key k) xs ≡ Some x)
          inner false a = rest a
          inner true a = elim (or_cases (same j k) (list_any (λ (g : Group K). same g.key k) (filter_map (begun xs) rs)) a) [
            | inl is ↦
                let e : j ≡ k = is_same j k is in
                is_found (has_key same key k) xs r (within r (or_left (nat_eq r r) (is_in rs r) (eq-eqb r r refl))) (ap (λ o. option_map_or (same k) o false) (at ∙ ap Some e) ∙ self k)
            | inr later ↦ rest later
          ]

  pub group_there : (k : K) (xs rs : List ℕ) (x : ℕ) → find (has_key same key k) xs ≡ Some x → is_in rs x ≡ true → list_any (λ (g : Group K). same g.key k) (filter_map (begun xs) rs) ≡ true
  group_there k xs [] x found among = absurd (both_ways false refl among)
  group_there k xs (r ∷ rs) x found among = elim (or_cases (nat_eq x r) (is_in rs x) among) [
    | inl here' ↦ here (eqb-true x r here')
    | inr later ↦ behind (begun xs r) (group_there k xs rs x found later)
  ]
    where
      behind : (o : Option (Group K)) → list_any (λ (g : Group K). same g.key k) (filter_map (begun xs) rs) ≡ true → list_any (λ (g : Group K). same g.key k) (cons_option o (filter_map (begun xs) rs)) ≡ true
      behind None h = h
      behind (Some g) h = or_right (same g.key k) (list_any (λ (g : Group K). same g.key k) (filter_map (begun xs) rs)) h

      here : x ≡ r → list_any (λ (g : Group K). same g.key k) (cons_option (begun xs r) (filter_map (begun xs) rs)) ≡ true
      here e = go (key r) refl
        where
          passes : has_key same key k r ≡ true
          passes = ap (has_key same key k) (sym e) ∙ (found_is (has_key same key k) xs x found).1

          go : (o : Option K) → key r ≡ o → list_any (λ (g : Group K). same g.key k) (cons_option (option_and_then (group_of same key xs r) o) (filter_map (begun xs) rs)) ≡ true
          go None at = absurd (both_ways (has_key same key k r) (ap (λ o. option_map_or (same k) o false) at) passes)
          go (Some j) at =
              let is : k ≡ j = is_same k j (ap (λ o. option_map_or (same k) o false) (sym at) ∙ passes) in
              let first : is_first (find (has_key same key j) xs) r ≡ true = ap (λ i. is_first (find (has_key same key i) xs) r) (sym is) ∙ (ap (λ o. is_first o r) found ∙ eq-eqb x r e) in
              subst (λ b. list_any (λ (g : Group K). same g.key k) (cons_option (if b then Some (record { key = j; regs = filter (has_key same key j) xs }) else None) (filter_map (begun xs) rs)) ≡ true) (sym first)
              (or_left (same j k) (list_any (λ (g : Group K). same g.key k) (filter_map (begun xs) rs)) (ap (λ i. same i k) (sym is) ∙ self k))

  append-none : {X : Type 0} (l : List X) → l ++ [] ≡ l
  append-none [] = refl
  append-none (y ∷ l) = ap (λ k. y ∷ k) (append-none l)

  -- a register without a key changes nothing
  module _ (xs : List ℕ) (r : ℕ) (new : is_in xs r ≡ false) where
    not_here : (test : ℕ → Bool) → is_first (find test xs) r ≡ false
    not_here test = go (find test xs) refl
      where
        go : (o : Option ℕ) → find test xs ≡ o → is_first o r ≡ false
        go None at = refl
        go (Some x) at = apart (nat_eq x r) refl
          where
            apart : (b : Bool) → nat_eq x r ≡ b → b ≡ false
            apart false is = refl
            apart true is = absurd (both_ways (is_in xs r) new (subst (λ z. is_in xs z ≡ true) (eqb-true x r is) (found_is test xs x at).0))

    -- the first register with the key of one of xs is one of xs
    front_first : (j : K) (x : ℕ) → is_in xs x ≡ true → key x ≡ Some j → find (has_key same key j) (xs ++ r ∷ []) ≡ find (has_key same key j) xs
    front_first j x among at =
        let found = is_found (has_key same key j) xs x among (ap (λ o. option_map_or (same j) o false) at ∙ self j) in
        find-append (has_key same key j) xs (r ∷ []) ∙ (ap (λ o. option_or o (find (has_key same key j) (r ∷ []))) found.1 ∙ sym found.1)

    without : key r ≡ None → groups same key (xs ++ r ∷ []) ≡ groups same key xs
    without none =
        filter_map-append (begun (xs ++ r ∷ [])) xs (r ∷ [])
        ∙ (ap (λ o. filter_map (begun (xs ++ r ∷ [])) xs ++ cons_option (option_and_then (group_of same key (xs ++ r ∷ []) r) o) []) none
        ∙ (append-none (filter_map (begun (xs ++ r ∷ [])) xs)
        ∙ (mapped_alike (begun (xs ++ r ∷ [])) (begun xs) (λ g. g) xs alike ∙ map-same (groups same key xs))))
      where
        map-same : {X : Type 0} (l : List X) → map (λ x. x) l ≡ l
        map-same [] = refl
        map-same (y ∷ l) = ap (λ k. y ∷ k) (map-same l)

        no_more : (j : K) → filter (has_key same key j) (xs ++ r ∷ []) ≡ filter (has_key same key j) xs
        no_more j = filter-append (has_key same key j) xs (r ∷ []) ∙ (ap (λ o. filter (has_key same key j) xs ++ cond (option_map_or (same j) o false) (r ∷ []) []) none ∙ append-none (filter (has_key same key j) xs))

        option-same : {X : Type 0} (o : Option X) → o ≡ option_map (λ x. x) o
        option-same None = refl
        option-same (Some x) = refl

        alike : (x : ℕ) → is_in xs x ≡ true → begun (xs ++ r ∷ []) x ≡ option_map (λ g. g) (begun xs x)
        alike x among = go (key x) refl ∙ option-same (begun xs x)
          where
            go : (o : Option K) → key x ≡ o → option_and_then (group_of same key (xs ++ r ∷ []) x) o ≡ option_and_then (group_of same key xs x) o
            go None at = refl
            go (Some j) at =
                ap (λ f. if is_first f x then Some (record { key = j; regs = filter (has_key same key j) (xs ++ r ∷ []) }) else None) (front_first j x among at)
                ∙ ap (λ l. if is_first (find (has_key same key j) xs) x then Some (let g : Group K = record { key = j; regs = l } in g) else None) (no_more j)

    -- one with a key goes behind the others of its group, or begins one
    module _ (k : K) (at_r : key r ≡ Some k) where
      more : (j : K) → filter (has_key same key j) (xs ++ r ∷ []) ≡ filter (has_key same key j) xs ++ (if same j k then r ∷ [] else [])
      more j = filter-append (has_key same key j) xs (r ∷ []) ∙ (ap (λ o. filter (has_key same key j) xs ++ cond (option_map_or (same j) o false) (r ∷ []) []) at_r ∙ ap (λ l. filter (has_key same key j) xs ++ l) (one (same j k)))
        where
          one : (b : Bool) → cond b (r ∷ []) [] ≡ (if b then r ∷ [] else [])
          one true = refl
          one false = refl

      extended : (j : K) (l : List ℕ) → (let g : Group K = record { key = j; regs = l ++ (if same j k then r ∷ [] else []) } in g) ≡ extend same k r (record { key = j; regs = l })
      extended j l = go (same j k)
        where
          go : (b : Bool) → (let g : Group K = record { key = j; regs = l ++ (if b then r ∷ [] else []) } in g) ≡ (if b then record { key = j; regs = l ++ r ∷ [] } else record { key = j; regs = l })
          go true = refl
          go false = ap (λ z. let g : Group K = record { key = j; regs = z } in g) (append-none l)

      alike : (x : ℕ) → is_in xs x ≡ true → begun (xs ++ r ∷ []) x ≡ option_map (extend same k r) (begun xs x)
      alike x among = go (key x) refl
        where
          go : (o : Option K) → key x ≡ o → option_and_then (group_of same key (xs ++ r ∷ []) x) o ≡ option_map (extend same k r) (option_and_then (group_of same key xs x) o)
          go None at = refl
          go (Some j) at =
              ap (λ f. if is_first f x then Some (record { key = j; regs = filter (has_key same key j) (xs ++ r ∷ []) }) else None) (front_first j x among at)
              ∙ (ap (λ l. if is_first (find (has_key same key j) xs) x then Some (let g : Group K = record { key = j; regs = l } in g) else None) (more j)
              ∙ (ap (λ g. if is_first (find (has_key same key j) xs) x then Some g else None) (extended j (filter (has_key same key j) xs))
              ∙ inner (is_first (find (has_key same key j) xs) x)))
            where
              inner : (b : Bool) → (if b then Some (extend same k r (record { key = j; regs = filter (has_key same key j) xs })) else None) ≡ option_map (extend same k r) (if b then Some (record { key = j; regs = filter (has_key same key j) xs }) else None)
              inner true = refl
              inner false = refl

      last : cons_option (option_and_then (group_of same key (xs ++ r ∷ []) r) (Some k)) [] ≡ (if list_any (λ (g : Group K). same g.key k) (groups same key xs) then [] else record { key = k; regs = r ∷ [] } ∷ [])
      last = go (find (has_key same key k) xs) refl
        where
          whole : (o : Option ℕ) → find (has_key same key k) xs ≡ o → find (has_key same key k) (xs ++ r ∷ []) ≡ option_or o (Some r)
          whole o is =
              find-append (has_key same key k) xs (r ∷ [])
              ∙ (ap (λ p. option_or p (find (has_key same key k) (r ∷ []))) is ∙ ap (λ b. option_or o (cond b (Some r) None)) (ap (λ p. option_map_or (same k) p false) at_r ∙ self k))

          go : (o : Option ℕ) → find (has_key same key k) xs ≡ o → cons_option (option_and_then (group_of same key (xs ++ r ∷ []) r) (Some k)) [] ≡ (if list_any (λ (g : Group K). same g.key k) (groups same key xs) then [] else record { key = k; regs = r ∷ [] } ∷ [])
          go (Some x) is =
              ap (λ b. cons_option (if b then Some (let g : Group K = record { key = k; regs = filter (has_key same key k) (xs ++ r ∷ []) } in g) else None) []) (ap (λ f. is_first f r) (whole (Some x) is) ∙ (ap (λ f. is_first f r) (sym is) ∙ not_here (has_key same key k)))
              ∙ ap (λ b. if b then [] else (let g : Group K = record { key = k; regs = r ∷ [] } in g) ∷ []) (sym (group_there k xs xs x is (found_is (has_key same key k) xs x is).0))
          go None is =
              ap (λ b. cons_option (if b then Some (let g : Group K = record { key = k; regs = filter (has_key same key k) (xs ++ r ∷ []) } in g) else None) []) (ap (λ f. is_first f r) (whole None is) ∙ eq-eqb r r refl)
              ∙ (ap (λ l. (let g : Group K = record { key = k; regs = l } in g) ∷ []) (more k ∙ (ap (λ l. l ++ (if same k k then r ∷ [] else [])) (none_passes (has_key same key k) xs is) ∙ ap (λ b. if b then r ∷ [] else []) (self k)))
              ∙ ap (λ b. if b then [] else (let g : Group K = record { key = k; regs = r ∷ [] } in g) ∷ []) (sym none))
            where
              none : list_any (λ (g : Group K). same g.key k) (groups same key xs) ≡ false
              none = elim (cases_Bool (list_any (λ (g : Group K). same g.key k) (groups same key xs))) [
                | inl any ↦ let x = any_group k xs xs (λ x among. among) any in absurd (none-some x.0 (sym is ∙ x.1))
                | inr out ↦ out
              ]

      within : groups same key (xs ++ r ∷ []) ≡ with_member same (groups same key xs) k r
      within =
          filter_map-append (begun (xs ++ r ∷ [])) xs (r ∷ [])
          ∙ (ap (λ l. l ++ cons_option (begun (xs ++ r ∷ []) r) []) (mapped_alike (begun (xs ++ r ∷ [])) (begun xs) (extend same k r) xs alike)
          ∙ ap (λ l. map (extend same k r) (groups same key xs) ++ l) (ap (λ o. cons_option (option_and_then (group_of same key (xs ++ r ∷ []) r) o) []) at_r ∙ last))

    -- the groups with one more register
    pub groups_more : groups same key (xs ++ r ∷ []) ≡ with_key same (groups same key xs) (key r) r
    groups_more = go (key r) refl
      where
        go : (o : Option K) → key r ≡ o → groups same key (xs ++ r ∷ []) ≡ with_key same (groups same key xs) o r
        go None at = without at
        go (Some k) at = within k at

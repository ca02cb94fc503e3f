-- Stages of a list fit where each fits and no two share a register; groups of registers.
use Rattle.std.proofs.Common.{◌≡◌, ◌≢◌, ℕ, zero, suc, ◌+◌, ◌<◌, ◌≤◌, Bool, true, false, if◌then◌else◌, cond, List, [], ◌∷◌}
use Rattle.std.proofs.Common.{map, nat_eq, option_map, option_and_then, Option, None, Some, refl, sym, ◌∙◌, ap, subst, arith}
use Rattle.std.proofs.Common.{inl, inr}
use Rattle.std.specs.List.{cons_option, filter, filter_map, find, range_with_len}
use Rattle.std.specs.Option.{option_map_or}
use Rattle.std.proofs.lemmas.Bool.{both_ways, eqb-true, eq-eqb, false_from_ne_true, or_left}
use Rattle.std.proofs.lemmas.Option.{none-some, same_Some}
use Rattle.cg_net.specs.NetSets.{is_in}
use Rattle.cg_machine.specs.Machine.{MachineData}
use Rattle.cg_machine.specs.declared.stage.Stage.{Stage}
use Rattle.cg_stage_laws.specs.Stages.{Fits}
use Rattle.cg_stage_list_laws.specs.Fit.{AllFit, AreApart}
use Rattle.cg_stage_list_laws.specs.Groups.{Group, group_of, has_key, is_first}
use Rattle.cg_stage_list_laws.proofs.Among.{Among, among_cons, among_none, later}
use Rattle.cg_netlist.proofs.Filtered.{in_filter}

-- items of which none is one behind it
abbrev pub Differ : {X : Type 0} → List X → Type 0
Differ {X} [] = Unit {0}
Differ {X} (x ∷ xs) = ((y : X) → Among y xs → x ≢ y) × Differ xs

module _ {X : Type 0} (m : MachineData) (F : X → Option Stage) (fits : (x : X) (s : Stage) → F x ≡ Some s → Fits m s)
    (apart : (x y : X) (s t : Stage) → x ≢ y → F x ≡ Some s → F y ≡ Some t → (r : ℕ) → is_in t.regs r ≡ true → is_in s.regs r ≡ false) where
  all_apart : (x : X) (s : Stage) → F x ≡ Some s → (ys : List X) → ((y : X) → Among y ys → x ≢ y) → AreApart s.regs (filter_map F ys)
  all_apart x s is [] other = tt
  all_apart x s is (y ∷ ys) other = go (F y) refl (all_apart x s is ys (λ z a. other z (later z y ys a)))
    where
      go : (o : Option Stage) → F y ≡ o → AreApart s.regs (filter_map F ys) → AreApart s.regs (cons_option o (filter_map F ys))
      go None at rest = rest
      go (Some t) at rest = (apart x y s t (other y (record { place = 0; at = refl })) is at, rest)

  pub all_fit : (xs : List X) → Differ xs → AllFit m (filter_map F xs)
  all_fit [] differ = tt
  all_fit (x ∷ xs) differ = go (F x) refl (all_fit xs differ.1)
    where
      go : (o : Option Stage) → F x ≡ o → AllFit m (filter_map F xs) → AllFit m (cons_option o (filter_map F xs))
      go None at rest = rest
      go (Some s) at rest = (fits x s at, all_apart x s at xs differ.0, rest)

-- lists of lists
pub map_maps : {X Y Z : Type 0} (f : Y → Z) (g : X → Option Y) (xs : List X) → map f (filter_map g xs) ≡ filter_map (λ x. option_map f (g x)) xs
map_maps f g [] = refl
map_maps {X = X} {Y = Y} f g (x ∷ xs) = go (g x) (map_maps f g xs)
  where
    go : (o : Option Y) → map f (filter_map g xs) ≡ filter_map (λ z. option_map f (g z)) xs → map f (cons_option o (filter_map g xs)) ≡ cons_option (option_map f o) (filter_map (λ z. option_map f (g z)) xs)
    go None rest = rest
    go (Some y) rest = ap (λ l. f y ∷ l) rest

pub maps_maps : {X Y Z : Type 0} (f : Y → Option Z) (g : X → Option Y) (xs : List X) → filter_map f (filter_map g xs) ≡ filter_map (λ x. option_and_then f (g x)) xs
maps_maps f g [] = refl
maps_maps {X = X} {Y = Y} f g (x ∷ xs) = go (g x) (maps_maps f g xs)
  where
    go : (o : Option Y) → filter_map f (filter_map g xs) ≡ filter_map (λ z. option_and_then f (g z)) xs → filter_map f (cons_option o (filter_map g xs)) ≡ cons_option (option_and_then f o) (filter_map (λ z. option_and_then f (g z)) xs)
    go None rest = rest
    go (Some y) rest = ap (cons_option (f y)) rest

-- ranges and what is filtered of them
pub range_above : (n a x : ℕ) → Among x (range_with_len a n) → (a ≤ x) × (x < a + n)
range_above zero a x h = absurd (among_none x h)
range_above (suc n) a x h = elim (among_cons x a (range_with_len (a + 1) n) h) [
  | inl same ↦ (omega (arith, same), omega (arith, same))
  | inr more ↦ let b = range_above n (a + 1) x more in (omega (arith, b.0), omega (arith, b.1))
]

pub range_differs : (n a : ℕ) → Differ (range_with_len a n)
range_differs zero a = tt
range_differs (suc n) a = ((λ y h same. let b = range_above n (a + 1) y h in omega (arith, b.0, same)), range_differs n (a + 1))

-- groups
module _ {K : Type 0} (same : K → K → Bool) (same_is : (a b : K) → same a b ≡ true → a ≡ b) (key : ℕ → Option K) (regs : List ℕ) where
  -- the group that begins with a register
  pub record BeginsGroup (r : ℕ) (g : Group K) : Type 0 where
    pub is_key : key r ≡ Some g.key
    pub first : is_first (find (has_key same key g.key) regs) r ≡ true
    pub are : g.regs ≡ filter (has_key same key g.key) regs

  pub begins_group : (r : ℕ) (g : Group K) → option_and_then (group_of same key regs r) (key r) ≡ Some g → BeginsGroup r g
  begins_group r g is = go (key r) refl is
    where
      inner : (k : K) → key r ≡ Some k → (b : Bool) → is_first (find (has_key same key k) regs) r ≡ b → (if b then Some (record { key = k; regs = filter (has_key same key k) regs }) else None) ≡ Some g → BeginsGroup r g
      inner k at true f h =
          let e : record { key = k; regs = filter (has_key same key k) regs } ≡ g = same_Some (record { key = k; regs = filter (has_key same key k) regs }) g h in
          subst (BeginsGroup r) e (record { is_key = at; first = f; are = refl })
      inner k at false f h = absurd (none-some g h)

      go : (o : Option K) → key r ≡ o → option_and_then (group_of same key regs r) o ≡ Some g → BeginsGroup r g
      go None at h = absurd (none-some g h)
      go (Some k) at h = inner k at (is_first (find (has_key same key k) regs) r) refl h

  -- the key of a register of a group
  pub key_in : (k : K) (q : ℕ) → has_key same key k q ≡ true → key q ≡ Some k
  key_in k q has = go (key q) refl has
    where
      go : (o : Option K) → key q ≡ o → option_map_or (same k) o false ≡ true → key q ≡ Some k
      go None at h = absurd (both_ways false refl h)
      go (Some j) at h = at ∙ ap Some (sym (same_is k j h))

  first_is : (o : Option ℕ) (a b : ℕ) → is_first o a ≡ true → is_first o b ≡ true → a ≡ b
  first_is None a b f g = absurd (both_ways false refl f)
  first_is (Some c) a b f g = sym (eqb-true c a f) ∙ eqb-true c b g

  pub groups_apart : (a b : ℕ) (g h : Group K) → a ≢ b → BeginsGroup a g → BeginsGroup b h → (r : ℕ) → is_in h.regs r ≡ true → is_in g.regs r ≡ false
  groups_apart a b g h other ga gb r among = false_from_ne_true (is_in g.regs r) (λ there.
      let ka = key_in g.key r (in_filter (has_key same key g.key) regs r (ap (λ l. is_in l r) (sym ga.are) ∙ there)).1 in
      let kb = key_in h.key r (in_filter (has_key same key h.key) regs r (ap (λ l. is_in l r) (sym gb.are) ∙ among)).1 in
      let e : g.key ≡ h.key = same_Some g.key h.key (sym ka ∙ kb) in
      other (first_is (find (has_key same key g.key) regs) a b ga.first (ap (λ k. is_first (find (has_key same key k) regs) b) e ∙ gb.first)))

  -- a group has the register that it begins with
  found_in : (test : ℕ → Bool) (xs : List ℕ) (f : ℕ) → find test xs ≡ Some f → is_in (filter test xs) f ≡ true
  found_in test [] f is = absurd (none-some f is)
  found_in test (x ∷ xs) f is = go (found_in test xs f) (test x) is
    where
      go : (find test xs ≡ Some f → is_in (filter test xs) f ≡ true) → (b : Bool) → cond b (Some x) (find test xs) ≡ Some f → is_in (cond b (x ∷ filter test xs) (filter test xs)) f ≡ true
      go rest true h = or_left (nat_eq f x) (is_in (filter test xs) f) (eq-eqb f x (sym (same_Some x f h)))
      go rest false h = rest h

  pub group_has : (r : ℕ) (g : Group K) → BeginsGroup r g → is_in g.regs r ≡ true
  group_has r g b = ap (λ l. is_in l r) b.are ∙ go (find (has_key same key g.key) regs) refl b.first
    where
      first_eq : (f q : ℕ) → is_first (Some f) q ≡ true → f ≡ q
      first_eq f q h = eqb-true f q h

      go : (o : Option ℕ) → find (has_key same key g.key) regs ≡ o → is_first o r ≡ true → is_in (filter (has_key same key g.key) regs) r ≡ true
      go None at h = absurd (both_ways false refl h)
      go (Some f) at h = subst (λ z. is_in (filter (has_key same key g.key) regs) z ≡ true) (first_eq f r h) (found_in (has_key same key g.key) regs f at)

  pub member_key : (r : ℕ) (g : Group K) → BeginsGroup r g → (q : ℕ) → is_in g.regs q ≡ true → (is_in regs q ≡ true) × (key q ≡ Some g.key)
  member_key r g b q among =
      let p = in_filter (has_key same key g.key) regs q (ap (λ l. is_in l q) (sym b.are) ∙ among) in
      (p.0, key_in g.key q p.1)

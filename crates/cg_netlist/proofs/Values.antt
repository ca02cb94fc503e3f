-- The values at nets, and lists made place by place of two others.
use Rattle.std.proofs.Common.{◌≡◌, ℕ, zero, suc, ◌+◌, ◌<◌, Bool, true, false, List, [], ◌∷◌, ◌++◌, map, length, slice_get, Some}
use Rattle.std.proofs.Common.{nat_eq, refl, ap, sym, ◌∙◌, arith}
use Rattle.std.specs.List.{All, cons_option, range_with_len}
use Rattle.std.specs.Option.{option_map}
use Rattle.std.proofs.lemmas.Bool.{eq-eqb, or_left, or_right}
use Rattle.std.proofs.lemmas.List.Elements.{All-head, All-tail, filter_map-append}
use Rattle.std.proofs.lemmas.Option.{slice_get-map, get_or_from_slice_get}
use Rattle.cg_net.specs.NetSets.{is_in}
use Rattle.cg_netlist.specs.Moment.{values_at, bit, zip_with}

-- within a list there is an element
pub element_at : {X : Type 0} (xs : List X) (k : ℕ) → k < length xs → (x : X) × (slice_get xs k ≡ Some x)
element_at [] k within = absurd (omega arith)
element_at (x ∷ xs) zero within = (x, refl)
element_at (x ∷ xs) (suc k) within = element_at xs k (omega arith)

-- the places of a list and of what is made of its elements
pub at_map : {X : Type 0} (f : X → ℕ) (xs : List X) (k : ℕ) (x : X) → slice_get xs k ≡ Some x → slice_get (map f xs) k ≡ Some (f x)
at_map f xs k x at = slice_get-map f xs k ∙ ap (option_map f) at

pub under_map : {X : Type 0} (f : X → ℕ) (xs : List X) (k n : ℕ) → slice_get (map f xs) k ≡ Some n → (x : X) × (slice_get xs k ≡ Some x) × (f x ≡ n)
under_map f [] k n at = absurd (cc)
under_map f (x ∷ xs) zero n at = (x, refl, cc)
under_map f (x ∷ xs) (suc k) n at = under_map f xs k n at

-- lists that are equal place by place are equal
pub same_places : {X : Type 0} (xs ys : List X) → length xs ≡ length ys → ((k : ℕ) → k < length xs → slice_get xs k ≡ slice_get ys k) → xs ≡ ys
same_places [] [] long same = refl
same_places [] (y ∷ ys) long same = absurd (omega arith)
same_places (x ∷ xs) [] long same = absurd (omega arith)
same_places (x ∷ xs) (y ∷ ys) long same =
    let head : Some x ≡ Some y = same 0 (omega arith) in
    let first : x ≡ y = cc in
    let rest : xs ≡ ys = same_places xs ys (omega arith) (λ k below. same (suc k) (omega arith)) in
    cc

-- two lists that begin with parts of one length are equal where both parts are
pub split_lists : {X : Type 0} (as' bs cs ds : List X) → length as' ≡ length bs → as' ++ cs ≡ bs ++ ds → (as' ≡ bs) × (cs ≡ ds)
split_lists [] [] cs ds long same = (refl, same)
split_lists [] (b ∷ bs) cs ds long same = absurd (omega arith)
split_lists (a ∷ as') [] cs ds long same = absurd (omega arith)
split_lists (a ∷ as') (b ∷ bs) cs ds long same =
    let first : a ≡ b = cc in
    let tails : as' ++ cs ≡ bs ++ ds = cc in
    let rest : (as' ≡ bs) × (cs ≡ ds) = split_lists as' bs cs ds (omega arith) tails in
    let front : as' ≡ bs = rest.0 in
    (cc, rest.1)

-- functions that agree at each net of a list
pub map_same : {X : Type 0} (f g : ℕ → X) (nets : List ℕ) → ((x : ℕ) → is_in nets x ≡ true → f x ≡ g x) → map f nets ≡ map g nets
map_same f g [] same = refl
map_same f g (n ∷ ns) same =
    let first : f n ≡ g n = same n (or_left (nat_eq n n) (is_in ns n) (eq-eqb n n refl)) in
    let rest : map f ns ≡ map g ns = map_same f g ns (λ x among. same x (or_right (nat_eq x n) (is_in ns x) among)) in
    cc

module _ {X : Type 0} where
  pub values_at-append : (values : List X) (xs ys : List ℕ) → values_at values (xs ++ ys) ≡ values_at values xs ++ values_at values ys
  values_at-append values xs ys = filter_map-append (slice_get values) xs ys

  -- lists that agree at each of the nets have the same values there
  pub same_values : (vs ws : List X) (nets : List ℕ) → ((x : ℕ) → is_in nets x ≡ true → slice_get vs x ≡ slice_get ws x) → values_at vs nets ≡ values_at ws nets
  same_values vs ws [] same = refl
  same_values vs ws (n ∷ ns) same =
      let first : slice_get vs n ≡ slice_get ws n = same n (or_left (nat_eq n n) (is_in ns n) (eq-eqb n n refl)) in
      let rest : values_at vs ns ≡ values_at ws ns = same_values vs ws ns (λ x among. same x (or_right (nat_eq x n) (is_in ns x) among)) in
      ap (λ o. cons_option o (values_at vs ns)) first ∙ ap (cons_option (slice_get ws n)) rest

  -- values that a function of the nets gives
  pub values_by : (f : ℕ → X) (values : List X) (nets : List ℕ) → ((x : ℕ) → is_in nets x ≡ true → slice_get values x ≡ Some (f x)) → values_at values nets ≡ map f nets
  values_by f values [] shown = refl
  values_by f values (n ∷ ns) shown =
      let first : slice_get values n ≡ Some (f n) = shown n (or_left (nat_eq n n) (is_in ns n) (eq-eqb n n refl)) in
      ap (λ o. cons_option o (values_at values ns)) first ∙ ap (λ rest. f n ∷ rest) (values_by f values ns (λ x among. shown x (or_right (nat_eq x n) (is_in ns x) among)))

  pub length-values_at : (values : List X) (nets : List ℕ) → All (λ x. x < length values) nets → length (values_at values nets) ≡ length nets
  length-values_at values [] within = refl
  length-values_at values (n ∷ ns) within =
      let e : (x : X) × (slice_get values n ≡ Some x) = element_at values n (All-head (λ x. x < length values) n ns within) in
      ap (λ o. length (cons_option o (values_at values ns))) e.1 ∙ ap suc (length-values_at values ns (All-tail (λ x. x < length values) n ns within))

  -- the value at the k-th of the nets
  pub value_at : (values : List X) (nets : List ℕ) (k n : ℕ) → All (λ x. x < length values) nets → slice_get nets k ≡ Some n → slice_get (values_at values nets) k ≡ slice_get values n
  value_at values [] k n within at = absurd (cc)
  value_at values (m ∷ ns) zero n within at =
      let e : (x : X) × (slice_get values m ≡ Some x) = element_at values m (All-head (λ x. x < length values) m ns within) in
      let same : m ≡ n = cc in
      ap (λ o. slice_get (cons_option o (values_at values ns)) 0) e.1 ∙ (sym e.1 ∙ ap (slice_get values) same)
  value_at values (m ∷ ns) (suc k) n within at =
      let e : (x : X) × (slice_get values m ≡ Some x) = element_at values m (All-head (λ x. x < length values) m ns within) in
      ap (λ o. slice_get (cons_option o (values_at values ns)) (suc k)) e.1 ∙ value_at values ns k n (All-tail (λ x. x < length values) m ns within) at

  -- lists with the same values at nets agree at each
  pub agree : (vs ws : List X) (nets : List ℕ) (k n : ℕ) → All (λ x. x < length vs) nets → All (λ x. x < length ws) nets → values_at vs nets ≡ values_at ws nets → slice_get nets k ≡ Some n → slice_get vs n ≡ slice_get ws n
  agree vs ws nets k n here there same at = sym (value_at vs nets k n here at) ∙ (ap (λ xs. slice_get xs k) same ∙ value_at ws nets k n there at)

  -- a list made of a function of the place
  pub by_place : (f : ℕ → X) (n a k : ℕ) → k < n → slice_get (map f (range_with_len a n)) k ≡ Some (f (a + k))
  by_place f zero a k below = absurd (omega arith)
  by_place f (suc n) a zero below = let same : a ≡ a + 0 = omega arith in ap (λ m. Some (f m)) same
  by_place f (suc n) a (suc k) below = let same : a + 1 + k ≡ a + suc k = omega arith in by_place f n (a + 1) k (omega arith) ∙ ap (λ m. Some (f m)) same

-- the bit of a net that is shown
pub bit_shown : (nets : List Bool) (n : ℕ) (b : Bool) → slice_get nets n ≡ Some b → bit nets n ≡ b
bit_shown nets n b shown = get_or_from_slice_get nets n b false shown

module _ {A B C : Type 0} (f : A → B → C) where
  pub length-zip_with : (xs : List A) (ys : List B) → length xs ≡ length ys → length (zip_with f xs ys) ≡ length xs
  length-zip_with [] ys long = refl
  length-zip_with (x ∷ xs) [] long = absurd (omega arith)
  length-zip_with (x ∷ xs) (y ∷ ys) long = ap suc (length-zip_with xs ys (omega arith))

  pub zip_with_at : (xs : List A) (ys : List B) (k : ℕ) (x : A) (y : B) → slice_get xs k ≡ Some x → slice_get ys k ≡ Some y → slice_get (zip_with f xs ys) k ≡ Some (f x y)
  zip_with_at [] ys k x y here there = absurd (cc)
  zip_with_at (a ∷ xs) [] k x y here there = absurd (cc)
  zip_with_at (a ∷ xs) (b ∷ ys) zero x y here there = let first : a ≡ x = cc in let second : b ≡ y = cc in cc
  zip_with_at (a ∷ xs) (b ∷ ys) (suc k) x y here there = zip_with_at xs ys k x y here there

-- functions that agree at each place make the same list
pub zip_with_same : {A B C : Type 0} (f g : A → B → C) (xs : List A) (ys : List B) → ((k : ℕ) (x : A) (y : B) → slice_get xs k ≡ Some x → slice_get ys k ≡ Some y → f x y ≡ g x y) → zip_with f xs ys ≡ zip_with g xs ys
zip_with_same f g [] ys same = refl
zip_with_same f g (x ∷ xs) [] same = refl
zip_with_same f g (x ∷ xs) (y ∷ ys) same =
    let first : f x y ≡ g x y = same 0 x y refl refl in
    let rest : zip_with f xs ys ≡ zip_with g xs ys = zip_with_same f g xs ys (λ k a b here there. same (suc k) a b here there) in
    cc

-- The parts of each kind: what holds of each part, and what they mention.
use Rattle.std.specs.Prelude.{◌≡◌, Bool, true, false, not, if◌then◌else◌, List, [], ◌∷◌, ◌++◌, map, Option, None, Some, IfSome}
use Rattle.std.proofs.Common.{refl, ap, ◌∙◌, subst, inl, inr}
use Rattle.std.specs.List.{AllByRecursion, cons_option, filter, filter_map, flat_map}
use Rattle.std.specs.Str.{bytes_eq}
use Rattle.std.proofs.lemmas.Bool.{both_ways, cases_Bool, or_cases, or_left}
use Rattle.cg_netlist_parts.proofs.KnownNames.{known_cases, known_left, known_right, known_tail, same_word}
use Rattle.cg_net.specs.Names.{NetName, is_known}
use Rattle.cg_netlist_parts.specs.Part.{Clock, GaterPart, Input, Logic, Output, Part, Register, cell_in, clock_in, each_once, gater_in, input_in}
use Rattle.cg_netlist_parts.specs.Part.{mentioned, output_in, register_in}

-- a part of which something of a kind is picked is that thing wrapped
abbrev pub Picks : {X : Type 0} → (Part → Option X) → (X → Part) → Type 0
Picks {X} pick wrap = (p : Part) → IfSome (pick p) (λ (v : X). p ≡ wrap v)

pub picks_input : Picks input_in (λ net. Input net)
picks_input (Input net) = refl
picks_input p = tt

pub picks_output : Picks output_in (λ net. Output net)
picks_output (Output net) = refl
picks_output p = tt

pub picks_clock : Picks clock_in (λ net. Clock net)
picks_clock (Clock net) = refl
picks_clock p = tt

pub picks_cell : Picks cell_in (λ k. Logic k)
picks_cell (Logic k) = refl
picks_cell p = tt

pub picks_gater : Picks gater_in (λ g. GaterPart g)
picks_gater (GaterPart g) = refl
picks_gater p = tt

pub picks_register : Picks register_in (λ r. Register r)
picks_register (Register r) = refl
picks_register p = tt

module _ {X : Type 0} (pick : Part → Option X) (wrap : X → Part) (picks : Picks pick wrap) where
  pub kind_each : (P : Part → Type 0) (parts : List Part) → AllByRecursion P parts → AllByRecursion (λ v. P (wrap v)) (filter_map pick parts)
  kind_each P [] all = tt
  kind_each P (p ∷ ps) all = go (pick p) (picks p) (kind_each P ps all.1)
    where
      go : (o : Option X) → IfSome o (λ v. p ≡ wrap v) → AllByRecursion (λ v. P (wrap v)) (filter_map pick ps) → AllByRecursion (λ v. P (wrap v)) (cons_option o (filter_map pick ps))
      go None is rest = rest
      go (Some v) is rest = (subst P is all.0, rest)

  pub kind_mentioned : (g : X → List NetName) → ((v : X) (x : NetName) → is_known (g v) x ≡ true → is_known (mentioned (wrap v)) x ≡ true) → (parts : List Part) (x : NetName)
      → is_known (flat_map g (filter_map pick parts)) x ≡ true → is_known (flat_map mentioned parts) x ≡ true
  kind_mentioned g within [] x is = is
  kind_mentioned g within (p ∷ ps) x is = go (pick p) (picks p) is (kind_mentioned g within ps x)
    where
      go : (o : Option X) → IfSome o (λ v. p ≡ wrap v) → is_known (flat_map g (cons_option o (filter_map pick ps))) x ≡ true → (is_known (flat_map g (filter_map pick ps)) x ≡ true → is_known (flat_map mentioned ps) x ≡ true)
          → is_known (mentioned p ++ flat_map mentioned ps) x ≡ true
      go None e there more = known_right (mentioned p) (flat_map mentioned ps) x (more there)
      go (Some v) e there more = elim (known_cases (g v) (flat_map g (filter_map pick ps)) x there) [
        | inl here ↦ known_left (mentioned p) (flat_map mentioned ps) x (ap (λ q. is_known (mentioned q) x) e ∙ within v x here)
        | inr later ↦ known_right (mentioned p) (flat_map mentioned ps) x (more later)
      ]

pub one_each : {X : Type 0} (h : X → NetName) (xs : List X) → flat_map (λ v. h v ∷ []) xs ≡ map h xs
one_each h [] = refl
one_each h (x ∷ xs) = ap (λ ys. h x ∷ ys) (one_each h xs)

-- words once are the same words
known_filter : (p : NetName → Bool) (xs : List NetName) (x : NetName) → is_known (filter p xs) x ≡ true → (is_known xs x ≡ true) × (p x ≡ true)
known_filter p [] x is = absurd (both_ways false refl is)
known_filter p (y ∷ ys) x is = go (p y) refl is (known_filter p ys x)
  where
    go : (b : Bool) → p y ≡ b → is_known (if b then y ∷ filter p ys else filter p ys) x ≡ true → (is_known (filter p ys) x ≡ true → (is_known ys x ≡ true) × (p x ≡ true)) → (is_known (y ∷ ys) x ≡ true) × (p x ≡ true)
    go true e there more = elim (or_cases (bytes_eq x y) (is_known (filter p ys) x) there) [
      | inl here ↦ (or_left (bytes_eq x y) (is_known ys x) here, ap p (same_word x y here) ∙ e)
      | inr later ↦ let m = more later in (known_tail y x ys m.0, m.1)
    ]
    go false e there more = let m = more there in (known_tail y x ys m.0, m.1)

pub filter_known : (p : NetName → Bool) (xs : List NetName) (x : NetName) → is_known xs x ≡ true → p x ≡ true → is_known (filter p xs) x ≡ true
filter_known p [] x is passes = is
filter_known p (y ∷ ys) x is passes = go (p y) refl (filter_known p ys x)
  where
    go : (b : Bool) → p y ≡ b → (is_known ys x ≡ true → p x ≡ true → is_known (filter p ys) x ≡ true) → is_known (if b then y ∷ filter p ys else filter p ys) x ≡ true
    go true e more = elim (or_cases (bytes_eq x y) (is_known ys x) is) [
      | inl here ↦ or_left (bytes_eq x y) (is_known (filter p ys) x) here
      | inr later ↦ known_tail y x (filter p ys) (more later passes)
    ]
    go false e more = elim (or_cases (bytes_eq x y) (is_known ys x) is) [
      | inl here ↦ absurd (both_ways (p x) (ap p (same_word x y here) ∙ e) passes)
      | inr later ↦ more later passes
    ]

pub filter_has : (p : NetName → Bool) (xs : List NetName) (x : NetName) → is_known (filter p xs) x ≡ true → (is_known xs x ≡ true) × (p x ≡ true)
filter_has p xs x is = known_filter p xs x is

pub once_has : (xs : List NetName) (x : NetName) → is_known xs x ≡ true → is_known (each_once xs) x ≡ true
once_has [] x is = is
once_has (y ∷ ys) x is = elim (cases_Bool (bytes_eq x y)) [
  | inl here ↦ or_left (bytes_eq x y) (is_known (filter (λ other. not (bytes_eq other y)) (each_once ys)) x) here
  | inr other ↦ known_tail y x (filter (λ o. not (bytes_eq o y)) (each_once ys))
      (filter_known (λ o. not (bytes_eq o y)) (each_once ys) x (once_has ys x (elim (or_cases (bytes_eq x y) (is_known ys x) is) [ inl here ↦ absurd (both_ways (bytes_eq x y) other here) | inr later ↦ later ])) (ap not other))
]

pub has_once : (xs : List NetName) (x : NetName) → is_known (each_once xs) x ≡ true → is_known xs x ≡ true
has_once [] x is = is
has_once (y ∷ ys) x is = elim (or_cases (bytes_eq x y) (is_known (filter (λ other. not (bytes_eq other y)) (each_once ys)) x) is) [
  | inl here ↦ or_left (bytes_eq x y) (is_known ys x) here
  | inr later ↦ known_tail y x ys (has_once ys x (known_filter (λ o. not (bytes_eq o y)) (each_once ys) x later).0)
]

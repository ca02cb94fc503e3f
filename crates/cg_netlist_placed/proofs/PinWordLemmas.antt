-- Words of `.gate` lines and pins, one after another.
use Rattle.std.proofs.Common.{◌≡◌, ℕ, suc, Bool, true, false, not, ◌&&◌, ◌||◌, ◌+◌, ◌-◌, ◌<◌, List, [], ◌∷◌, ◌++◌, length}
use Rattle.std.proofs.Common.{take, drop, get_or, map, Option, None, Some, refl, sym, ap, ◌∙◌, add-one, drop-cons, append_assoc}
use Rattle.std.proofs.Common.{arith, if◌then◌else◌}
use Rattle.std.specs.List.{find, list_all, list_any}
use Rattle.std.specs.Option.{option_and_then, option_map}
use Rattle.std.specs.Str.{bytes_eq}
use Rattle.std.proofs.lemmas.Bool.{and_from, and_parts, both_ways, false_from_ne_true}
use Rattle.std.proofs.lemmas.List.{map-append, take-append-drop, take_more}
use Rattle.std.proofs.lemmas.List.Folds.{list_all-append, list_all_at, list_any-append}
use Rattle.cg_cell.specs.Name.{are_distinct}
use Rattle.cg_cell.specs.Pins.{PinData}
use Rattle.cg_netlist_parts.proofs.KnownNames.{itself, same_word}
use Rattle.cg_netlist_placed.specs.PinNets.{PinNet}
use Rattle.cg_netlist_placed.specs.Placed.{are_for_pins, at_role, given, is_for_pin, nets_at, put_net, show, shown_at}
use Rattle.cg_netlist_placed.specs.inner.Roles.{is_given}

-- what is left to search at k is the element there and what is left behind it
pub pins_any-drop : (name : List ℕ) (pins : List PinData) (k : ℕ) (d : PinData) → k < length pins → list_any (λ pin. bytes_eq name pin.name) (drop k pins) ≡ (bytes_eq name (get_or pins k d).name || list_any (λ pin. bytes_eq name pin.name) (drop (k + 1) pins))
pins_any-drop name pins k d below = rw (add-one, drop-cons pins k d) refl

pub given-drop : (words : List PinNet) (name : List ℕ) (k : ℕ) (d : PinNet) → k < length words → is_given (drop k words) name ≡ (bytes_eq (get_or words k d).pin name || is_given (drop (k + 1) words) name)
given-drop words name k d below = rw (add-one, drop-cons words k d) refl

pub find-drop : (words : List PinNet) (pin : PinData) (k : ℕ) (d : PinNet) → k < length words → given (drop k words) pin ≡ (if bytes_eq pin.name (get_or words k d).pin then (get_or words k d).net else given (drop (k + 1) words) pin)
find-drop words pin k d below = rw (add-one, drop-cons words k d) (step (bytes_eq pin.name (get_or words k d).pin))
  where
    step : (b : Bool) → option_and_then (λ (word : PinNet). word.net) (if b then Some (get_or words k d) else find (λ (word : PinNet). bytes_eq pin.name word.pin) (drop (suc k) words)) ≡ (if b then (get_or words k d).net else given (drop (suc k) words) pin)
    step true = refl
    step false = refl

pub ruleset searches = (pins_any-drop, given-drop, find-drop)

-- words that are for pins, each for one
eq_turned : (a b : List ℕ) → bytes_eq a b ≡ bytes_eq b a
eq_turned a b = go (bytes_eq a b) (bytes_eq b a) refl refl
  where
    go : (x y : Bool) → bytes_eq a b ≡ x → bytes_eq b a ≡ y → x ≡ y
    go true true p q = refl
    go false false p q = refl
    go true false p q = absurd (both_ways (bytes_eq b a) q (ap (bytes_eq b) (same_word a b p) ∙ itself b))
    go false true p q = absurd (both_ways (bytes_eq a b) p (ap (bytes_eq a) (same_word b a q) ∙ itself a))

bools : (a d e g : Bool) → (not (a || (e || false)) && (d && not g)) ≡ ((not a && d) && not (e || g))
bools true d e g = refl
bools false true true g = refl
bools false false true g = refl
bools false true false true = refl
bools false true false false = refl
bools false false false true = refl
bools false false false false = refl

distinct_more : (words : List PinNet) (word : PinNet) → are_distinct (map (λ w. w.pin) (words ++ word ∷ [])) ≡ (are_distinct (map (λ w. w.pin) words) && not (is_given words word.pin))
distinct_more [] word = refl
distinct_more (w ∷ ws) word =
    ap (λ ps. not (list_any (bytes_eq w.pin) ps) && are_distinct (map (λ (v : PinNet). v.pin) (ws ++ word ∷ []))) (map-append (λ (v : PinNet). v.pin) ws (word ∷ []))
    ∙ (ap (λ b. not b && are_distinct (map (λ (v : PinNet). v.pin) (ws ++ word ∷ []))) (list_any-append (bytes_eq w.pin) (map (λ (v : PinNet). v.pin) ws) (word.pin ∷ []))
    ∙ (ap (λ b. not (list_any (bytes_eq w.pin) (map (λ (v : PinNet). v.pin) ws) || (bytes_eq w.pin word.pin || false)) && b) (distinct_more ws word)
    ∙ bools (list_any (bytes_eq w.pin) (map (λ (v : PinNet). v.pin) ws)) (are_distinct (map (λ (v : PinNet). v.pin) ws)) (bytes_eq w.pin word.pin) (is_given ws word.pin)))

not_known : (w : List ℕ) (xs ys : List PinNet) → not (list_any (bytes_eq w) (map (λ (v : PinNet). v.pin) (xs ++ ys))) ≡ true → not (list_any (bytes_eq w) (map (λ (v : PinNet). v.pin) xs)) ≡ true
not_known w [] ys is = refl
not_known w (x ∷ xs) ys is = go (bytes_eq w x.pin) is (not_known w xs ys)
  where
    go : (b : Bool) → not (b || list_any (bytes_eq w) (map (λ (v : PinNet). v.pin) (xs ++ ys))) ≡ true
        → (not (list_any (bytes_eq w) (map (λ (v : PinNet). v.pin) (xs ++ ys))) ≡ true → not (list_any (bytes_eq w) (map (λ (v : PinNet). v.pin) xs)) ≡ true) → not (b || list_any (bytes_eq w) (map (λ (v : PinNet). v.pin) xs)) ≡ true
    go true e back = absurd (both_ways false refl e)
    go false e back = back e

distinct_front : (xs ys : List PinNet) → are_distinct (map (λ w. w.pin) (xs ++ ys)) ≡ true → are_distinct (map (λ w. w.pin) xs) ≡ true
distinct_front [] ys is = refl
distinct_front (x ∷ xs) ys is =
    let parts = and_parts (not (list_any (bytes_eq x.pin) (map (λ (v : PinNet). v.pin) (xs ++ ys)))) (are_distinct (map (λ (v : PinNet). v.pin) (xs ++ ys))) is in
    and_from (not (list_any (bytes_eq x.pin) (map (λ (v : PinNet). v.pin) xs))) (are_distinct (map (λ (v : PinNet). v.pin) xs)) (not_known x.pin xs ys parts.0) (distinct_front xs ys parts.1)

given_twice : (words : List PinNet) (k : ℕ) (d : PinNet) → k < length words → is_given (take k words) (get_or words k d).pin ≡ true → are_distinct (map (λ w. w.pin) words) ≡ false
given_twice words k d below again =
    false_from_ne_true (are_distinct (map (λ (w : PinNet). w.pin) words)) (λ is.
    let split : words ≡ take (k + 1) words ++ drop (k + 1) words = sym (take-append-drop (k + 1) words) in
    let front : are_distinct (map (λ (w : PinNet). w.pin) (take (k + 1) words)) ≡ true = distinct_front (take (k + 1) words) (drop (k + 1) words) (ap (λ ws. are_distinct (map (λ (w : PinNet). w.pin) ws)) (sym split) ∙ is) in
    let more : are_distinct (map (λ (w : PinNet). w.pin) (take k words ++ get_or words k d ∷ [])) ≡ true = ap (λ ws. are_distinct (map (λ (w : PinNet). w.pin) ws)) (sym (take_more words k d below)) ∙ front in
    both_ways (not (is_given (take k words) (get_or words k d).pin)) (ap not again) (and_parts (are_distinct (map (λ (w : PinNet). w.pin) (take k words))) (not (is_given (take k words) (get_or words k d).pin)) (sym (distinct_more (take k words) (get_or words k d)) ∙ more)).1)

pub bad_word : (pins : List PinData) (words : List PinNet) (k : ℕ) (d : PinNet) → k < length words → is_for_pin pins (get_or words k d) ≡ false → are_for_pins pins words ≡ false
bad_word pins words k d below bad = ap (λ b. b && are_distinct (map (λ (w : PinNet). w.pin) words)) (list_all_at (is_for_pin pins) words k d below bad)

pub word_twice : (pins : List PinData) (words : List PinNet) (k : ℕ) (d : PinNet) → k < length words → is_given (take k words) (get_or words k d).pin ≡ true → are_for_pins pins words ≡ false
word_twice pins words k d below again = ap (λ b. list_all (is_for_pin pins) words && b) (given_twice words k d below again) ∙ and_none (list_all (is_for_pin pins) words)
  where
    and_none : (b : Bool) → (b && false) ≡ false
    and_none true = refl
    and_none false = refl

pub one_more_word : (pins : List PinData) (words : List PinNet) (k : ℕ) (d : PinNet) → k < length words → are_for_pins pins (take k words) ≡ true → is_for_pin pins (get_or words k d) ≡ true → is_given (take k words) (get_or words k d).pin ≡ false
    → are_for_pins pins (take (k + 1) words) ≡ true
one_more_word pins words k d below so_far good new =
    let parts = and_parts (list_all (is_for_pin pins) (take k words)) (are_distinct (map (λ (w : PinNet). w.pin) (take k words))) so_far in
    ap (are_for_pins pins) (take_more words k d below)
    ∙ and_from (list_all (is_for_pin pins) (take k words ++ get_or words k d ∷ [])) (are_distinct (map (λ (w : PinNet). w.pin) (take k words ++ get_or words k d ∷ [])))
    (list_all-append (is_for_pin pins) (take k words) (get_or words k d ∷ []) ∙ and_from (list_all (is_for_pin pins) (take k words)) (is_for_pin pins (get_or words k d) && true) parts.0 (and_from (is_for_pin pins (get_or words k d)) true good refl))
    (distinct_more (take k words) (get_or words k d) ∙ and_from (are_distinct (map (λ (w : PinNet). w.pin) (take k words))) (not (is_given (take k words) (get_or words k d).pin)) parts.1 (ap not new))

-- the nets at the pins of a role, behind those in front
abbrev pub behind : List (List ℕ) → Option (List (List ℕ)) → Option (List (List ℕ))
behind front rest = option_map (λ nets. front ++ nets) rest

pub behind_put : (front : List (List ℕ)) (net : List ℕ) (rest : Option (List (List ℕ))) → behind front (put_net (Some net) rest) ≡ behind (front ++ net ∷ []) rest
behind_put front net None = refl
behind_put front net (Some nets) = ap (λ ns. Some ns) (sym (append_assoc front (net ∷ []) nets))

pub role_drop : (role : PinData → Bool) (pins : List PinData) (words : List PinNet) (k : ℕ) (d : PinData) → k < length pins
    → at_role role (drop k pins) (nets_at (drop k pins) words) ≡ (if role (get_or pins k d) then put_net (given words (get_or pins k d)) (at_role role (drop (k + 1) pins) (nets_at (drop (k + 1) pins) words)) else at_role role (drop (k + 1) pins) (nets_at (drop (k + 1) pins) words))
role_drop role pins words k d below = rw (add-one, drop-cons pins k d) refl

pub shown_drop : (pins : List PinData) (words : List PinNet) (k : ℕ) (d : PinData) → k < length pins
    → shown_at k (drop k pins) (nets_at (drop k pins) words) ≡ show (given words (get_or pins k d)) (get_or pins k d) k (shown_at (k + 1) (drop (k + 1) pins) (nets_at (drop (k + 1) pins) words))
shown_drop pins words k d below =
    let next : suc k ≡ k + 1 = omega arith in
    ap (λ (ps : List PinData). shown_at k ps (nets_at ps words)) (drop-cons pins k d below)
    ∙ ap (λ n. show (given words (get_or pins k d)) (get_or pins k d) k (shown_at (k + 1) (drop n pins) (nets_at (drop n pins) words))) next

pub ruleset words = (bad_word, word_twice, one_more_word)

pub ruleset roles = (role_drop, behind_put)

pub ruleset outputs = (shown_drop, append_assoc)

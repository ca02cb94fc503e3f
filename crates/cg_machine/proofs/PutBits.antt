-- Bits that are put at nets, and cells that are put one after another.
use Rattle.std.proofs.Common.{◌≡◌, ◌≢◌, ℕ, zero, suc, ◌+◌, ◌<◌, ◌≤◌, ◌⊎◌, Bool, true, false, not, ◌||◌, if◌then◌else◌, max, List}
use Rattle.std.proofs.Common.{[], ◌∷◌, ◌++◌, drop, get_or, length, map, nat_eq, set, slice_get, Some, refl, ap, sym, ◌∙◌, subst}
use Rattle.std.proofs.Common.{inl, inr, arith, add-one, drop-cons}
use Rattle.std.specs.List.{cons_option, flat_map, range_with_len}
use Rattle.std.proofs.lemmas.Bool.{both_ways, cases_Bool, eqb-true, or_cases, or_parts}
use Rattle.std.proofs.lemmas.List.{length-map, length-set}
use Rattle.std.proofs.lemmas.Option.{get_or_from_slice_get, slice_get_within}
use Rattle.cg_netlist.specs.Circuit.{LogicCell, RegisterCell, shown_nets}
use Rattle.cg_net.specs.NetSets.{is_in}
use Rattle.cg_netlist.specs.Moment.{function_value, register_bits, shown_bits, values_at}
use Rattle.cg_netlist.specs.Netlist.{widest_of}
use Rattle.cg_netlist.specs.Nets.{put_cells}
use Rattle.cg_net.proofs.TableLemmas.{slice_get-set_other, slice_get-set_same}
use Rattle.cg_machine.specs.inner.Putting.{put_bits}
use Rattle.cg_machine.proofs.Lists.{get_front}

-- from a place on
pub put_bits-drop : (nets : List ℕ) (bits values : List Bool) (k net : ℕ) (b : Bool) → slice_get nets k ≡ Some net → slice_get bits k ≡ Some b
    → put_bits (drop k nets) (drop k bits) values ≡ put_bits (drop (k + 1) nets) (drop (k + 1) bits) (set values net b)
put_bits-drop nets bits values k net b at shown =
    let one : suc k ≡ k + 1 = sym (add-one k) in
    let front : drop k nets ≡ net ∷ drop (k + 1) nets = drop-cons nets k net (slice_get_within nets k net at) ∙ (ap (λ n. n ∷ drop (suc k) nets) (get_or_from_slice_get nets k net net at) ∙ ap (λ i. net ∷ drop i nets) one) in
    let back : drop k bits ≡ b ∷ drop (k + 1) bits = drop-cons bits k b (slice_get_within bits k b shown) ∙ (ap (λ x. x ∷ drop (suc k) bits) (get_or_from_slice_get bits k b b shown) ∙ ap (λ i. b ∷ drop i bits) one) in
    ap (λ ns. put_bits ns (drop k bits) values) front ∙ ap (λ bs. put_bits (net ∷ drop (k + 1) nets) bs values) back

pub put_bits-append : (xs ys : List ℕ) (bs cs values : List Bool) → length bs ≡ length xs → put_bits (xs ++ ys) (bs ++ cs) values ≡ put_bits ys cs (put_bits xs bs values)
put_bits-append [] ys [] cs values long = refl
put_bits-append [] ys (b ∷ bs) cs values long = absurd (omega arith)
put_bits-append (x ∷ xs) ys [] cs values long = absurd (omega arith)
put_bits-append (x ∷ xs) ys (b ∷ bs) cs values long = put_bits-append xs ys bs cs (set values x b) (omega arith)

pub length-put_bits : (nets : List ℕ) (bits values : List Bool) → length (put_bits nets bits values) ≡ length values
length-put_bits [] bits values = refl
length-put_bits (net ∷ nets) [] values = refl
length-put_bits (net ∷ nets) (b ∷ bits) values = length-put_bits nets bits (set values net b) ∙ length-set values net b

-- a net where nothing is put
put_elsewhere : (nets : List ℕ) (bits values : List Bool) (x : ℕ) → is_in nets x ≡ false → slice_get (put_bits nets bits values) x ≡ slice_get values x
put_elsewhere [] bits values x out = refl
put_elsewhere (net ∷ nets) [] values x out = refl
put_elsewhere (net ∷ nets) (b ∷ bits) values x out =
    let parts = or_parts (nat_eq x net) (is_in nets x) out in
    put_elsewhere nets bits (set values net b) x parts.1 ∙ slice_get-set_other values net x b (λ same. both_ways (nat_eq x net) parts.0 (Rattle.std.proofs.lemmas.Bool.eq-eqb x net same))

-- where the bits that are put are those of a list, they stand there as in that list
pub put_shows : (nets : List ℕ) (bits values vs : List Bool) → values_at vs nets ≡ bits → ((x : ℕ) → is_in nets x ≡ true → x < length vs) → length values ≡ length vs → (x : ℕ) → is_in nets x ≡ true
    → slice_get (put_bits nets bits values) x ≡ slice_get vs x
put_shows nets bits values vs are below long x among = subst (λ bs. slice_get (put_bits nets bs values) x ≡ slice_get vs x) are (go nets values below long x among)
  where
    go : (ns : List ℕ) (ws : List Bool) → ((y : ℕ) → is_in ns y ≡ true → y < length vs) → length ws ≡ length vs → (y : ℕ) → is_in ns y ≡ true → slice_get (put_bits ns (values_at vs ns) ws) y ≡ slice_get vs y
    go [] ws inside same y here = absurd (both_ways false refl here)
    go (n ∷ ns) ws inside same y here =
        let b : (b : Bool) × (slice_get vs n ≡ Some b) = Rattle.cg_netlist.proofs.Values.element_at vs n (inside n (Rattle.std.proofs.lemmas.Bool.or_left (nat_eq n n) (is_in ns n) (Rattle.std.proofs.lemmas.Bool.eq-eqb n n refl))) in
        let later : (z : ℕ) → is_in ns z ≡ true → slice_get (put_bits ns (values_at vs ns) (set ws n b.0)) z ≡ slice_get vs z =
        go ns (set ws n b.0) (λ z more. inside z (Rattle.std.proofs.lemmas.Bool.or_right (nat_eq z n) (is_in ns z) more)) (length-set ws n b.0 ∙ same) in
        ap (λ o. slice_get (put_bits (n ∷ ns) (cons_option o (values_at vs ns)) ws) y) b.1
        ∙ elim (cases_Bool (is_in ns y)) [
          | inl more ↦ later y more
          | inr none ↦ elim (or_cases (nat_eq y n) (is_in ns y) here) [
            | inr more ↦ later y more
            | inl first ↦
                let is : y ≡ n = eqb-true y n first in
                put_elsewhere ns (values_at vs ns) (set ws n b.0) y none
                ∙ (ap (slice_get (set ws n b.0)) is ∙ (slice_get-set_same ws n b.0 (let small = slice_get_within vs n b.0 b.1 in omega (arith, small, same)) ∙ (sym b.1 ∙ ap (slice_get vs) (sym is))))
          ]
        ]

-- cells one behind another
pub put_cells-append : (xs ys : List (LogicCell ℕ)) (values : List Bool) → put_cells (xs ++ ys) values ≡ put_cells ys (put_cells xs values)
put_cells-append [] ys values = refl
put_cells-append (x ∷ xs) ys values = put_cells-append xs ys (set values x.output (function_value x.function (values_at values x.inputs)))

pub length-put_cells : (cells : List (LogicCell ℕ)) (values : List Bool) → length (put_cells cells values) ≡ length values
length-put_cells [] values = refl
length-put_cells (x ∷ xs) values =
    let v : Bool = function_value x.function (values_at values x.inputs) in
    length-put_cells xs (set values x.output v) ∙ length-set values x.output v

pub widest_of-append : (xs ys : List (LogicCell ℕ)) → widest_of (xs ++ ys) ≡ max (widest_of xs) (widest_of ys)
widest_of-append [] ys = omega arith
widest_of-append (x ∷ xs) ys = omega (arith, widest_of-append xs ys)

-- the cells of numbers in the front; of all numbers from where the back begins
pub values_at_front : (xs ys : List (LogicCell ℕ)) (ks : List ℕ) → ((k : ℕ) → is_in ks k ≡ true → k < length xs) → values_at (xs ++ ys) ks ≡ values_at xs ks
values_at_front xs ys ks below = Rattle.cg_netlist.proofs.Values.same_values (xs ++ ys) xs ks (λ k among. get_front xs ys k (below k among))

pub values_at_back : {X : Type 0} (xs ys : List X) → values_at (xs ++ ys) (range_with_len (length xs) (length ys)) ≡ ys
values_at_back {X} xs [] = refl
values_at_back {X} xs (y ∷ ys) =
    let here : slice_get (xs ++ y ∷ ys) (length xs) ≡ Some y = first xs in
    ap (λ o. cons_option o (values_at (xs ++ y ∷ ys) (range_with_len (length xs + 1) (length ys)))) here
    ∙ ap (λ l. y ∷ l) (ap (λ zs. values_at zs (range_with_len (length xs + 1) (length ys))) (sym (Rattle.std.proofs.Common.append_assoc xs (y ∷ []) ys))
    ∙ (ap (λ n. values_at ((xs ++ y ∷ []) ++ ys) (range_with_len n (length ys))) (sym (Rattle.std.proofs.Common.length-append xs (y ∷ []))) ∙ values_at_back (xs ++ y ∷ []) ys))
  where
    first : (zs : List X) → slice_get (zs ++ y ∷ ys) (length zs) ≡ Some y
    first [] = refl
    first (z ∷ zs) = first zs

-- parts with a net each, from a place on
pub put_mapped : {X : Type 0} (net_of : X → ℕ) (xs : List X) (bits values : List Bool) (k : ℕ) (x : X) (b : Bool) → slice_get xs k ≡ Some x → slice_get bits k ≡ Some b
    → put_bits (map net_of (drop k xs)) (drop k bits) values ≡ put_bits (map net_of (drop (k + 1) xs)) (drop (k + 1) bits) (set values (net_of x) b)
put_mapped {X} net_of xs bits values k x b at shown =
    let one : suc k ≡ k + 1 = sym (add-one k) in
    let front : drop k xs ≡ x ∷ drop (k + 1) xs = drop-cons xs k x (slice_get_within xs k x at) ∙ (ap (λ (y : X). y ∷ drop (suc k) xs) (get_or_from_slice_get xs k x x at) ∙ ap (λ i. x ∷ drop i xs) one) in
    let back : drop k bits ≡ b ∷ drop (k + 1) bits = drop-cons bits k b (slice_get_within bits k b shown) ∙ (ap (λ y. y ∷ drop (suc k) bits) (get_or_from_slice_get bits k b b shown) ∙ ap (λ i. b ∷ drop i bits) one) in
    ap (λ ys. put_bits (map net_of ys) (drop k bits) values) front ∙ ap (λ bs. put_bits (net_of x ∷ map net_of (drop (k + 1) xs)) bs values) back

-- registers, each with what it shows, from a place on
pub put_register : (rs : List (RegisterCell ℕ ℕ)) (state values : List Bool) (k : ℕ) (r : RegisterCell ℕ ℕ) (b : Bool) → slice_get rs k ≡ Some r → slice_get state k ≡ Some b
    → put_bits (flat_map shown_nets (drop k rs)) (register_bits (drop k rs) (drop k state)) values
    ≡ put_bits (flat_map shown_nets (drop (k + 1) rs)) (register_bits (drop (k + 1) rs) (drop (k + 1) state)) (put_bits (shown_nets r) (shown_bits r b) values)
put_register rs state values k r b at shown =
    let one : suc k ≡ k + 1 = sym (add-one k) in
    let front : drop k rs ≡ r ∷ drop (k + 1) rs = drop-cons rs k r (slice_get_within rs k r at) ∙ (ap (λ (y : RegisterCell ℕ ℕ). y ∷ drop (suc k) rs) (get_or_from_slice_get rs k r r at) ∙ ap (λ i. r ∷ drop i rs) one) in
    let back : drop k state ≡ b ∷ drop (k + 1) state = drop-cons state k b (slice_get_within state k b shown) ∙ (ap (λ y. y ∷ drop (suc k) state) (get_or_from_slice_get state k b b shown) ∙ ap (λ i. b ∷ drop i state) one) in
    ap (λ ys. put_bits (flat_map shown_nets ys) (register_bits ys (drop k state)) values) front
    ∙ (ap (λ bs. put_bits (flat_map shown_nets (r ∷ drop (k + 1) rs)) (register_bits (r ∷ drop (k + 1) rs) bs) values) back
    ∙ put_bits-append (shown_nets r) (flat_map shown_nets (drop (k + 1) rs)) (shown_bits r b) (register_bits (drop (k + 1) rs) (drop (k + 1) state)) values
    (length-map r.outputs (λ output. if output.1 then not b else b) ∙ sym (length-map r.outputs (λ output. output.0))))

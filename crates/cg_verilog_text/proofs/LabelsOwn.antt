-- Labels are enough, all different, and none is the name of a net.
use Rattle.std.proofs.Common.{[], ◌≡◌, ℕ, zero, suc, ◌+◌, ◌<◌, ◌≤◌, ◌^◌, ◌==◌, Bool, true, false, not, ◌||◌, List, ◌∷◌, ◌++◌, map, drop, take, length, nat_lt}
use Rattle.std.proofs.Common.{refl, ap, sym, ◌∙◌, subst, cond, if◌then◌else◌, arith}
use Rattle.std.specs.List.{AllByRecursion, filter, filter_map, flat_map, list_any, range_with_len}
use Rattle.std.specs.Fmt.{decimal}
use Rattle.std.specs.Str.{bytes_eq}
use Rattle.std.proofs.lemmas.Bool.{and_from, and_parts, both_ways, not-true, not_from_false, or_from, or_parts}
use Rattle.std.proofs.lemmas.List.{length-append, length-map}
use Rattle.std.proofs.lemmas.List.Elements.{filter_map-append}
use Rattle.std.proofs.lemmas.List.FromFn.{length-range_with_len}
use Rattle.cg_cell.specs.Name.{are_distinct}
use Rattle.cg_net.specs.Names.{NetName, is_known}
use Rattle.cg_netlist.specs.Circuit.{GatingCell, LogicCell, RegisterCell}
use Rattle.cg_netlist.specs.Wiring.{Wiring, named}
use Rattle.cg_netlist.specs.declared.parts.LogicFunction.{LogicFunction}
use Rattle.cg_netlist.specs.declared.parts.LogicFunction.TheVariants.{Cover, Cell}
use Rattle.cg_netlist.specs.declared.parts.RegisterKind.{RegisterKind}
use Rattle.cg_netlist.specs.declared.parts.RegisterKind.TheVariants.{Plain, Flop}
use Rattle.cg_netlist_parts.proofs.KnownNames.{itself, same_word}
use Rattle.cg_text.specs.Numbers.{number_of}
use Rattle.cg_text.specs.declared.number.Number.TheVariants.{Small}
use Rattle.cg_text.proofs.Spelling.{number_of-decimal}
use Rattle.cg_verilog_text.specs.Items.{Item, Input, Output, Wire, Reg, Place, Assign, Always, Initial}
use Rattle.cg_verilog_text.specs.Laws.{LabelsAreOwn}
use Rattle.cg_verilog_text.specs.WrittenItems.{cell_item, declared_items, function_item, gater_item, input_item, inputs_with_clock, kind_declared, kind_items}
use Rattle.cg_verilog_text.specs.WrittenItems.{label, label_of, labelled, labels, most_placed, output_item, register_items, shown, wiring_items, written_items}

-- labels of different numbers differ
same_label : (j k : ℕ) → j < 2 ^ 64 → k < 2 ^ 64 → label j ≡ label k → j ≡ k
same_label j k small less same =
    let numbers : number_of (decimal j) ≡ number_of (decimal k) = ap (λ text. number_of (drop 1 text)) same in
    let first : number_of (decimal j) ≡ Small j = number_of-decimal j small in
    let second : number_of (decimal k) ≡ Small k = number_of-decimal k less in
    cc

none_later : (j k n : ℕ) → j < k → k + n ≤ 2 ^ 64 → list_any (bytes_eq (label j)) (map label (range_with_len k n)) ≡ false
none_later j k zero less within = refl
none_later j k (suc n) less within =
    or_from _ _ (here (bytes_eq (label j) (label k)) refl) (none_later j (k + 1) n (omega (arith, less)) (omega (arith, within)))
  where
    here : (b : Bool) → bytes_eq (label j) (label k) ≡ b → b ≡ false
    here false e = refl
    here true e =
        let same = same_label j k (omega (arith, less, within)) (omega (arith, within)) (same_word (label j) (label k) e) in
        absurd (omega (arith, less, same))

apart : (k n : ℕ) → k + n ≤ 2 ^ 64 → are_distinct (map label (range_with_len k n)) ≡ true
apart k zero within = refl
apart k (suc n) within =
    and_from _ _ (not_from_false _ (none_later k (k + 1) n (omega (arith)) (omega (arith, within)))) (apart (k + 1) n (omega (arith, within)))

-- what passes a test
any_kept : {X : Type 0} (p q : X → Bool) (xs : List X) → list_any q xs ≡ false → list_any q (filter p xs) ≡ false
any_kept p q [] none = refl
any_kept {X} p q (x ∷ xs) none = let parts = or_parts (q x) (list_any q xs) none in go (p x) parts.0 (any_kept p q xs parts.1)
  where
    go : (b : Bool) → q x ≡ false → list_any q (filter p xs) ≡ false → list_any q (cond b (x ∷ filter p xs) (filter p xs)) ≡ false
    go true here rest = or_from _ _ here rest
    go false here rest = rest

apart_kept : (p : NetName → Bool) (xs : List NetName) → are_distinct xs ≡ true → are_distinct (filter p xs) ≡ true
apart_kept p [] distinct = refl
apart_kept p (x ∷ xs) distinct =
    let parts = and_parts _ _ distinct in go (p x) (any_kept p (bytes_eq x) xs (not-true _ parts.0)) (apart_kept p xs parts.1)
  where
    go : (b : Bool) → list_any (bytes_eq x) (filter p xs) ≡ false → are_distinct (filter p xs) ≡ true → are_distinct (cond b (x ∷ filter p xs) (filter p xs)) ≡ true
    go true none rest = and_from _ _ (not_from_false _ none) rest
    go false none rest = rest

-- of texts that differ no more than one is a name
abbrev other : NetName → NetName → Bool
other name text = not (bytes_eq text name)

none_is : (name : NetName) (xs : List NetName) → list_any (bytes_eq name) xs ≡ false → filter (other name) xs ≡ xs
none_is name [] none = refl
none_is name (x ∷ xs) none =
    let parts = or_parts (bytes_eq name x) (list_any (bytes_eq name) xs) none in go (bytes_eq x name) refl parts.0 (none_is name xs parts.1)
  where
    go : (b : Bool) → bytes_eq x name ≡ b → bytes_eq name x ≡ false → filter (other name) xs ≡ xs → cond (not b) (x ∷ filter (other name) xs) (filter (other name) xs) ≡ x ∷ xs
    go false e not_it rest = ap (λ l. x ∷ l) rest
    go true e not_it rest = let same : x ≡ name = same_word x name e in absurd (both_ways (bytes_eq name x) not_it (ap (bytes_eq name) same ∙ itself name))

one_less : (name : NetName) (xs : List NetName) → are_distinct xs ≡ true → length xs ≤ suc (length (filter (other name) xs))
one_less name [] distinct = omega (arith)
one_less name (x ∷ xs) distinct =
    let parts = and_parts _ _ distinct in go (bytes_eq x name) refl (not-true _ parts.0) (one_less name xs parts.1)
  where
    go : (b : Bool) → bytes_eq x name ≡ b → list_any (bytes_eq x) xs ≡ false → length xs ≤ suc (length (filter (other name) xs)) → suc (length xs) ≤ suc (length (cond (not b) (x ∷ filter (other name) xs) (filter (other name) xs)))
    go false e none rest = omega (arith, rest)
    go true e none rest =
        let same : x ≡ name = same_word x name e in
        let kept : length (filter (other name) xs) ≡ length xs = ap length (none_is name xs (ap (λ n. list_any (bytes_eq n) xs) (sym same) ∙ none)) in
        omega (arith, kept)

abbrev fresh : List NetName → NetName → Bool
fresh names text = not (is_known names text)

one_name_more : (name : NetName) (names xs : List NetName) → filter (fresh (name ∷ names)) xs ≡ filter (fresh names) (filter (other name) xs)
one_name_more name names [] = refl
one_name_more name names (x ∷ xs) = go (bytes_eq x name) (one_name_more name names xs)
  where
    go : (b : Bool) → filter (fresh (name ∷ names)) xs ≡ filter (fresh names) (filter (other name) xs)
        → cond (not (b || is_known names x)) (x ∷ filter (fresh (name ∷ names)) xs) (filter (fresh (name ∷ names)) xs) ≡ filter (fresh names) (cond (not b) (x ∷ filter (other name) xs) (filter (other name) xs))
    go true rest = rest
    go false rest = ap (λ l. cond (not (is_known names x)) (x ∷ l) l) rest

left_over : (names xs : List NetName) → are_distinct xs ≡ true → length xs ≤ length names + length (filter (fresh names) xs)
left_over [] xs distinct = let all : length (filter (fresh []) xs) ≡ length xs = every xs in omega (arith, all)
  where
    every : (ys : List NetName) → length (filter (fresh []) ys) ≡ length ys
    every [] = refl
    every (y ∷ ys) = ap suc (every ys)
left_over (name ∷ names) xs distinct =
    let rest = left_over names (filter (other name) xs) (apart_kept (other name) xs distinct) in
    let one = one_less name xs distinct in
    let same : length (filter (fresh (name ∷ names)) xs) ≡ length (filter (fresh names) (filter (other name) xs)) = ap length (one_name_more name names xs) in
    let more : length (name ∷ names) ≡ suc (length names) = refl in
    omega (arith, rest, one, same, more)

module _ (names : List NetName) where
  abbrev IsFresh : List ℕ → Type 0
  IsFresh text = is_known names text ≡ false

  fresh_kept : (xs : List NetName) → AllByRecursion IsFresh (filter (fresh names) xs)
  fresh_kept [] = tt
  fresh_kept (x ∷ xs) = go (is_known names x) refl (fresh_kept xs)
    where
      go : (b : Bool) → is_known names x ≡ b → AllByRecursion IsFresh (filter (fresh names) xs) → AllByRecursion IsFresh (cond (not b) (x ∷ filter (fresh names) xs) (filter (fresh names) xs))
      go true e rest = rest
      go false e rest = (e, rest)

  fresh_front : (n : ℕ) (xs : List NetName) → AllByRecursion IsFresh xs → AllByRecursion IsFresh (take n xs)
  fresh_front zero xs all = tt
  fresh_front (suc n) [] all = tt
  fresh_front (suc n) (x ∷ xs) all = (all.0, fresh_front n xs all.1)

any_front : (q : NetName → Bool) (n : ℕ) (xs : List NetName) → list_any q xs ≡ false → list_any q (take n xs) ≡ false
any_front q zero xs none = refl
any_front q (suc n) [] none = refl
any_front q (suc n) (x ∷ xs) none = let parts = or_parts (q x) (list_any q xs) none in or_from _ _ parts.0 (any_front q n xs parts.1)

apart_front : (n : ℕ) (xs : List NetName) → are_distinct xs ≡ true → are_distinct (take n xs) ≡ true
apart_front zero xs distinct = refl
apart_front (suc n) [] distinct = refl
apart_front (suc n) (x ∷ xs) distinct =
    let parts = and_parts _ _ distinct in
    and_from _ _ (not_from_false _ (any_front (bytes_eq x) n xs (not-true _ parts.0))) (apart_front n xs parts.1)

-- placed cells take the labels in their order
abbrev labels_in : List Item → List (List ℕ)
labels_in items = filter_map label_of items

fewer : (n m : ℕ) → suc n ≤ suc m → n ≤ m
fewer n m less = omega (arith, less)

not_one : (n : ℕ) → suc n ≤ 0 → ⊥
not_one n less = omega (arith, less)

taken : (texts : List (List ℕ)) (items : List Item) → length (labels_in items) ≤ length texts → labels_in (labelled texts items) ≡ take (length (labels_in items)) texts
taken texts [] fits = refl
taken [] (Place cell label pins ∷ items) fits = absurd (not_one (length (labels_in items)) fits)
taken (text ∷ texts) (Place cell label pins ∷ items) fits = ap (λ l. text ∷ l) (taken texts items (fewer (length (labels_in items)) (length texts) fits))
taken texts (Input range nets ∷ items) fits = taken texts items fits
taken texts (Output range nets ∷ items) fits = taken texts items fits
taken texts (Wire range nets ∷ items) fits = taken texts items fits
taken texts (Reg range nets ∷ items) fits = taken texts items fits
taken texts (Assign net form ∷ items) fits = taken texts items fits
taken texts (Always clock updates ∷ items) fits = taken texts items fits
taken texts (Initial net value ∷ items) fits = taken texts items fits

-- no more cells are placed than there are cells and registers
abbrev Few : List Item → ℕ → Type 0
Few items n = length (labels_in items) ≤ n

both_few : (xs ys : List Item) (n m most : ℕ) → n + m ≤ most → Few xs n → Few ys m → Few (xs ++ ys) most
both_few xs ys n m most within first second =
    let joined : length (labels_in (xs ++ ys)) ≡ length (labels_in xs ++ labels_in ys) = ap length (filter_map-append label_of xs ys) in
    let long : length (labels_in xs ++ labels_in ys) ≡ length (labels_in xs) + length (labels_in ys) = length-append (labels_in xs) (labels_in ys) in
    omega (arith, first, second, joined, long, within)

none : 0 ≤ 0
none = omega (arith)

none_of_one : 0 ≤ 1
none_of_one = omega (arith)

one : 1 ≤ 1
one = omega (arith)

next : (n : ℕ) → 1 + n ≤ suc n
next n = omega (arith)

no_inputs : (nets : List NetName) → Few (map input_item nets) 0
no_inputs [] = none
no_inputs (net ∷ nets) = no_inputs nets

no_outputs : (nets : List NetName) → Few (map output_item nets) 0
no_outputs [] = none
no_outputs (net ∷ nets) = no_outputs nets

none_declared : (rs : List (RegisterCell NetName NetName)) → Few (flat_map declared_items rs) 0
none_declared [] = none
none_declared (r ∷ rs) = both_few (declared_items r) (flat_map declared_items rs) 0 0 0 none (go r.kind) (none_declared rs)
  where
    go : (kind : RegisterKind) → Few (kind_declared r kind) 0
    go Plain = none
    go (Flop placed) = none

few_cells : (cells : List (LogicCell NetName)) → Few (map cell_item cells) (length cells)
few_cells [] = none
few_cells (cell ∷ cells) = both_few (cell_item cell ∷ []) (map cell_item cells) 1 (length cells) (suc (length cells)) (next (length cells)) (go cell.function) (few_cells cells)
  where
    go : (function : LogicFunction) → Few (function_item cell function ∷ []) 1
    go (Cover cover) = none_of_one
    go (Cell placed) = one

few_gaters : (gaters : List (GatingCell NetName)) → Few (map gater_item gaters) (length gaters)
few_gaters [] = none
few_gaters (gater ∷ gaters) = both_few (gater_item gater ∷ []) (map gater_item gaters) 1 (length gaters) (suc (length gaters)) (next (length gaters)) one (few_gaters gaters)

few_registers : (rs : List (RegisterCell NetName NetName)) → Few (flat_map register_items rs) (length rs)
few_registers [] = none
few_registers (r ∷ rs) = both_few (register_items r) (flat_map register_items rs) 1 (length rs) (suc (length rs)) (next (length rs)) (go r.kind) (few_registers rs)
  where
    inits : (net : NetName) (init : ℕ) (b : Bool) → Few (if b then Initial net (init == 1) ∷ [] else []) 1
    inits net init true = none_of_one
    inits net init false = none_of_one

    go : (kind : RegisterKind) → Few (kind_items r kind) 1
    go Plain = inits (shown r) r.init (nat_lt r.init 2)
    go (Flop placed) = one

few_placed : (w : Wiring NetName) → Few (wiring_items w) (most_placed w)
few_placed w =
    let inputs : List Item = map input_item (inputs_with_clock w) in
    let ports : List Item = inputs ++ map output_item w.outputs in
    let head : List Item = ports ++ flat_map declared_items w.registers in
    let logic : List Item = head ++ map cell_item w.cells in
    let gated : List Item = logic ++ map gater_item w.gaters in
    let few_ports : Few ports 0 = both_few inputs (map output_item w.outputs) 0 0 0 none (no_inputs (inputs_with_clock w)) (no_outputs w.outputs) in
    let few_head : Few head 0 = both_few ports (flat_map declared_items w.registers) 0 0 0 none few_ports (none_declared w.registers) in
    let few_logic : Few logic (length w.cells) = both_few head (map cell_item w.cells) 0 (length w.cells) (length w.cells) (omega (arith)) few_head (few_cells w.cells) in
    let few_gated : Few gated (length w.cells + length w.gaters) = both_few logic (map gater_item w.gaters) (length w.cells) (length w.gaters) (length w.cells + length w.gaters) (omega (arith)) few_logic (few_gaters w.gaters) in
    both_few gated (flat_map register_items w.registers) (length w.cells + length w.gaters) (length w.registers) (most_placed w) (omega (arith)) few_gated (few_registers w.registers)

pub labels_own : LabelsAreOwn
labels_own c small =
    let w = named c in
    let numbers = length c.names + most_placed w in
    let every = map label (range_with_len 0 numbers) in
    let texts = labels c.names (most_placed w) in
    let items = wiring_items w in
    let distinct = apart 0 numbers (omega (arith, small)) in
    let long : length every ≡ numbers = length-map (range_with_len 0 numbers) label ∙ length-range_with_len 0 numbers in
    let over : length every ≤ length c.names + length texts = left_over c.names every distinct in
    let few : length (labels_in items) ≤ most_placed w = few_placed w in
    let is : labels_in (written_items c.names w) ≡ take (length (labels_in items)) texts = taken texts items (omega (arith, few, over, long)) in
    record {
      distinct = ap are_distinct is ∙ apart_front (length (labels_in items)) texts (apart_kept (fresh c.names) every distinct);
      fresh = subst (AllByRecursion (IsFresh c.names)) (sym is) (fresh_front c.names (length (labels_in items)) texts (fresh_kept c.names every));
    }

-- The inits that are written of registers are given back.
use Rattle.std.proofs.Common.{[], ◌≡◌, ℕ, zero, suc, ◌≤◌, ◌==◌, Bool, true, false, not, List, ◌∷◌, ◌++◌, map, nat_lt}
use Rattle.std.proofs.Common.{refl, ap, sym, ◌∙◌, subst, cond, if◌then◌else◌, Option, None, Some, inl, inr, arith}
use Rattle.std.specs.List.{AllByRecursion, find, flat_map, list_all}
use Rattle.std.specs.Option.{option_map_or}
use Rattle.std.specs.Str.{bytes_eq}
use Rattle.std.proofs.lemmas.Bool.{and_from, both_ways, false_from_ne_true, ltb-true, or_cases, or_right}
use Rattle.cg_cell.specs.Name.{are_distinct}
use Rattle.cg_net.specs.Names.{NetName, is_known}
use Rattle.cg_netlist.specs.Circuit.{RegisterCell, shown_nets}
use Rattle.cg_netlist.specs.WellFormed.{FitsKind}
use Rattle.cg_netlist.specs.declared.parts.RegisterKind.{RegisterKind}
use Rattle.cg_netlist.specs.declared.parts.RegisterKind.TheVariants.{Plain, Flop}
use Rattle.cg_netlist_parts.proofs.Different.{Apart}
use Rattle.cg_netlist_parts.proofs.KnownNames.{itself, known_cases, known_head, known_left, known_right, same_word}
use Rattle.cg_verilog_text.specs.Items.{Always, Initial}
use Rattle.cg_verilog_text.specs.Meaning.{Init, bit_number, init_of, inits_in, updated_in}
use Rattle.cg_verilog_text.specs.VEqual.{kept_init}
use Rattle.cg_verilog_text.specs.WrittenItems.{first, kind_items, shown}

abbrev pub Cell : Type 0
Cell = RegisterCell NetName NetName

-- the init of a plain register, as a text gives it
abbrev pub own_inits : NetName → ℕ → List Init
own_inits net init = if nat_lt init 2 then record { net = net; value = init == 1 } ∷ [] else []

abbrev pub inits_of_kind : Cell → RegisterKind → List Init
inits_of_kind r Plain = own_inits (shown r) r.init
inits_of_kind r (Flop cell) = []

abbrev pub updated_of_kind : Cell → RegisterKind → List NetName
updated_of_kind r Plain = shown r ∷ []
updated_of_kind r (Flop cell) = []

abbrev pub reg_inits : Cell → List Init
reg_inits r = inits_of_kind r r.kind

abbrev pub reg_updated : Cell → List NetName
reg_updated r = updated_of_kind r r.kind

pub items_inits : (r : Cell) (kind : RegisterKind) → flat_map inits_in (kind_items r kind) ≡ inits_of_kind r kind
items_inits r Plain = go (nat_lt r.init 2)
  where
    go : (b : Bool) → flat_map inits_in (if b then Initial (shown r) (r.init == 1) ∷ [] else []) ≡ (if b then record { net = shown r; value = r.init == 1 } ∷ [] else [])
    go true = refl
    go false = refl
items_inits r (Flop cell) = refl

pub items_updated : (r : Cell) (kind : RegisterKind) → flat_map updated_in (kind_items r kind) ≡ updated_of_kind r kind
items_updated r Plain = go (nat_lt r.init 2)
  where
    go : (b : Bool) → flat_map updated_in (Always r.clock (record { net = shown r; takes = first r.inputs } ∷ []) ∷ (if b then Initial (shown r) (r.init == 1) ∷ [] else [])) ≡ shown r ∷ []
    go true = refl
    go false = refl
items_updated r (Flop cell) = refl

-- a plain register shows one net
pub plain_shows : (r : Cell) → FitsKind Plain r → shown_nets r ≡ shown r ∷ []
plain_shows r fits = go r.outputs fits.2
  where
    go : (outputs : List (NetName × Bool)) → map (λ (o : NetName × Bool). o.1) outputs ≡ false ∷ [] → map (λ (o : NetName × Bool). o.0) outputs ≡ first (map (λ (o : NetName × Bool). o.0) outputs) ∷ []
    go [] is = absurd (cc)
    go (o ∷ []) is = refl
    go (o ∷ p ∷ os) is = absurd (cc)

abbrev Fits : Cell → Type 0
Fits r = FitsKind r.kind r

abbrev pub names_of : List Init → List NetName
names_of inits = map (λ (init : Init). init.net) inits

abbrev pub all_inits : List Cell → List Init
all_inits rs = flat_map reg_inits rs

abbrev pub all_shown : List Cell → List NetName
all_shown rs = flat_map (λ r. shown_nets r) rs

names_both : (xs ys : List Init) → names_of (xs ++ ys) ≡ names_of xs ++ names_of ys
names_both [] ys = refl
names_both (x ∷ xs) ys = ap (λ l. x.net ∷ l) (names_both xs ys)

own_named : (net : NetName) (init : ℕ) (x : NetName) → is_known (names_of (own_inits net init)) x ≡ true → is_known (net ∷ []) x ≡ true
own_named net init x is = go (nat_lt init 2) is
  where
    go : (b : Bool) → is_known (names_of (if b then record { net = net; value = init == 1 } ∷ [] else [])) x ≡ true → is_known (net ∷ []) x ≡ true
    go true is = is
    go false is = absurd (both_ways false refl is)

kind_named : (r : Cell) (kind : RegisterKind) → FitsKind kind r → (x : NetName) → is_known (names_of (inits_of_kind r kind)) x ≡ true → is_known (shown_nets r) x ≡ true
kind_named r Plain fits x is = ap (λ l. is_known l x) (plain_shows r fits) ∙ own_named (shown r) r.init x is
kind_named r (Flop cell) fits x is = absurd (both_ways false refl is)

inits_shown : (rs : List Cell) → AllByRecursion Fits rs → (x : NetName) → is_known (names_of (all_inits rs)) x ≡ true → is_known (all_shown rs) x ≡ true
inits_shown [] fits x is = is
inits_shown (r ∷ rs) fits x is = elim (known_cases (names_of (reg_inits r)) (names_of (all_inits rs)) x (ap (λ l. is_known l x) (sym (names_both (reg_inits r) (all_inits rs))) ∙ is)) [
  | inl h ↦ known_left (shown_nets r) (all_shown rs) x (kind_named r r.kind fits.0 x h)
  | inr h ↦ known_right (shown_nets r) (all_shown rs) x (inits_shown rs fits.1 x h)
]

-- what is apart
pub apart_right : (xs ys : List NetName) → Apart (xs ++ ys) → Apart ys
apart_right [] ys apart = apart
apart_right (x ∷ xs) ys apart = apart_right xs ys apart.1

apart_both : (xs ys : List NetName) → Apart (xs ++ ys) → (x : NetName) → is_known xs x ≡ true → is_known ys x ≡ false
apart_both [] ys apart x is = absurd (both_ways false refl is)
apart_both (y ∷ xs) ys apart x is = elim (or_cases (bytes_eq x y) (is_known xs x) is) [
  | inl h ↦ false_from_ne_true (is_known ys x) (λ there. both_ways (is_known (xs ++ ys) y) apart.0 (known_right xs ys y (subst (λ z. is_known ys z ≡ true) (same_word x y h) there)))
  | inr h ↦ apart_both xs ys apart.1 x h
]

-- no init is given twice
own_distinct : (net : NetName) (init : ℕ) (later : List Init) → is_known (names_of later) net ≡ false → are_distinct (names_of later) ≡ true → are_distinct (names_of (own_inits net init ++ later)) ≡ true
own_distinct net init later out rest = go (nat_lt init 2)
  where
    go : (b : Bool) → are_distinct (names_of ((if b then record { net = net; value = init == 1 } ∷ [] else []) ++ later)) ≡ true
    go true = and_from (not (is_known (names_of later) net)) (are_distinct (names_of later)) (ap not out) rest
    go false = rest

plain_apart : (r : Cell) (rs : List Cell) → AllByRecursion Fits rs → FitsKind Plain r → Apart (shown_nets r ++ all_shown rs) → is_known (all_shown rs) (shown r) ≡ false
plain_apart r rs all fits apart = apart_both (shown_nets r) (all_shown rs) apart (shown r) (ap (λ l. is_known l (shown r)) (plain_shows r fits) ∙ known_head (shown r) [])

not_init : (rs : List Cell) → AllByRecursion Fits rs → (x : NetName) → is_known (all_shown rs) x ≡ false → is_known (names_of (all_inits rs)) x ≡ false
not_init rs fits x out = false_from_ne_true (is_known (names_of (all_inits rs)) x) (λ is. both_ways (is_known (all_shown rs) x) out (inits_shown rs fits x is))

pub inits_distinct : (rs : List Cell) → AllByRecursion Fits rs → Apart (all_shown rs) → are_distinct (names_of (all_inits rs)) ≡ true
inits_distinct [] fits apart = refl
inits_distinct (r ∷ rs) fits apart = go r.kind fits.0 (inits_distinct rs fits.1 (apart_right (shown_nets r) (all_shown rs) apart))
  where
    go : (kind : RegisterKind) → FitsKind kind r → are_distinct (names_of (all_inits rs)) ≡ true → are_distinct (names_of (inits_of_kind r kind ++ all_inits rs)) ≡ true
    go Plain fit rest = own_distinct (shown r) r.init (all_inits rs) (not_init rs fits.1 (shown r) (plain_apart r rs fits.1 fit apart)) rest
    go (Flop cell) fit rest = rest

-- each init is of a register
own_known : (U : List NetName) (net : NetName) (init : ℕ) (later : List Init) → is_known U net ≡ true → list_all (λ (i : Init). is_known U i.net) later ≡ true → list_all (λ (i : Init). is_known U i.net) (own_inits net init ++ later) ≡ true
own_known U net init later here rest = go (nat_lt init 2)
  where
    go : (b : Bool) → list_all (λ (i : Init). is_known U i.net) ((if b then record { net = net; value = init == 1 } ∷ [] else []) ++ later) ≡ true
    go true = and_from (is_known U net) (list_all (λ (i : Init). is_known U i.net) later) here rest
    go false = rest

pub inits_known : (U : List NetName) (rs : List Cell) → ((x : NetName) → is_known (flat_map reg_updated rs) x ≡ true → is_known U x ≡ true) → list_all (λ (i : Init). is_known U i.net) (all_inits rs) ≡ true
inits_known U [] within = refl
inits_known U (r ∷ rs) within = go r.kind (λ x is. within x (known_left (reg_updated r) (flat_map reg_updated rs) x is)) (inits_known U rs (λ x is. within x (known_right (reg_updated r) (flat_map reg_updated rs) x is)))
  where
    go : (kind : RegisterKind) → ((x : NetName) → is_known (updated_of_kind r kind) x ≡ true → is_known U x ≡ true) → list_all (λ (i : Init). is_known U i.net) (all_inits rs) ≡ true → list_all (λ (i : Init). is_known U i.net) (inits_of_kind r kind ++ all_inits rs) ≡ true
    go Plain here rest = own_known U (shown r) r.init (all_inits rs) (here (shown r) (known_head (shown r) [])) rest
    go (Flop cell) here rest = rest

-- the init of a register is its own, as Verilog keeps it
missing : (inits : List Init) (net : NetName) → is_known (names_of inits) net ≡ false → find (λ (i : Init). bytes_eq i.net net) inits ≡ None
missing [] net out = refl
missing (i ∷ is) net out =
    let here : bytes_eq i.net net ≡ false = false_from_ne_true (bytes_eq i.net net) (λ same. both_ways (is_known (i.net ∷ names_of is) net) out (ap (λ n. is_known (n ∷ names_of is) net) (same_word i.net net same) ∙ known_head net (names_of is))) in
    let later : is_known (names_of is) net ≡ false = false_from_ne_true (is_known (names_of is) net) (λ there. both_ways (is_known (i.net ∷ names_of is) net) out (or_right (bytes_eq net i.net) (is_known (names_of is) net) there)) in
    ap (λ b. cond b (Some i) (find (λ (i : Init). bytes_eq i.net net) is)) here ∙ missing is net later

abbrev number_in : Option Init → ℕ
number_in found = option_map_or (λ (i : Init). bit_number i.value) found 3

given_number : (init : ℕ) → nat_lt init 2 ≡ true → bit_number (init == 1) ≡ kept_init init
given_number zero small = refl
given_number (suc zero) small = refl
given_number (suc (suc n)) small = let less = ltb-true (suc (suc n)) 2 small in absurd (omega arith)

left_number : (init : ℕ) → nat_lt init 2 ≡ false → init ≤ 3 → 3 ≡ kept_init init
left_number zero small few = absurd (both_ways true small refl)
left_number (suc zero) small few = absurd (both_ways true small refl)
left_number (suc (suc zero)) small few = refl
left_number (suc (suc (suc zero))) small few = refl
left_number (suc (suc (suc (suc n)))) small few = absurd (omega arith)

own_number : (net : NetName) (init : ℕ) (later : List Init) → is_known (names_of later) net ≡ false → init ≤ 3 → init_of (own_inits net init ++ later) net ≡ kept_init init
own_number net init later out few = go (nat_lt init 2) refl
  where
    go : (b : Bool) → nat_lt init 2 ≡ b → init_of ((if b then record { net = net; value = init == 1 } ∷ [] else []) ++ later) net ≡ kept_init init
    go true e = ap (λ b. number_in (cond b (Some (record { net = net; value = init == 1 })) (find (λ (i : Init). bytes_eq i.net net) later))) (itself net) ∙ given_number init e
    go false e = ap number_in (missing later net out) ∙ left_number init e few

passed_over : (net : NetName) (init : ℕ) (later : List Init) (other : NetName) → bytes_eq net other ≡ false → init_of (own_inits net init ++ later) other ≡ init_of later other
passed_over net init later other apart = go (nat_lt init 2)
  where
    go : (b : Bool) → init_of ((if b then record { net = net; value = init == 1 } ∷ [] else []) ++ later) other ≡ init_of later other
    go true = ap (λ b. number_in (cond b (Some (record { net = net; value = init == 1 })) (find (λ (i : Init). bytes_eq i.net other) later))) apart
    go false = refl

abbrev pub IsItsInit : List Init → Cell → Type 0
IsItsInit inits r = r.kind ≡ Plain → init_of inits (shown r) ≡ kept_init r.init

-- registers behind one, over whose inits theirs are found
over : (r : Cell) (rs : List Cell) → FitsKind r.kind r → (later : List Init) → ((x : NetName) → is_known (all_shown rs) x ≡ true → is_known (shown_nets r) x ≡ false) → AllByRecursion Fits rs → AllByRecursion (IsItsInit later) rs → AllByRecursion (IsItsInit (reg_inits r ++ later)) rs
over r [] fit later apart fits all = tt
over r (s ∷ ss) fit later apart fits all =
    (λ plain. step plain r.kind fit ∙ all.0 plain, over r ss fit later (λ x is. apart x (known_right (shown_nets s) (all_shown ss) x is)) fits.1 all.1)
  where
    step : s.kind ≡ Plain → (kind : RegisterKind) → FitsKind kind r → init_of (inits_of_kind r kind ++ later) (shown s) ≡ init_of later (shown s)
    step plain (Flop cell) f = refl
    step plain Plain f =
        let s_shows = plain_shows s (subst (λ k. FitsKind k s) plain fits.0) in
        let here : is_known (all_shown (s ∷ ss)) (shown s) ≡ true = known_left (shown_nets s) (all_shown ss) (shown s) (ap (λ l. is_known l (shown s)) s_shows ∙ known_head (shown s) []) in
        let out : is_known (shown r ∷ []) (shown s) ≡ false = ap (λ l. is_known l (shown s)) (sym (plain_shows r f)) ∙ apart (shown s) here in
        passed_over (shown r) r.init later (shown s) (false_from_ne_true (bytes_eq (shown r) (shown s)) (λ same. both_ways (is_known (shown r ∷ []) (shown s)) out (ap (λ n. is_known (n ∷ []) (shown s)) (same_word (shown r) (shown s) same) ∙ known_head (shown s) [])))

flipped : (xs ys : List NetName) → Apart (xs ++ ys) → (x : NetName) → is_known ys x ≡ true → is_known xs x ≡ false
flipped xs ys apart x is = false_from_ne_true (is_known xs x) (λ there. both_ways (is_known ys x) (apart_both xs ys apart x there) is)

pub its_inits : (rs : List Cell) → AllByRecursion Fits rs → AllByRecursion (λ (r : Cell). r.init ≤ 3) rs → Apart (all_shown rs) → AllByRecursion (IsItsInit (all_inits rs)) rs
its_inits [] fits few apart = tt
its_inits (r ∷ rs) fits few apart =
    (λ plain. head plain, over r rs fits.0 (all_inits rs) (flipped (shown_nets r) (all_shown rs) apart) fits.1 (its_inits rs fits.1 few.1 (apart_right (shown_nets r) (all_shown rs) apart)))
  where
    head : r.kind ≡ Plain → init_of (inits_of_kind r r.kind ++ all_inits rs) (shown r) ≡ kept_init r.init
    head plain =
        ap (λ k. init_of (inits_of_kind r k ++ all_inits rs) (shown r)) plain
        ∙ own_number (shown r) r.init (all_inits rs) (not_init rs fits.1 (shown r) (plain_apart r rs fits.1 (subst (λ k. FitsKind k r) plain fits.0) apart)) few.0

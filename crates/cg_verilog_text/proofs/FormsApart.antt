-- No net stands twice in a term of a form that is read.
use Rattle.std.proofs.Common.{[], ◌≡◌, ℕ, zero, suc, Bool, true, false, ◌&&◌, List, ◌∷◌, ◌++◌, length, refl, subst, if◌then◌else◌, cond, None, Some, option_map}
use Rattle.std.specs.List.{AllByRecursion, find, list_any}
use Rattle.std.specs.Str.{bytes_eq}
use Rattle.std.proofs.lemmas.Bool.{or_parts}
use Rattle.std.proofs.lemmas.Slice.Eq.{bytes_eq-Decides}
use Rattle.cg_net.specs.Names.{NetName}
use Rattle.cg_netlist.proofs.Each.{each_together}
use Rattle.cg_verilog_text.specs.Forms.{Form, Constant, Sum, Differ, Choice, Literal, choosing, differing, form, fresh_literal, from_literal}
use Rattle.cg_verilog_text.specs.Forms.{literal, product, rest_of_sum, rest_of_term, sum, term, terms_of}
use Rattle.cg_verilog_text.specs.Meaning.{bit_in}
use Rattle.cg_verilog_text.specs.Reading.{Read, Got, Stuck, Reader, Turn, More, Last, Halt, after, behind, bit, ended_by, is_bit, is_mark, is_next}
use Rattle.cg_verilog_text.specs.Reading.{mark, net, part_turn, parted, take_turn, turns_within}
use Rattle.cg_verilog_text.specs.Tokens.{Token}
use Rattle.cg_verilog_text.proofs.Terms.{AreApart, apart_end}

abbrev Lit : Type 0
Lit = Literal NetName

-- what is read, if it is, is such
abbrev IfGot : {A : Type 0} → (A → Type 0) → Read A → Type 0
IfGot P (Got a later) = P a
IfGot P (Stuck later) = Unit {0}

after_got : {A B : Type 0} (P : A → Type 0) (Q : B → Type 0) (read : Read A) (next : A → Reader B) → IfGot P read → ((a : A) → P a → (later : List Token) → IfGot Q (next a later)) → IfGot Q (after read next)
after_got P Q (Got a later) next got goes = goes a got later
after_got P Q (Stuck later) next got goes = tt

any_got : {A B : Type 0} (Q : B → Type 0) (read : Read A) (next : A → Reader B) → ((a : A) (later : List Token) → IfGot Q (next a later)) → IfGot Q (after read next)
any_got Q (Got a later) next goes = goes a later
any_got Q (Stuck later) next goes = tt

either_got : {A : Type 0} (P : A → Type 0) (b : Bool) (x y : Read A) → IfGot P x → IfGot P y → IfGot P (if b then x else y)
either_got P true x y here there = here
either_got P false x y here there = there

ended_got : {A : Type 0} (P : A → Type 0) (byte : ℕ) (read : Read A) → IfGot P read → IfGot P (ended_by byte read)
ended_got P byte read got = after_got P P read (λ a later. after (mark byte later) (λ _ last. Got a last)) got (λ a good later. any_got P (mark byte later) (λ _ last. Got a last) (λ _ last. good))

-- parts, where each keeps what the parts so far are together
abbrev IfTurned : {A : Type 0} → (A → Type 0) → Turn A → Type 0
IfTurned P (More a later) = P a
IfTurned P (Last a later) = P a
IfTurned P (Halt later) = Unit {0}

turned_got : {A : Type 0} (P : A → Type 0) (turn : Turn A) (next : A → Reader A) → IfTurned P turn → ((a : A) → P a → (later : List Token) → IfGot P (next a later)) → IfGot P (take_turn turn next)
turned_got P (More a later) next got goes = goes a got later
turned_got P (Last a later) next got goes = got
turned_got P (Halt later) next got goes = tt

turns_got : {A : Type 0} (P : A → Type 0) (turn : A → List Token → Turn A) → ((a : A) → P a → (tokens : List Token) → IfTurned P (turn a tokens)) → (n : ℕ) (a : A) → P a → (tokens : List Token) → IfGot P (turns_within n turn a tokens)
turns_got P turn each zero a good tokens = tt
turns_got P turn each (suc n) a good tokens = turned_got P (turn a tokens) (turns_within n turn) (each a good tokens) (λ b also later. turns_got P turn each n b also later)

part_got : {A : Type 0} (P : List A → Type 0) (byte : ℕ) (so_far : List A) (read : Read A) → IfGot (λ a. P (so_far ++ a ∷ [])) read → IfTurned P (part_turn byte so_far read)
part_got P byte so_far (Stuck later) got = tt
part_got P byte so_far (Got a later) got = go (is_next (is_mark byte) later)
  where
    go : (b : Bool) → IfTurned P (if b then More (so_far ++ a ∷ []) (behind later) else Last (so_far ++ a ∷ []) later)
    go true = got
    go false = got

parted_got : {A : Type 0} (P : List A → Type 0) (byte : ℕ) (one : List A → Reader A) → ((so_far : List A) → P so_far → (tokens : List Token) → IfGot (λ a. P (so_far ++ a ∷ [])) (one so_far tokens)) → (so_far : List A) → P so_far → (tokens : List Token) → IfGot P (parted byte one so_far tokens)
parted_got P byte one each so_far good tokens =
    turns_got P (λ so_far tokens. part_turn byte so_far (one so_far tokens)) (λ before also later. part_got P byte before (one before later) (each before also later)) (suc (length tokens)) so_far good tokens

-- a literal of no net before it
abbrev pub TermApart : List Lit → Type 0
TermApart t = AreApart bytes_eq bytes_eq-Decides t

abbrev IsNew : List Lit → Lit → Type 0
IsNew before l = bit_in bytes_eq before l.net ≡ None

none_given : (before : List Lit) (name : NetName) → list_any (λ (l : Lit). bytes_eq l.net name) before ≡ false → bit_in bytes_eq before name ≡ None
none_given [] name none = refl
none_given (m ∷ ms) name none =
    let parts = or_parts (bytes_eq m.net name) (list_any (λ (l : Lit). bytes_eq l.net name) ms) none in go (bytes_eq m.net name) parts.0 (none_given ms name parts.1)
  where
    go : (b : Bool) → b ≡ false → bit_in bytes_eq ms name ≡ None → option_map (λ (k : Lit). k.plain) (cond b (Some m) (find (λ (k : Lit). bytes_eq k.net name) ms)) ≡ None
    go true e rest = absurd (cc)
    go false e rest = rest

fresh_new : (plain : Bool) (before : List Lit) (tokens : List Token) → IfGot (IsNew before) (fresh_literal plain before tokens)
fresh_new plain before tokens =
    any_got (IsNew before) (net tokens) (λ name later. if list_any (λ (l : Lit). bytes_eq l.net name) before then Stuck tokens else Got (record { net = name; plain = plain }) later)
    (λ name later. go name later (list_any (λ (l : Lit). bytes_eq l.net name) before) refl)
  where
    go : (name : NetName) (later : List Token) (b : Bool) → list_any (λ (l : Lit). bytes_eq l.net name) before ≡ b → IfGot (IsNew before) (if b then Stuck tokens else Got (record { net = name; plain = plain }) later)
    go name later true e = tt
    go name later false e = none_given before name e

literal_new : (before : List Lit) (tokens : List Token) → IfGot (IsNew before) (literal before tokens)
literal_new before tokens = either_got (IsNew before) (is_next (is_mark 126) tokens) (fresh_literal false before (behind tokens)) (fresh_literal true before tokens) (fresh_new false before (behind tokens)) (fresh_new true before tokens)

if_new : (P : Lit → Type 0) (before : List Lit) (read : Read Lit) → ((l : Lit) → IsNew before l → P l) → IfGot (IsNew before) read → IfGot P read
if_new P before (Got l later) good got = good l got
if_new P before (Stuck later) good got = tt

-- terms and sums
product_apart : (before : List Lit) → TermApart before → (tokens : List Token) → IfGot TermApart (product before tokens)
product_apart before apart tokens =
    parted_got TermApart 38 literal
    (λ so_far also later. if_new (λ l. TermApart (so_far ++ l ∷ [])) so_far (literal so_far later) (λ l new. apart_end bytes_eq bytes_eq-Decides so_far l new also) (literal_new so_far later))
    before apart tokens

term_apart : (tokens : List Token) → IfGot TermApart (term tokens)
term_apart tokens =
    either_got TermApart (is_next (is_mark 40) tokens) (ended_by 41 (product [] (behind tokens))) (product [] tokens)
    (ended_got TermApart 41 (product [] (behind tokens)) (product_apart [] tt (behind tokens))) (product_apart [] tt tokens)

abbrev pub AllApart : List (List Lit) → Type 0
AllApart terms = AllByRecursion TermApart terms

one_more : (so_far : List (List Lit)) (read : Read (List Lit)) → AllApart so_far → IfGot TermApart read → IfGot (λ t. AllApart (so_far ++ t ∷ [])) read
one_more so_far (Got t later) all got = each_together TermApart so_far (t ∷ []) all (got, tt)
one_more so_far (Stuck later) all got = tt

sum_apart : (before : List (List Lit)) → AllApart before → (tokens : List Token) → IfGot AllApart (sum before tokens)
sum_apart before all tokens = parted_got AllApart 124 (λ before. term) (λ so_far also later. one_more so_far (term later) also (term_apart later)) before all tokens

-- forms
abbrev FormApart : Form NetName → Type 0
FormApart f = AllApart (terms_of f)

rest_of_term_apart : (first : Lit) (tokens : List Token) → IfGot TermApart (rest_of_term first tokens)
rest_of_term_apart first tokens = either_got TermApart (is_next (is_mark 38) tokens) (product (first ∷ []) (behind tokens)) (Got (first ∷ []) tokens) (product_apart (first ∷ []) (tt, tt) (behind tokens)) (tt, tt)

rest_of_sum_apart : (first : Lit) (tokens : List Token) → IfGot FormApart (rest_of_sum first tokens)
rest_of_sum_apart first tokens =
    after_got AllApart FormApart (after (rest_of_term first tokens) (λ term later. if is_next (is_mark 124) later then sum (term ∷ []) (behind later) else Got (term ∷ []) later)) (λ terms later. Got (Sum true terms) later)
    (after_got TermApart AllApart (rest_of_term first tokens) (λ term later. if is_next (is_mark 124) later then sum (term ∷ []) (behind later) else Got (term ∷ []) later) (rest_of_term_apart first tokens)
    (λ t apart later. either_got AllApart (is_next (is_mark 124) later) (sum (t ∷ []) (behind later)) (Got (t ∷ []) later) (sum_apart (t ∷ []) (apart, tt) (behind later)) (apart, tt)))
    (λ terms all later. all)

-- two literals of different nets, in either order and plain or not
two_apart : (a b : Lit) → IsNew (a ∷ []) b → TermApart (a ∷ b ∷ [])
two_apart a b new = apart_end bytes_eq bytes_eq-Decides (a ∷ []) b new (tt, tt)

three_new : (a b c : Lit) → IsNew (a ∷ b ∷ []) c → IsNew (a ∷ []) c
three_new a b c new = go (bytes_eq a.net c.net) new
  where
    go : (test : Bool) → option_map (λ (k : Lit). k.plain) (cond test (Some a) (find (λ (k : Lit). bytes_eq k.net c.net) (b ∷ []))) ≡ None → option_map (λ (k : Lit). k.plain) (cond test (Some a) None) ≡ None
    go true e = absurd (cc)
    go false e = refl

differing_apart : (first : Lit) (tokens : List Token) → IfGot FormApart (differing first tokens)
differing_apart first tokens =
    after_got (IsNew (first ∷ [])) FormApart (literal (first ∷ []) tokens) (λ second later. Got (Differ first second) later) (literal_new (first ∷ []) tokens)
    (λ second new later. let apart = two_apart first second new in (apart, (apart, tt)))

choosing_apart : (first : Lit) (tokens : List Token) → IfGot FormApart (choosing first tokens)
choosing_apart first tokens =
    after_got (IsNew (first ∷ [])) FormApart (ended_by 58 (literal (first ∷ []) tokens)) (λ second later. after (literal (first ∷ second ∷ []) later) (λ third last. Got (Choice first second third) last))
    (ended_got (IsNew (first ∷ [])) 58 (literal (first ∷ []) tokens) (literal_new (first ∷ []) tokens))
    (λ second new later. after_got (IsNew (first ∷ second ∷ [])) FormApart (literal (first ∷ second ∷ []) later) (λ third last. Got (Choice first second third) last) (literal_new (first ∷ second ∷ []) later)
    (λ third also last. (two_apart first second new, (two_apart first third (three_new first second third also), tt))))

from_literal_apart : (first : Lit) (tokens : List Token) → IfGot FormApart (from_literal first tokens)
from_literal_apart first tokens =
    either_got FormApart (is_next (is_mark 94) tokens) (differing first (behind tokens)) (if is_next (is_mark 63) tokens then choosing first (behind tokens) else rest_of_sum first tokens)
    (differing_apart first (behind tokens))
    (either_got FormApart (is_next (is_mark 63) tokens) (choosing first (behind tokens)) (rest_of_sum first tokens) (choosing_apart first (behind tokens)) (rest_of_sum_apart first tokens))

constant_apart : (value : Bool) → FormApart (Constant value)
constant_apart true = (tt, tt)
constant_apart false = tt

sum_form_apart : (on : Bool) (read : Read (List (List Lit))) → IfGot AllApart read → IfGot FormApart (after read (λ terms later. Got (Sum on terms) later))
sum_form_apart on read got = after_got AllApart FormApart read (λ terms later. Got (Sum on terms) later) got (λ terms all later. all)

form_got : (tokens : List Token) → IfGot FormApart (form tokens)
form_got tokens =
    let bits : Read (Form NetName) = after (bit tokens) (λ value later. Got (Constant value) later) in
    let plain : Read (Form NetName) = after (sum [] tokens) (λ terms later. Got (Sum true terms) later) in
    let turned : Read (Form NetName) = after (ended_by 41 (sum [] (behind (behind tokens)))) (λ terms later. Got (Sum false terms) later) in
    let other : Read (Form NetName) = after (literal [] tokens) from_literal in
    either_got FormApart (is_next is_bit tokens) bits (if is_next (is_mark 40) tokens then plain else (if is_next (is_mark 126) tokens && is_next (is_mark 40) (behind tokens) then turned else other))
    (any_got FormApart (bit tokens) (λ value later. Got (Constant value) later) (λ value later. constant_apart value))
    (either_got FormApart (is_next (is_mark 40) tokens) plain (if is_next (is_mark 126) tokens && is_next (is_mark 40) (behind tokens) then turned else other)
    (sum_form_apart true (sum [] tokens) (sum_apart [] tt tokens))
    (either_got FormApart (is_next (is_mark 126) tokens && is_next (is_mark 40) (behind tokens)) turned other
    (sum_form_apart false (ended_by 41 (sum [] (behind (behind tokens)))) (ended_got AllApart 41 (sum [] (behind (behind tokens))) (sum_apart [] tt (behind (behind tokens)))))
    (any_got FormApart (literal [] tokens) from_literal (λ first later. from_literal_apart first later))))

-- what is read as a form
pub form_apart : (tokens later : List Token) (f : Form NetName) → form tokens ≡ Got f later → AllApart (terms_of f)
form_apart tokens later f is = subst (IfGot FormApart) is (form_got tokens)

-- The nets of items that are read have names.
use Rattle.std.proofs.Common.{[], ◌≡◌, ℕ, zero, suc, Bool, true, false, ◌&&◌, List, ◌∷◌, ◌++◌, length, refl, subst, if◌then◌else◌}
use Rattle.std.proofs.Common.{IsTrue, Option, None, Some}
use Rattle.std.specs.Prelude.{codes}
use Rattle.std.specs.List.{AllByRecursion, list_any}
use Rattle.std.specs.Str.{bytes_eq}
use Rattle.std.proofs.lemmas.Bool.{both_ways}
use Rattle.cg_net.specs.Names.{NetName}
use Rattle.cg_netlist.proofs.Each.{each_together}
use Rattle.cg_text.specs.Numbers.{is_number}
use Rattle.cg_verilog_text.specs.Forms.{Form, Constant, Sum, Differ, Choice, Literal, choosing, differing, form, fresh_literal, from_literal, literal}
use Rattle.cg_verilog_text.specs.Forms.{product, rest_of_sum, rest_of_term, sum, term}
use Rattle.cg_verilog_text.specs.Items.{Item, Input, Output, Wire, Reg, Place, Assign, Always, Initial, ItemAt, Items, Range, Update}
use Rattle.cg_verilog_text.specs.Items.{arrow, assignment, block_turn, declaration, declared, ended, event, header, initial, item, items}
use Rattle.cg_verilog_text.specs.Items.{items_within, line_of, made, pin, pin_net, placed, port_list, ports, put_item, range}
use Rattle.cg_verilog_text.specs.Items.{register_declaration, registers, update, update_turn, updates, whole_range}
use Rattle.cg_verilog_text.specs.Reading.{Read, Got, Stuck, Reader, Turn, More, Last, Halt, after, behind, bit, ended_by, indexed, is_arrow}
use Rattle.cg_verilog_text.specs.Reading.{is_bit, is_identifier, is_label, is_mark, is_next, is_numeral, is_plain, is_word, mark, name, net}
use Rattle.cg_verilog_text.specs.Reading.{ones, part_turn, parted, pass, separated, take_turn, turns, turns_within, word}
use Rattle.cg_verilog_text.specs.Tokens.{Token}
use Rattle.cg_verilog_text.specs.declared.kind.Kind.{Kind}
use Rattle.cg_verilog_text.specs.declared.kind.Kind.TheVariants.{Plain, Escaped, Number, Arrow, Mark, Other}
use Rattle.cg_verilog_text.proofs.NamesRead.{IsToken, indexed_named}
use Rattle.cg_verilog_text.proofs.Spoken.{IsNamed}

abbrev Good : List Token → Type 0
Good tokens = AllByRecursion IsToken tokens

-- what is read is such, and the tokens behind it are good
abbrev OkRead : {A : Type 0} → (A → Type 0) → Read A → Type 0
OkRead P (Got a later) = P a × Good later
OkRead P (Stuck later) = Unit {0}

abbrev Any : {A : Type 0} → A → Type 0
Any a = Unit {0}

-- how readings are put together
after_ok : {A B : Type 0} (P : A → Type 0) (Q : B → Type 0) (read : Read A) (next : A → Reader B) → OkRead P read → ((a : A) → P a → (later : List Token) → Good later → OkRead Q (next a later)) → OkRead Q (after read next)
after_ok P Q (Got a later) next ok goes = goes a ok.0 later ok.1
after_ok P Q (Stuck later) next ok goes = tt

made_ok : {A B : Type 0} (P : A → Type 0) (Q : B → Type 0) (make : A → B) (read : Read A) → ((a : A) → P a → Q (make a)) → OkRead P read → OkRead Q (made make read)
made_ok P Q make (Got a later) good ok = (good a ok.0, ok.1)
made_ok P Q make (Stuck later) good ok = tt

if_ok : {A : Type 0} (P : A → Type 0) (b : Bool) (x y : Read A) → OkRead P x → OkRead P y → OkRead P (if b then x else y)
if_ok P true x y here there = here
if_ok P false x y here there = there

behind_good : (tokens : List Token) → Good tokens → Good (behind tokens)
behind_good [] good = tt
behind_good (token ∷ later) good = good.1

pass_ok : (test : Token → Bool) (P : List ℕ → Type 0) → ((t : Token) → IsToken t → test t ≡ true → P t.text) → (tokens : List Token) → Good tokens → OkRead P (pass test tokens)
pass_ok test P good [] all = tt
pass_ok test P good (t ∷ ts) all = go (test t) refl
  where
    go : (b : Bool) → test t ≡ b → OkRead P (if b then Got t.text ts else Stuck (t ∷ ts))
    go true e = (good t all.0 e, all.1)
    go false e = tt

any_pass : (test : Token → Bool) (tokens : List Token) → Good tokens → OkRead Any (pass test tokens)
any_pass test tokens all = pass_ok test Any (λ t good is. tt) tokens all

ended_ok : {A : Type 0} (P : A → Type 0) (byte : ℕ) (read : Read A) → OkRead P read → OkRead P (ended_by byte read)
ended_ok P byte (Stuck later) ok = tt
ended_ok P byte (Got a later) ok = after_ok Any P (mark byte later) (λ _ last. Got a last) (any_pass (is_mark byte) later ok.1) (λ _ any last good. (ok.0, good))

-- turns: what was read so far is such, and at the end it is more
abbrev OkTurn : {A : Type 0} → (A → Type 0) → (A → Type 0) → Turn A → Type 0
OkTurn Q R (More a later) = Q a × Good later
OkTurn Q R (Last a later) = R a × Good later
OkTurn Q R (Halt later) = Unit {0}

take_ok : {A : Type 0} (Q R : A → Type 0) (turn : Turn A) (next : A → Reader A) → OkTurn Q R turn → ((a : A) → Q a → (later : List Token) → Good later → OkRead R (next a later)) → OkRead R (take_turn turn next)
take_ok Q R (More a later) next ok goes = goes a ok.0 later ok.1
take_ok Q R (Last a later) next ok goes = ok
take_ok Q R (Halt later) next ok goes = tt

turns_ok : {A : Type 0} (Q R : A → Type 0) (turn : A → List Token → Turn A) → ((a : A) → Q a → (ts : List Token) → Good ts → OkTurn Q R (turn a ts)) → (n : ℕ) (a : A) → Q a → (ts : List Token) → Good ts → OkRead R (turns_within n turn a ts)
turns_ok Q R turn each zero a q ts good = tt
turns_ok Q R turn each (suc n) a q ts good = take_ok Q R (turn a ts) (turns_within n turn) (each a q ts good) (λ b r later rest. turns_ok Q R turn each n b r later rest)

-- one or more
abbrev pub IsFull : {A : Type 0} → List A → Type 0
IsFull [] = ⊥
IsFull (x ∷ xs) = Unit {0}

full_end : {A : Type 0} (xs : List A) (a : A) → IsFull (xs ++ a ∷ [])
full_end [] a = tt
full_end (x ∷ xs) a = tt

abbrev AreFull : {A : Type 0} → (A → Type 0) → List A → Type 0
AreFull P xs = AllByRecursion P xs × IsFull xs

part_ok : {A : Type 0} (P : A → Type 0) (byte : ℕ) (so_far : List A) (read : Read A) → AllByRecursion P so_far → OkRead P read → OkTurn (AllByRecursion P) (AreFull P) (part_turn byte so_far read)
part_ok P byte so_far (Stuck later) all ok = tt
part_ok P byte so_far (Got a later) all ok = go (is_next (is_mark byte) later)
  where
    go : (b : Bool) → OkTurn (AllByRecursion P) (AreFull P) (if b then More (so_far ++ a ∷ []) (behind later) else Last (so_far ++ a ∷ []) later)
    go true = (each_together P so_far (a ∷ []) all (ok.0, tt), behind_good later ok.1)
    go false = ((each_together P so_far (a ∷ []) all (ok.0, tt), full_end so_far a), ok.1)

parted_ok : {A : Type 0} (P : A → Type 0) (byte : ℕ) (one : List A → Reader A) → ((so_far : List A) (ts : List Token) → Good ts → OkRead P (one so_far ts)) → (so_far : List A) → AllByRecursion P so_far → (ts : List Token) → Good ts → OkRead (AreFull P) (parted byte one so_far ts)
parted_ok P byte one each so_far all ts good =
    turns_ok (AllByRecursion P) (AreFull P) (λ so_far tokens. part_turn byte so_far (one so_far tokens)) (λ before q later rest. part_ok P byte before (one before later) q (each before later rest)) (suc (length ts)) so_far all ts good

-- names, nets, numbers
identifier_named : (t : Token) → IsToken t → is_identifier t ≡ true → IsNamed t.text
identifier_named t good is = go t.kind refl is
  where
    go : (k : Kind) → t.kind ≡ k → is_identifier (record { line = t.line; kind = k; text = t.text }) ≡ true → IsNamed t.text
    go Plain e is = good e
    go Escaped e is = is
    go Number e is = absurd (both_ways false refl is)
    go Arrow e is = absurd (both_ways false refl is)
    go Mark e is = absurd (both_ways false refl is)
    go Other e is = absurd (both_ways false refl is)

numeral_number : (t : Token) → IsToken t → is_numeral t ≡ true → IsTrue (is_number t.text)
numeral_number t good is = go t.kind is
  where
    go : (k : Kind) → is_numeral (record { line = t.line; kind = k; text = t.text }) ≡ true → IsTrue (is_number t.text)
    go Number is = is
    go Plain is = absurd (both_ways false refl is)
    go Escaped is = absurd (both_ways false refl is)
    go Arrow is = absurd (both_ways false refl is)
    go Mark is = absurd (both_ways false refl is)
    go Other is = absurd (both_ways false refl is)

name_ok : (ts : List Token) → Good ts → OkRead IsNamed (name ts)
name_ok ts good = pass_ok is_identifier IsNamed identifier_named ts good

indexed_ok : (text : List ℕ) → IsNamed text → (ts : List Token) → Good ts → OkRead IsNamed (indexed text ts)
indexed_ok text named ts good =
    ended_ok IsNamed 93 (after (pass is_numeral ts) (λ index later. Got (text ++ 91 ∷ (index ++ 93 ∷ [])) later))
    (after_ok (λ index. IsTrue (is_number index)) IsNamed (pass is_numeral ts) (λ index later. Got (text ++ 91 ∷ (index ++ 93 ∷ [])) later) (pass_ok is_numeral (λ index. IsTrue (is_number index)) numeral_number ts good)
    (λ index number later rest. (indexed_named text index named number, rest)))

net_ok : (ts : List Token) → Good ts → OkRead IsNamed (net ts)
net_ok ts good =
    after_ok IsNamed IsNamed (name ts) (λ text later. if is_next is_plain ts && is_next (is_mark 91) later then indexed text (behind later) else Got text later) (name_ok ts good)
    (λ text named later rest. if_ok IsNamed (is_next is_plain ts && is_next (is_mark 91) later) (indexed text (behind later)) (Got text later) (indexed_ok text named (behind later) (behind_good later rest)) (named, rest))

bit_ok : (ts : List Token) → Good ts → OkRead Any (bit ts)
bit_ok ts good = after_ok Any Any (pass is_bit ts) (λ text later. Got (list_any (bytes_eq text) ones) later) (any_pass is_bit ts good) (λ text any later rest. (tt, rest))

-- forms
abbrev pub LiteralNamed : Literal NetName → Type 0
LiteralNamed l = IsNamed l.net

abbrev pub TermNamed : List (Literal NetName) → Type 0
TermNamed t = AllByRecursion LiteralNamed t

abbrev pub IsMadeForm : Form NetName → Type 0
IsMadeForm (Constant b) = Unit {0}
IsMadeForm (Sum on terms) = AllByRecursion TermNamed terms × IsFull terms
IsMadeForm (Differ a b) = LiteralNamed a × LiteralNamed b
IsMadeForm (Choice a b c) = LiteralNamed a × LiteralNamed b × LiteralNamed c

fresh_ok : (plain : Bool) (before : List (Literal NetName)) (ts : List Token) → Good ts → OkRead LiteralNamed (fresh_literal plain before ts)
fresh_ok plain before ts good =
    after_ok IsNamed LiteralNamed (net ts) (λ name later. if list_any (λ literal. bytes_eq literal.net name) before then Stuck ts else Got (record { net = name; plain = plain }) later) (net_ok ts good)
    (λ name named later rest. if_ok LiteralNamed (list_any (λ literal. bytes_eq literal.net name) before) (Stuck ts) (Got (record { net = name; plain = plain }) later) tt (named, rest))

literal_ok : (before : List (Literal NetName)) (ts : List Token) → Good ts → OkRead LiteralNamed (literal before ts)
literal_ok before ts good = if_ok LiteralNamed (is_next (is_mark 126) ts) (fresh_literal false before (behind ts)) (fresh_literal true before ts) (fresh_ok false before (behind ts) (behind_good ts good)) (fresh_ok true before ts good)

full_all : {A : Type 0} (P : A → Type 0) (read : Read (List A)) → OkRead (AreFull P) read → OkRead (AllByRecursion P) read
full_all P (Got xs later) ok = (ok.0.0, ok.1)
full_all P (Stuck later) ok = tt

product_ok : (before : List (Literal NetName)) → TermNamed before → (ts : List Token) → Good ts → OkRead TermNamed (product before ts)
product_ok before named ts good = full_all LiteralNamed (product before ts) (parted_ok LiteralNamed 38 literal literal_ok before named ts good)

term_ok : (ts : List Token) → Good ts → OkRead TermNamed (term ts)
term_ok ts good =
    if_ok TermNamed (is_next (is_mark 40) ts) (ended_by 41 (product [] (behind ts))) (product [] ts) (ended_ok TermNamed 41 (product [] (behind ts)) (product_ok [] tt (behind ts) (behind_good ts good))) (product_ok [] tt ts good)

sum_ok : (before : List (List (Literal NetName))) → AllByRecursion TermNamed before → (ts : List Token) → Good ts → OkRead (AreFull TermNamed) (sum before ts)
sum_ok before named ts good = parted_ok TermNamed 124 (λ before. term) (λ before later rest. term_ok later rest) before named ts good

rest_of_term_ok : (first : Literal NetName) → LiteralNamed first → (ts : List Token) → Good ts → OkRead TermNamed (rest_of_term first ts)
rest_of_term_ok first named ts good = if_ok TermNamed (is_next (is_mark 38) ts) (product (first ∷ []) (behind ts)) (Got (first ∷ []) ts) (product_ok (first ∷ []) (named, tt) (behind ts) (behind_good ts good)) ((named, tt), good)

rest_of_sum_ok : (first : Literal NetName) → LiteralNamed first → (ts : List Token) → Good ts → OkRead IsMadeForm (rest_of_sum first ts)
rest_of_sum_ok first named ts good =
    after_ok (AreFull TermNamed) IsMadeForm (after (rest_of_term first ts) (λ term later. if is_next (is_mark 124) later then sum (term ∷ []) (behind later) else Got (term ∷ []) later)) (λ terms later. Got (Sum true terms) later)
    (after_ok TermNamed (AreFull TermNamed) (rest_of_term first ts) (λ term later. if is_next (is_mark 124) later then sum (term ∷ []) (behind later) else Got (term ∷ []) later) (rest_of_term_ok first named ts good)
    (λ term all later rest. if_ok (AreFull TermNamed) (is_next (is_mark 124) later) (sum (term ∷ []) (behind later)) (Got (term ∷ []) later) (sum_ok (term ∷ []) (all, tt) (behind later) (behind_good later rest)) (((all, tt), tt), rest)))
    (λ terms full later rest. (full, rest))

differing_ok : (first : Literal NetName) → LiteralNamed first → (ts : List Token) → Good ts → OkRead IsMadeForm (differing first ts)
differing_ok first named ts good = after_ok LiteralNamed IsMadeForm (literal (first ∷ []) ts) (λ second later. Got (Differ first second) later) (literal_ok (first ∷ []) ts good) (λ second also later rest. ((named, also), rest))

choosing_ok : (first : Literal NetName) → LiteralNamed first → (ts : List Token) → Good ts → OkRead IsMadeForm (choosing first ts)
choosing_ok first named ts good =
    after_ok LiteralNamed IsMadeForm (ended_by 58 (literal (first ∷ []) ts)) (λ second later. after (literal (first ∷ second ∷ []) later) (λ third last. Got (Choice first second third) last)) (ended_ok LiteralNamed 58 (literal (first ∷ []) ts) (literal_ok (first ∷ []) ts good))
    (λ second also later rest. after_ok LiteralNamed IsMadeForm (literal (first ∷ second ∷ []) later) (λ third last. Got (Choice first second third) last) (literal_ok (first ∷ second ∷ []) later rest) (λ third too last end. ((named, also, too), end)))

from_literal_ok : (first : Literal NetName) → LiteralNamed first → (ts : List Token) → Good ts → OkRead IsMadeForm (from_literal first ts)
from_literal_ok first named ts good =
    if_ok IsMadeForm (is_next (is_mark 94) ts) (differing first (behind ts)) (if is_next (is_mark 63) ts then choosing first (behind ts) else rest_of_sum first ts) (differing_ok first named (behind ts) (behind_good ts good))
    (if_ok IsMadeForm (is_next (is_mark 63) ts) (choosing first (behind ts)) (rest_of_sum first ts) (choosing_ok first named (behind ts) (behind_good ts good)) (rest_of_sum_ok first named ts good))

form_ok : (ts : List Token) → Good ts → OkRead IsMadeForm (form ts)
form_ok ts good =
    if_ok IsMadeForm (is_next is_bit ts) (after (bit ts) (λ value later. Got (Constant value) later)) _ (after_ok Any IsMadeForm (bit ts) (λ value later. Got (Constant value) later) (bit_ok ts good) (λ value any later rest. (tt, rest)))
    (if_ok IsMadeForm (is_next (is_mark 40) ts) (after (sum [] ts) (λ terms later. Got (Sum true terms) later)) _ (after_ok (AreFull TermNamed) IsMadeForm (sum [] ts) (λ terms later. Got (Sum true terms) later) (sum_ok [] tt ts good) (λ terms full later rest. (full, rest)))
    (if_ok IsMadeForm (is_next (is_mark 126) ts && is_next (is_mark 40) (behind ts)) (after (ended_by 41 (sum [] (behind (behind ts)))) (λ terms later. Got (Sum false terms) later)) _
    (after_ok (AreFull TermNamed) IsMadeForm (ended_by 41 (sum [] (behind (behind ts)))) (λ terms later. Got (Sum false terms) later)
    (ended_ok (AreFull TermNamed) 41 (sum [] (behind (behind ts))) (sum_ok [] tt (behind (behind ts)) (behind_good (behind ts) (behind_good ts good)))) (λ terms full later rest. (full, rest)))
    (after_ok LiteralNamed IsMadeForm (literal [] ts) from_literal (literal_ok [] ts good) (λ first named later rest. from_literal_ok first named later rest))))

-- items
abbrev pub UpdateNamed : Update → Type 0
UpdateNamed u = IsNamed u.net × IsNamed u.takes

abbrev pub IsMade : Item → Type 0
IsMade (Input r nets) = AllByRecursion IsNamed nets
IsMade (Output r nets) = AllByRecursion IsNamed nets
IsMade (Assign output f) = IsNamed output × IsMadeForm f
IsMade (Always clock us) = IsNamed clock × AllByRecursion UpdateNamed us
IsMade other = Unit {0}

all_ended : {A : Type 0} (P : A → Type 0) (read : Read A) → OkRead P read → OkRead P (ended read)
all_ended P read ok = ended_ok P 59 read ok

whole_range_ok : (ts : List Token) → Good ts → OkRead Any (whole_range ts)
whole_range_ok ts good =
    after_ok Any Any (ended_by 58 (pass is_numeral ts)) (λ high later. made (λ low. record { high = high; low = low }) (ended_by 93 (pass is_numeral later))) (ended_ok Any 58 (pass is_numeral ts) (any_pass is_numeral ts good))
    (λ high any later rest. made_ok Any Any (λ low. record { high = high; low = low }) (ended_by 93 (pass is_numeral later)) (λ low any. tt) (ended_ok Any 93 (pass is_numeral later) (any_pass is_numeral later rest)))

range_ok : (ts : List Token) → Good ts → OkRead Any (range ts)
range_ok ts good = if_ok Any (is_next (is_mark 91) ts) (made Some (whole_range (behind ts))) (Got None ts) (made_ok Any Any Some (whole_range (behind ts)) (λ r any. tt) (whole_range_ok (behind ts) (behind_good ts good))) (tt, good)

names_ok : (ts : List Token) → Good ts → OkRead (AllByRecursion IsNamed) (separated 44 name ts)
names_ok ts good = full_all IsNamed (separated 44 name ts) (parted_ok IsNamed 44 (λ before. name) (λ before later rest. name_ok later rest) [] tt ts good)

declaration_ok : (make : Option Range → List NetName → Item) → ((range : Option Range) (nets : List NetName) → AllByRecursion IsNamed nets → IsMade (make range nets)) → (ts : List Token) → Good ts → OkRead IsMade (declaration make ts)
declaration_ok make good_make ts good =
    after_ok Any IsMade (range ts) (λ indices later. made (make indices) (ended (separated 44 name later))) (range_ok ts good)
    (λ indices any later rest. made_ok (AllByRecursion IsNamed) IsMade (make indices) (ended (separated 44 name later)) (good_make indices) (all_ended (AllByRecursion IsNamed) (separated 44 name later) (names_ok later rest)))

any_all : {A : Type 0} (xs : List A) → AllByRecursion (λ x. Unit {0}) xs
any_all [] = tt
any_all (x ∷ xs) = (tt, any_all xs)

declared_ok : (r : Option Range) (ts : List Token) → Good ts → OkRead Any (declared r ts)
declared_ok (Some indices) ts good = made_ok IsNamed Any (λ text. record { net = text; init = None }) (name ts) (λ text any. tt) (name_ok ts good)
declared_ok None ts good =
    after_ok IsNamed Any (name ts) (λ text later. if is_next (is_mark 61) later then made (λ value. record { net = text; init = Some value }) (bit (behind later)) else Got (record { net = text; init = None }) later) (name_ok ts good)
    (λ text named later rest. if_ok Any (is_next (is_mark 61) later) (made (λ value. record { net = text; init = Some value }) (bit (behind later))) (Got (record { net = text; init = None }) later)
    (made_ok Any Any (λ value. record { net = text; init = Some value }) (bit (behind later)) (λ value any. tt) (bit_ok (behind later) (behind_good later rest))) (tt, rest))

register_declaration_ok : (ts : List Token) → Good ts → OkRead IsMade (register_declaration ts)
register_declaration_ok ts good =
    after_ok Any IsMade (range ts) (λ indices later. made (Reg indices) (ended (separated 44 (declared indices) later))) (range_ok ts good)
    (λ indices any later rest. made_ok (AllByRecursion Any) IsMade (Reg indices) (ended (separated 44 (declared indices) later)) (λ ds all. tt)
    (all_ended (AllByRecursion Any) (separated 44 (declared indices) later) (full_all Any (separated 44 (declared indices) later) (parted_ok Any 44 (λ before. declared indices) (λ before l r. declared_ok indices l r) [] tt later rest))))

pin_net_ok : (ts : List Token) → Good ts → OkRead Any (pin_net ts)
pin_net_ok ts good = if_ok Any (is_next (is_mark 41) ts) (Got None ts) (made Some (net ts)) (tt, good) (made_ok IsNamed Any Some (net ts) (λ n named. tt) (net_ok ts good))

pin_ok : (ts : List Token) → Good ts → OkRead Any (pin ts)
pin_ok ts good =
    after_ok IsNamed Any (ended_by 40 (after (mark 46 ts) (λ _. name))) (λ text later. made (λ net. record { pin = text; net = net }) (ended_by 41 (pin_net later)))
    (ended_ok IsNamed 40 (after (mark 46 ts) (λ _. name)) (after_ok Any IsNamed (mark 46 ts) (λ _. name) (any_pass (is_mark 46) ts good) (λ _ any later rest. name_ok later rest)))
    (λ text named later rest. made_ok Any Any (λ net. record { pin = text; net = net }) (ended_by 41 (pin_net later)) (λ n any. tt) (ended_ok Any 41 (pin_net later) (pin_net_ok later rest)))

placed_ok : (ts : List Token) → Good ts → OkRead IsMade (placed ts)
placed_ok ts good =
    after_ok IsNamed IsMade (name ts) (λ cell later. after (ended_by 40 (pass is_label later)) (λ label pins. made (Place cell label) (ended (ended_by 41 (separated 44 pin pins))))) (name_ok ts good)
    (λ cell named later rest. after_ok Any IsMade (ended_by 40 (pass is_label later)) (λ label pins. made (Place cell label) (ended (ended_by 41 (separated 44 pin pins)))) (ended_ok Any 40 (pass is_label later) (any_pass is_label later rest))
    (λ label any pins good_pins. made_ok (AreFull Any) IsMade (Place cell label) (ended (ended_by 41 (separated 44 pin pins))) (λ ps all. tt)
    (all_ended (AreFull Any) (ended_by 41 (separated 44 pin pins)) (ended_ok (AreFull Any) 41 (separated 44 pin pins) (parted_ok Any 44 (λ before. pin) (λ before l r. pin_ok l r) [] tt pins good_pins)))))

assignment_ok : (ts : List Token) → Good ts → OkRead IsMade (assignment ts)
assignment_ok ts good =
    after_ok IsNamed IsMade (ended_by 61 (net ts)) (λ output later. made (Assign output) (ended (form later))) (ended_ok IsNamed 61 (net ts) (net_ok ts good))
    (λ output named later rest. made_ok IsMadeForm IsMade (Assign output) (ended (form later)) (λ f is. (named, is)) (all_ended IsMadeForm (form later) (form_ok later rest)))

update_ok : (ts : List Token) → Good ts → OkRead UpdateNamed (update ts)
update_ok ts good =
    after_ok IsNamed UpdateNamed (net ts) (λ output later. made (λ input. record { net = output; takes = input }) (ended (after (arrow later) (λ _. net)))) (net_ok ts good)
    (λ output named later rest. made_ok IsNamed UpdateNamed (λ input. record { net = output; takes = input }) (ended (after (arrow later) (λ _. net))) (λ input also. (named, also))
    (all_ended IsNamed (after (arrow later) (λ _. net)) (after_ok Any IsNamed (arrow later) (λ _. net) (any_pass is_arrow later rest) (λ _ any l r. net_ok l r))))

update_turn_ok : (so_far : List Update) → AllByRecursion UpdateNamed so_far → (read : Read Update) → OkRead UpdateNamed read → OkTurn (AllByRecursion UpdateNamed) (AllByRecursion UpdateNamed) (update_turn so_far read)
update_turn_ok so_far all (Got one later) ok = (each_together UpdateNamed so_far (one ∷ []) all (ok.0, tt), ok.1)
update_turn_ok so_far all (Stuck later) ok = tt

block_ok : (so_far : List Update) → AllByRecursion UpdateNamed so_far → (ts : List Token) → Good ts → OkTurn (AllByRecursion UpdateNamed) (AllByRecursion UpdateNamed) (block_turn so_far ts)
block_ok so_far all ts good = go (is_next (is_word (codes "end")) ts)
  where
    go : (b : Bool) → OkTurn (AllByRecursion UpdateNamed) (AllByRecursion UpdateNamed) (if b then Last so_far (behind ts) else update_turn so_far (update ts))
    go true = (all, behind_good ts good)
    go false = update_turn_ok so_far all (update ts) (update_ok ts good)

updates_ok : (ts : List Token) → Good ts → OkRead (AllByRecursion UpdateNamed) (updates ts)
updates_ok ts good =
    if_ok (AllByRecursion UpdateNamed) (is_next (is_word (codes "begin")) ts) (turns block_turn [] (behind ts)) (made (λ one. one ∷ []) (update ts))
    (turns_ok (AllByRecursion UpdateNamed) (AllByRecursion UpdateNamed) block_turn block_ok (suc (length (behind ts))) [] tt (behind ts) (behind_good ts good))
    (made_ok UpdateNamed (AllByRecursion UpdateNamed) (λ one. one ∷ []) (update ts) (λ u named. (named, tt)) (update_ok ts good))

event_ok : (ts : List Token) → Good ts → OkRead IsNamed (event ts)
event_ok ts good =
    after_ok Any IsNamed (ended_by 40 (mark 64 ts)) (λ _ later. ended_by 41 (after (word (codes "posedge") later) (λ _. net))) (ended_ok Any 40 (mark 64 ts) (any_pass (is_mark 64) ts good))
    (λ _ any later rest. ended_ok IsNamed 41 (after (word (codes "posedge") later) (λ _. net)) (after_ok Any IsNamed (word (codes "posedge") later) (λ _. net) (any_pass (is_word (codes "posedge")) later rest) (λ _ any l r. net_ok l r)))

registers_ok : (ts : List Token) → Good ts → OkRead IsMade (registers ts)
registers_ok ts good =
    after_ok IsNamed IsMade (event ts) (λ clock later. made (Always clock) (updates later)) (event_ok ts good)
    (λ clock named later rest. made_ok (AllByRecursion UpdateNamed) IsMade (Always clock) (updates later) (λ us all. (named, all)) (updates_ok later rest))

initial_ok : (ts : List Token) → Good ts → OkRead IsMade (initial ts)
initial_ok ts good =
    after_ok IsNamed IsMade (ended_by 61 (net ts)) (λ output later. made (Initial output) (ended (bit later))) (ended_ok IsNamed 61 (net ts) (net_ok ts good))
    (λ output named later rest. made_ok Any IsMade (Initial output) (ended (bit later)) (λ b any. tt) (all_ended Any (bit later) (bit_ok later rest)))

item_ok : (ts : List Token) → Good ts → OkRead IsMade (item ts)
item_ok ts good =
    let rest = behind_good ts good in
    if_ok IsMade (is_next (is_word (codes "assign")) ts) (assignment (behind ts)) _ (assignment_ok (behind ts) rest)
    (if_ok IsMade (is_next (is_word (codes "input")) ts) (declaration Input (behind ts)) _ (declaration_ok Input (λ r nets all. all) (behind ts) rest)
    (if_ok IsMade (is_next (is_word (codes "output")) ts) (declaration Output (behind ts)) _ (declaration_ok Output (λ r nets all. all) (behind ts) rest)
    (if_ok IsMade (is_next (is_word (codes "always")) ts) (registers (behind ts)) _ (registers_ok (behind ts) rest)
    (if_ok IsMade (is_next (is_word (codes "initial")) ts) (initial (behind ts)) _ (initial_ok (behind ts) rest)
    (if_ok IsMade (is_next (is_word (codes "wire")) ts) (declaration Wire (behind ts)) _ (declaration_ok Wire (λ r nets all. tt) (behind ts) rest)
    (if_ok IsMade (is_next (is_word (codes "reg")) ts) (register_declaration (behind ts)) (placed ts) (register_declaration_ok (behind ts) rest) (placed_ok ts good)))))))

-- all items of a text, and its model
abbrev pub AreMade : List ItemAt → Type 0
AreMade found = AllByRecursion (λ one. IsMade one.item) found

put_ok : (line : ℕ) (read : Read Item) (later : List Token → Items) → OkRead IsMade read → ((left : List Token) → Good left → AreMade (later left).found) → AreMade (put_item line read later).found
put_ok line (Stuck left) later ok rest = tt
put_ok line (Got one left) later ok rest = (ok.0, rest left ok.1)

end_or : (b : Bool) (ts : List Token) (one : Items) → AreMade one.found → AreMade (if b then record { found = []; whole = true; left = ts } else one).found
end_or true ts one made = tt
end_or false ts one made = made

items_ok : (n : ℕ) (ts : List Token) → Good ts → AreMade (items_within n ts).found
items_ok zero ts good = tt
items_ok (suc n) ts good =
    end_or (is_next (is_word (codes "endmodule")) ts) ts (put_item (line_of 0 ts) (item ts) (items_within n))
    (put_ok (line_of 0 ts) (item ts) (items_within n) (item_ok ts good) (λ left rest. items_ok n left rest))

pub items_made : (ts : List Token) → AllByRecursion IsToken ts → AreMade (items ts).found
items_made ts good = items_ok (suc (length ts)) ts good

ports_ok : (ts : List Token) → Good ts → OkRead Any (ports ts)
ports_ok ts good =
    if_ok Any (is_next (is_mark 41) ts) (Got [] ts) (separated 44 name ts) (tt, good) (parted_any (separated 44 name ts) (names_ok ts good))
  where
    parted_any : (read : Read (List NetName)) → OkRead (AllByRecursion IsNamed) read → OkRead Any read
    parted_any (Got ns later) ok = (tt, ok.1)
    parted_any (Stuck later) ok = tt

port_list_ok : (ts : List Token) → Good ts → OkRead Any (port_list ts)
port_list_ok ts good = if_ok Any (is_next (is_mark 40) ts) (ended_by 41 (ports (behind ts))) (Got [] ts) (ended_ok Any 41 (ports (behind ts)) (ports_ok (behind ts) (behind_good ts good))) (tt, good)

header_ok : (ts : List Token) → Good ts → OkRead IsNamed (header ts)
header_ok ts good =
    after_ok IsNamed IsNamed (after (word (codes "module") ts) (λ _. name)) (λ model later. made (λ ports. model) (ended (port_list later)))
    (after_ok Any IsNamed (word (codes "module") ts) (λ _. name) (any_pass (is_word (codes "module")) ts good) (λ _ any later rest. name_ok later rest))
    (λ model named later rest. made_ok Any IsNamed (λ ports. model) (ended (port_list later)) (λ ports any. named) (all_ended Any (port_list later) (port_list_ok later rest)))

-- the model and the items of a text whose head can be read
pub header_made : (ts : List Token) → AllByRecursion IsToken ts → (name : NetName) (later : List Token) → header ts ≡ Got name later → IsNamed name × AreMade (items later).found
header_made ts good name later is = go (header ts) (header_ok ts good) is
  where
    go : (read : Read NetName) → OkRead IsNamed read → read ≡ Got name later → IsNamed name × AreMade (items later).found
    go (Stuck left) ok e = absurd (cc)
    go (Got found left) ok e =
        let name_is : found ≡ name = cc in
        let left_is : left ≡ later = cc in
        (subst IsNamed name_is ok.0, items_made later (subst Good left_is ok.1))

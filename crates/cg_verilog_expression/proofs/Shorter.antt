-- What is read takes a token: fewer are left behind it.
use Rattle.std.proofs.Common.{◌≡◌, ℕ, zero, suc, ◌<◌, ◌≤◌, Bool, true, false, ◌&&◌, List, [], ◌∷◌, ◌++◌, length, ap, if◌then◌else◌, arith}
use Rattle.std.specs.List.{list_any}
use Rattle.std.specs.Str.{bytes_eq}
use Rattle.cg_net.specs.Names.{NetName}
use Rattle.cg_verilog_text.specs.Forms.{Form, Literal, Constant, Sum, Differ, Choice, choosing, differing, form, fresh_literal, from_literal, literal, product, rest_of_sum, rest_of_term, sum, term}
use Rattle.cg_verilog_text.specs.Reading.{Got, Read, Reader, Stuck, More, Last, after, behind, bit, ended_by, indexed, is_bit, is_identifier, is_mark, is_next, is_numeral, is_plain, mark, name, net, ones, part_turn, parted, pass, take_turn, turns_within}
use Rattle.cg_verilog_text.specs.Tokens.{Token}

abbrev pub Shorter : {A : Type 0} → ℕ → Read A → Type 0
Shorter n (Got a later) = length later < n
Shorter n (Stuck left) = Unit {0}

-- a reader that takes a token, and one that may take none
abbrev pub Takes : {A : Type 0} → Reader A → Type 0
Takes one = (n : ℕ) (ts : List Token) → length ts ≤ n → Shorter n (one ts)

abbrev pub Keeps : {A : Type 0} → Reader A → Type 0
Keeps one = (n : ℕ) (ts : List Token) → length ts < n → Shorter n (one ts)

pub got_shorter : {A : Type 0} (n : ℕ) (read : Read A) (a : A) (later : List Token) → Shorter n read → read ≡ Got a later → length later < n
got_shorter n (Got b rest) a later short is = let same : rest ≡ later = cc in let long : length rest ≡ length later = ap length same in omega (arith, short, long)
got_shorter n (Stuck left) a later short is = absurd (cc)

pub passed : (test : Token → Bool) → Takes (pass test)
passed test n [] few = tt
passed test n (t ∷ ts) few = step (test t)
  where
    step : (b : Bool) → Shorter n (if b then Got t.text ts else Stuck (t ∷ ts))
    step true = omega arith
    step false = tt

pub then_shorter : {A B : Type 0} (m n : ℕ) (read : Read A) (next : A → List Token → Read B) → Shorter m read → ((a : A) (later : List Token) → length later < m → Shorter n (next a later)) → Shorter n (after read next)
then_shorter m n (Got a later) next short goes = goes a later short
then_shorter m n (Stuck left) next short goes = tt

pub ended_shorter : {A : Type 0} (byte n : ℕ) (read : Read A) → Shorter n read → Shorter n (ended_by byte read)
ended_shorter byte n read short =
    then_shorter n n read (λ a later. after (mark byte later) (λ _ last. Got a last)) short
    (λ a later less. then_shorter n n (mark byte later) (λ _ last. Got a last) (passed (is_mark byte) n later (omega arith)) (λ _ last fewer. fewer))

pub either_shorter : {A : Type 0} (n : ℕ) (b : Bool) (x y : Read A) → Shorter n x → Shorter n y → Shorter n (if b then x else y)
either_shorter n true x y one other = one
either_shorter n false x y one other = other

pub behind_few : (ts : List Token) (n : ℕ) → length ts ≤ n → length (behind ts) ≤ n
behind_few [] n few = few
behind_few (t ∷ ts) n few = omega arith

module _ {A : Type 0} (byte : ℕ) (one : List A → Reader A) (takes : (items : List A) → Takes (one items)) where
  abbrev turned : ℕ → List A → Reader (List A)
  turned k items tokens = turns_within k (λ so_far tokens. part_turn byte so_far (one so_far tokens)) items tokens

  turn_shorter : (k n : ℕ) → ((items : List A) (ts : List Token) → length ts ≤ n → Shorter n (turned k items ts)) → (items : List A) (ts : List Token) → length ts ≤ n → Shorter n (turned (suc k) items ts)
  turn_shorter k n rest items ts few = step (one items ts) (takes items n ts few)
    where
      more : (a : A) (later : List Token) → length later < n → (b : Bool) → Shorter n (take_turn (if b then More (items ++ a ∷ []) (behind later) else Last (items ++ a ∷ []) later) (turned k))
      more a later short true = rest (items ++ a ∷ []) (behind later) (behind_few later n (omega arith))
      more a later short false = short

      step : (read : Read A) → Shorter n read → Shorter n (take_turn (part_turn byte items read) (turned k))
      step (Got a later) short = more a later short (is_next (is_mark byte) later)
      step (Stuck left) short = tt

  turned_shorter : (k n : ℕ) (items : List A) (ts : List Token) → length ts ≤ n → Shorter n (turned k items ts)
  turned_shorter zero n items ts few = tt
  turned_shorter (suc k) n items ts few = turn_shorter k n (turned_shorter k n) items ts few

  pub parted_shorter : (items : List A) → Takes (parted byte one items)
  parted_shorter items n ts few = turned_shorter (suc (length ts)) n items ts few

-- nets and literals
pub name_shorter : Takes name
name_shorter = passed is_identifier

pub net_shorter : Takes net
net_shorter n ts few =
    then_shorter n n (name ts) (λ text later. if is_next is_plain ts && is_next (is_mark 91) later then indexed text (behind later) else Got text later) (name_shorter n ts few)
    (λ text later short. either_shorter n (is_next is_plain ts && is_next (is_mark 91) later) (indexed text (behind later)) (Got text later) (index text later short) short)
  where
    index : (text : List ℕ) (later : List Token) → length later < n → Shorter n (indexed text (behind later))
    index text later short =
        ended_shorter 93 n (after (pass is_numeral (behind later)) (λ index rest. Got (text ++ 91 ∷ (index ++ 93 ∷ [])) rest))
        (then_shorter n n (pass is_numeral (behind later)) (λ index rest. Got (text ++ 91 ∷ (index ++ 93 ∷ [])) rest) (passed is_numeral n (behind later) (behind_few later n (omega arith))) (λ index rest less. less))

pub fresh_shorter : (plain : Bool) (before : List (Literal NetName)) → Takes (fresh_literal plain before)
fresh_shorter plain before n ts few =
    then_shorter n n (net ts) (λ name later. if list_any (λ (l : Literal NetName). bytes_eq l.net name) before then Stuck ts else Got (record { net = name; plain = plain }) later) (net_shorter n ts few)
    (λ name later short. either_shorter {A = Literal NetName} n (list_any (λ (l : Literal NetName). bytes_eq l.net name) before) (Stuck ts) (Got (record { net = name; plain = plain }) later) tt short)

pub literal_shorter : (before : List (Literal NetName)) → Takes (literal before)
literal_shorter before n ts few =
    either_shorter n (is_next (is_mark 126) ts) (fresh_literal false before (behind ts)) (fresh_literal true before ts)
    (fresh_shorter false before n (behind ts) (behind_few ts n few)) (fresh_shorter true before n ts few)

-- terms and sums
pub product_shorter : (before : List (Literal NetName)) → Takes (product before)
product_shorter before = parted_shorter 38 literal literal_shorter before

pub term_shorter : Takes term
term_shorter n ts few =
    either_shorter n (is_next (is_mark 40) ts) (ended_by 41 (product [] (behind ts))) (product [] ts)
    (ended_shorter 41 n (product [] (behind ts)) (product_shorter [] n (behind ts) (behind_few ts n few))) (product_shorter [] n ts few)

pub sum_shorter : (before : List (List (Literal NetName))) → Takes (sum before)
sum_shorter before = parted_shorter 124 (λ before. term) (λ before. term_shorter) before

-- forms
pub bit_shorter : Takes bit
bit_shorter n ts few = then_shorter n n (pass is_bit ts) (λ text later. Got (list_any (bytes_eq text) ones) later) (passed is_bit n ts few) (λ text later short. short)

differing_shorter : (first : Literal NetName) → Takes (differing first)
differing_shorter first n ts few = then_shorter n n (literal (first ∷ []) ts) (λ second later. Got (Differ first second) later) (literal_shorter (first ∷ []) n ts few) (λ second later short. short)

choosing_shorter : (first : Literal NetName) → Takes (choosing first)
choosing_shorter first n ts few =
    then_shorter n n (ended_by 58 (literal (first ∷ []) ts)) (λ second later. after (literal (first ∷ second ∷ []) later) (λ third last. Got (Choice first second third) last))
    (ended_shorter 58 n (literal (first ∷ []) ts) (literal_shorter (first ∷ []) n ts few))
    (λ second later short. then_shorter n n (literal (first ∷ second ∷ []) later) (λ third last. Got (Choice first second third) last) (literal_shorter (first ∷ second ∷ []) n later (omega arith)) (λ third last less. less))

term_kept : (first : Literal NetName) → Keeps (rest_of_term first)
term_kept first n ts less =
    either_shorter n (is_next (is_mark 38) ts) (product (first ∷ []) (behind ts)) (Got (first ∷ []) ts)
    (product_shorter (first ∷ []) n (behind ts) (behind_few ts n (omega arith))) less

sum_kept : (first : Literal NetName) → Keeps (rest_of_sum first)
sum_kept first n ts less =
    then_shorter n n (after (rest_of_term first ts) (λ term later. if is_next (is_mark 124) later then sum (term ∷ []) (behind later) else Got (term ∷ []) later)) (λ terms later. Got (Sum true terms) later)
    (then_shorter n n (rest_of_term first ts) (λ term later. if is_next (is_mark 124) later then sum (term ∷ []) (behind later) else Got (term ∷ []) later) (term_kept first n ts less)
    (λ term later short. either_shorter n (is_next (is_mark 124) later) (sum (term ∷ []) (behind later)) (Got (term ∷ []) later) (sum_shorter (term ∷ []) n (behind later) (behind_few later n (omega arith))) short))
    (λ terms later short. short)

from_kept : (first : Literal NetName) → Keeps (from_literal first)
from_kept first n ts less =
    either_shorter n (is_next (is_mark 94) ts) (differing first (behind ts)) (if is_next (is_mark 63) ts then choosing first (behind ts) else rest_of_sum first ts)
    (differing_shorter first n (behind ts) (behind_few ts n (omega arith)))
    (either_shorter n (is_next (is_mark 63) ts) (choosing first (behind ts)) (rest_of_sum first ts) (choosing_shorter first n (behind ts) (behind_few ts n (omega arith))) (sum_kept first n ts less))

pub form_shorter : Takes form
form_shorter n ts few =
    either_shorter n (is_next is_bit ts) (after (bit ts) (λ value later. Got (Constant value) later)) others
    (then_shorter n n (bit ts) (λ value later. Got (Constant value) later) (bit_shorter n ts few) (λ value later short. short))
    (either_shorter n (is_next (is_mark 40) ts) (after (sum [] ts) (λ terms later. Got (Sum true terms) later)) (if is_next (is_mark 126) ts && is_next (is_mark 40) (behind ts) then inverse else after (literal [] ts) from_literal)
    (then_shorter n n (sum [] ts) (λ terms later. Got (Sum true terms) later) (sum_shorter [] n ts few) (λ terms later short. short))
    (either_shorter n (is_next (is_mark 126) ts && is_next (is_mark 40) (behind ts)) inverse (after (literal [] ts) from_literal)
    (then_shorter n n (ended_by 41 (sum [] (behind (behind ts)))) (λ terms later. Got (Sum false terms) later) (ended_shorter 41 n (sum [] (behind (behind ts))) (sum_shorter [] n (behind (behind ts)) (behind_few (behind ts) n (behind_few ts n few)))) (λ terms later short. short))
    (then_shorter n n (literal [] ts) from_literal (literal_shorter [] n ts few) (λ first later short. from_kept first n later short))))
  where
    inverse : Read (Form NetName)
    inverse = after (ended_by 41 (sum [] (behind (behind ts)))) (λ terms later. Got (Sum false terms) later)

    others : Read (Form NetName)
    others = if is_next (is_mark 40) ts then after (sum [] ts) (λ terms later. Got (Sum true terms) later) else (if is_next (is_mark 126) ts && is_next (is_mark 40) (behind ts) then after (ended_by 41 (sum [] (behind (behind ts)))) (λ terms later. Got (Sum false terms) later) else after (literal [] ts) from_literal)

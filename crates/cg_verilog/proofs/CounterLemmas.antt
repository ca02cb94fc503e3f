-- Digits that are counted up and down, compared and written say the numbers that they should.
use Rattle.std.proofs.Common.{◌≡◌, ℕ, zero, suc, ◌+◌, ◌-◌, ◌*◌, ◌<◌, ◌≤◌, ◌==◌, ◌/◌, ◌%◌, Bool, true, false, not, ◌&&◌, ◌||◌, List, [], ◌∷◌, ◌++◌, length, drop, refl, ap, sym, ◌∙◌, subst, if◌then◌else◌, arith, nat_le, nat_lt, get_or}
use Rattle.std.specs.Prelude.{slice_index}
use Rattle.std.specs.Char.{is_ascii_digit}
use Rattle.std.specs.Str.{all_ascii_digits}
use Rattle.std.proofs.lemmas.Bool.Decides.{nat_tests}
use Rattle.std.proofs.Math.Seq.{drop-cons}
use Rattle.std.proofs.lemmas.List.{append_assoc, append-nil}
use Rattle.cg_text.specs.Numbers.{digits_after, is_number}
use Rattle.cg_verilog_text.specs.Meaning.{digits_within, index_text}
use Rattle.cg_verilog.specs.Counters.{AreDigits, AreHigher, value_of}
use Rattle.cg_verilog.specs.inner.Digits.{at_most, falls_away, is_last, lowered, lowest_first, raised, written}

-- what tests of numbers say
same_number : (a b : ℕ) → (a == b) ≡ true → a ≡ b
same_number a b is = grind (arith, nat_tests)

-- higher digits are not zero
positive : (digit : ℕ) (digits : List ℕ) → AreHigher (digit ∷ digits) → 0 < value_of (digit ∷ digits)
positive digit [] are = let more : 0 < digit = are.1 refl in omega (arith, more)
positive digit (next ∷ digits) are = let more : 0 < value_of (next ∷ digits) = positive next digits are.2 in omega (arith, more)

pub digit_below : (digits : List ℕ) (place : ℕ) → AreDigits digits → place < length digits → get_or digits place 0 < 10
digit_below [] place are within = absurd are
digit_below (digit ∷ digits) zero are within = are.0
digit_below (digit ∷ digits) (suc place) are within = higher digits place are.1 (omega arith)
  where
    higher : (digits : List ℕ) (place : ℕ) → AreHigher digits → place < length digits → get_or digits place 0 < 10
    higher [] place are within = absurd (omega arith)
    higher (digit ∷ digits) zero are within = are.0
    higher (digit ∷ digits) (suc place) are within = higher digits place are.2 (omega arith)

-- the digits of a number as it is written
read_before : (bytes more : List ℕ) → value_of (lowest_first bytes ++ more) ≡ digits_after (value_of more) bytes
read_before [] more = refl
read_before (byte ∷ bytes) more =
    let value : (byte - 48) + 10 * value_of more ≡ 10 * value_of more + (byte - 48) = omega arith in
    ap value_of (append_assoc (lowest_first bytes) ((byte - 48) ∷ []) more)
    ∙ (read_before bytes ((byte - 48) ∷ more) ∙ ap (λ n. digits_after n bytes) value)

pub read_value : (bytes : List ℕ) → value_of (lowest_first bytes) ≡ digits_after 0 bytes
read_value bytes = ap value_of (sym (append-nil (lowest_first bytes))) ∙ read_before bytes []

-- one more
pub raised_value : (digits : List ℕ) → value_of (raised true digits) ≡ value_of digits + 1
raised_value [] = refl
raised_value (digit ∷ digits) = go (digit == 9) refl (raised_value digits)
  where
    go : (b : Bool) → (digit == 9) ≡ b → value_of (raised true digits) ≡ value_of digits + 1 → value_of (if b then 0 ∷ raised true digits else (digit + 1) ∷ digits) ≡ digit + 10 * value_of digits + 1
    go true is rest = let nine : digit ≡ 9 = same_number digit 9 is in omega (arith, nine, rest)
    go false is rest = omega arith

not_empty : (digits : List ℕ) → raised true digits ≡ [] → ⊥
not_empty [] is = absurd (cc)
not_empty (digit ∷ digits) is = go (digit == 9) is
  where
    go : (b : Bool) → (if b then 0 ∷ raised true digits else (digit + 1) ∷ digits) ≡ [] → ⊥
    go true e = absurd (cc)
    go false e = absurd (cc)

raised_higher : (digits : List ℕ) → AreHigher digits → AreHigher (raised true digits)
raised_higher [] are = (omega arith, λ _. omega arith, tt)
raised_higher (digit ∷ digits) are = go (digit == 9) refl (raised_higher digits are.2)
  where
    go : (b : Bool) → (digit == 9) ≡ b → AreHigher (raised true digits) → AreHigher (if b then 0 ∷ raised true digits else (digit + 1) ∷ digits)
    go true is rest = (omega arith, λ none. absurd (not_empty digits none), rest)
    go false is rest = (below, λ none. omega arith, are.2)
      where
        below : digit + 1 < 10
        below = let less : digit < 10 = are.0 in grind (arith, nat_tests)

pub raised_digits : (digits : List ℕ) → AreDigits digits → AreDigits (raised true digits)
raised_digits [] are = absurd are
raised_digits (digit ∷ digits) are = go (digit == 9) refl
  where
    go : (b : Bool) → (digit == 9) ≡ b → AreDigits (if b then 0 ∷ raised true digits else (digit + 1) ∷ digits)
    go true is = (omega arith, raised_higher digits are.1)
    go false is = (below, are.1)
      where
        below : digit + 1 < 10
        below = let less : digit < 10 = are.0 in grind (arith, nat_tests)

-- one less
pub lowered_value : (lowest : Bool) (digits : List ℕ) → 0 < value_of digits → value_of (lowered lowest true digits) + 1 ≡ value_of digits
lowered_value lowest [] some = absurd (omega arith)
lowered_value lowest (digit ∷ digits) some = go (digit == 0) refl (λ more. lowered_value false digits more)
  where
    last : (e : Bool) → falls_away lowest digit digits ≡ e → (digit == 0) ≡ false → value_of (if e then [] else (digit - 1) ∷ digits) + 1 ≡ digit + 10 * value_of digits
    last false is other = let more : 0 < digit = grind (arith, nat_tests) in omega (arith, more)
    last true is other = gone lowest (digit == 1) (is_last digits) is refl refl
      where
        gone : (l one end : Bool) → (not l && (one && end)) ≡ true → (digit == 1) ≡ one → is_last digits ≡ end → 0 + 1 ≡ digit + 10 * value_of digits
        gone true one end is same ends = absurd (cc)
        gone false false end is same ends = absurd (cc)
        gone false true false is same ends = absurd (cc)
        gone false true true is same ends = let first : digit ≡ 1 = same_number digit 1 same in ended digits ends first
          where
            ended : (ds : List ℕ) → is_last ds ≡ true → digit ≡ 1 → 0 + 1 ≡ digit + 10 * value_of ds
            ended [] e first = omega (arith, first)
            ended (d ∷ ds) e first = absurd (cc)

    go : (b : Bool) → (digit == 0) ≡ b → (0 < value_of digits → value_of (lowered false true digits) + 1 ≡ value_of digits)
        → value_of (if b then 9 ∷ lowered false true digits else (if falls_away lowest digit digits then [] else (digit - 1) ∷ digits)) + 1 ≡ digit + 10 * value_of digits
    go true is rest =
        let none : digit ≡ 0 = same_number digit 0 is in
        let more : 0 < value_of digits = omega (arith, none, some) in
        let value = rest more in
        omega (arith, none, value)
    go false is rest = last (falls_away lowest digit digits) refl is

lowered_higher : (digits : List ℕ) → AreHigher digits → AreHigher (lowered false true digits)
lowered_higher [] are = tt
lowered_higher (digit ∷ digits) are = go (digit == 0) refl (lowered_higher digits are.2)
  where
    kept : (e : Bool) → falls_away false digit digits ≡ e → (digit == 0) ≡ false → AreHigher (if e then [] else (digit - 1) ∷ digits)
    kept true is other = tt
    kept false is other = (less, λ none. more none, are.2)
      where
        less : digit - 1 < 10
        less = let below : digit < 10 = are.0 in omega (arith, below)

        more : digits ≡ [] → 0 < digit - 1
        more none =
            let ends : is_last digits ≡ true = ap is_last none in
            let apart : (digit == 1) ≡ false = one (digit == 1) (is_last digits) is ends in
            grind (arith, nat_tests)
          where
            one : (a b : Bool) → (a && b) ≡ false → b ≡ true → a ≡ false
            one true true isnt is = absurd (cc)
            one true false isnt is = absurd (cc)
            one false b isnt is = refl

    go : (b : Bool) → (digit == 0) ≡ b → AreHigher (lowered false true digits) → AreHigher (if b then 9 ∷ lowered false true digits else (if falls_away false digit digits then [] else (digit - 1) ∷ digits))
    go true is rest = (omega arith, λ none. omega arith, rest)
    go false is rest = kept (falls_away false digit digits) refl is

pub lowered_digits : (digits : List ℕ) → AreDigits digits → AreDigits (lowered true true digits)
lowered_digits [] are = absurd are
lowered_digits (digit ∷ digits) are = go (digit == 0)
  where
    go : (b : Bool) → AreDigits (if b then 9 ∷ lowered false true digits else (if falls_away true digit digits then [] else (digit - 1) ∷ digits))
    go true = (omega arith, lowered_higher digits are.1)
    go false = (let below : digit < 10 = are.0 in omega (arith, below), are.1)

-- as it is written
within : (k digit : ℕ) (digits : List ℕ) → digit < 10 → AreHigher digits → value_of (digit ∷ digits) < k → digits_within k (value_of (digit ∷ digits)) ≡ written (digit ∷ digits)
within zero digit digits below are less = absurd (omega arith)
within (suc k) digit [] below are less =
    let value : digit + 10 * 0 ≡ digit = omega arith in
    let small : nat_lt (digit + 10 * 0) 10 ≡ true = grind (arith, nat_tests) in
    ap (λ b. if b then (48 + (digit + 10 * 0)) ∷ [] else digits_within k ((digit + 10 * 0) / 10) ++ (48 + (digit + 10 * 0) % 10) ∷ []) small
    ∙ ap (λ n. (48 + n) ∷ []) value
within (suc k) digit (next ∷ digits) below are less =
    let v = value_of (next ∷ digits) in
    let more : 0 < v = positive next digits are in
    let large : nat_lt (digit + 10 * v) 10 ≡ false = grind (arith, nat_tests) in
    let tens : (digit + 10 * v) / 10 ≡ v = omega (arith, below) in
    let ones : (digit + 10 * v) % 10 ≡ digit = omega (arith, below) in
    let fewer : v < k = omega (arith, more, less) in
    ap (λ b. if b then (48 + (digit + 10 * v)) ∷ [] else digits_within k ((digit + 10 * v) / 10) ++ (48 + (digit + 10 * v) % 10) ∷ []) large
    ∙ (ap (λ n. digits_within k n ++ (48 + (digit + 10 * v) % 10) ∷ []) tens
    ∙ (ap (λ n. digits_within k v ++ (48 + n) ∷ []) ones
    ∙ ap (λ (l : List ℕ). l ++ (48 + digit) ∷ []) (within k next digits are.0 are.2 fewer)))

pub written_text : (digits : List ℕ) → AreDigits digits → index_text (value_of digits) ≡ written digits
written_text [] are = absurd are
written_text (digit ∷ digits) are = within (suc (value_of (digit ∷ digits))) digit digits are.0 are.1 (omega arith)

-- compared
abbrev pub Below : List ℕ → Type 0
Below [] = Unit {0}
Below (digit ∷ digits) = (digit < 10) × Below digits

compared : (below : Bool) (digits others : List ℕ) → Below digits → Below others → length digits ≡ length others → at_most below digits others ≡ (if value_of digits == value_of others then below else nat_lt (value_of digits) (value_of others))
compared below [] [] small less same = refl
compared below [] (o ∷ others) small less same = absurd (omega arith)
compared below (d ∷ digits) [] small less same = absurd (omega arith)
compared below (d ∷ digits) (o ∷ others) small less same =
    compared (if d == o then below else nat_lt d o) digits others small.1 less.1 (omega (arith, same))
    ∙ go (value_of digits) (value_of others) small.0 less.0 (value_of digits == value_of others) refl (d == o) refl
  where
    go : (a b : ℕ) → d < 10 → o < 10 → (t : Bool) → (a == b) ≡ t → (u : Bool) → (d == o) ≡ u
        → (if t then (if u then below else nat_lt d o) else nat_lt a b) ≡ (if d + 10 * a == o + 10 * b then below else nat_lt (d + 10 * a) (o + 10 * b))
    go a b dl ol true at true du =
        let x : a ≡ b = same_number a b at in
        let y : d ≡ o = same_number d o du in
        let z : (d + 10 * a == o + 10 * b) ≡ true = grind (arith, nat_tests) in
        ap (λ c. if c then below else nat_lt (d + 10 * a) (o + 10 * b)) (sym z)
    go a b dl ol true at false du =
        let x : a ≡ b = same_number a b at in
        let z : (d + 10 * a == o + 10 * b) ≡ false = grind (arith, nat_tests) in
        let w : nat_lt d o ≡ nat_lt (d + 10 * a) (o + 10 * b) = shifted d o a b x in
        w ∙ ap (λ c. if c then below else nat_lt (d + 10 * a) (o + 10 * b)) (sym z)
      where
        shifted : (d o a b : ℕ) → a ≡ b → nat_lt d o ≡ nat_lt (d + 10 * a) (o + 10 * b)
        shifted d o a b same = grind (arith, nat_tests)
    go a b dl ol false at u du =
        let z : (d + 10 * a == o + 10 * b) ≡ false = apart d o a b dl ol at in
        let w : nat_lt a b ≡ nat_lt (d + 10 * a) (o + 10 * b) = above d o a b dl ol at in
        w ∙ ap (λ c. if c then below else nat_lt (d + 10 * a) (o + 10 * b)) (sym z)
      where
        apart : (d o a b : ℕ) → d < 10 → o < 10 → (a == b) ≡ false → (d + 10 * a == o + 10 * b) ≡ false
        apart d o a b dl ol differ = grind (arith, nat_tests)

        above : (d o a b : ℕ) → d < 10 → o < 10 → (a == b) ≡ false → nat_lt a b ≡ nat_lt (d + 10 * a) (o + 10 * b)
        above d o a b dl ol differ = grind (arith, nat_tests)

higher_below : (digits : List ℕ) → AreHigher digits → Below digits
higher_below [] are = tt
higher_below (digit ∷ digits) are = (are.0, higher_below digits are.2)

pub digits_below : (digits : List ℕ) → AreDigits digits → Below digits
digits_below [] are = absurd are
digits_below (digit ∷ digits) are = (are.0, higher_below digits are.1)

at_most_number : (a b : ℕ) → (if a == b then true else nat_lt a b) ≡ nat_le a b
at_most_number a b = grind (arith, nat_tests)

pub same_length : (digits others : List ℕ) → AreDigits digits → AreDigits others → length digits ≡ length others → at_most true digits others ≡ nat_le (value_of digits) (value_of others)
same_length digits others are be same = compared true digits others (digits_below digits are) (digits_below others be) same ∙ at_most_number (value_of digits) (value_of others)

shorter_higher : (digits others : List ℕ) → Below digits → AreHigher others → length digits < length others → value_of digits < value_of others
shorter_higher digits [] small be less = absurd (omega arith)
shorter_higher [] (o ∷ others) small be less = positive o others be
shorter_higher (d ∷ digits) (o ∷ others) small be less =
    let rest : value_of digits < value_of others = shorter_higher digits others small.1 be.2 (omega (arith, less)) in
    let below : d < 10 = small.0 in
    omega (arith, rest, below)

pub shorter_less : (digits others : List ℕ) → AreDigits digits → AreDigits others → length digits < length others → value_of digits < value_of others
shorter_less [] others are be less = absurd are
shorter_less (d ∷ digits) [] are be less = absurd be
shorter_less (d ∷ digits) (o ∷ others) are be less =
    let rest : value_of digits < value_of others = shorter_higher digits others (higher_below digits are.1) be.1 (omega (arith, less)) in
    let below : d < 10 = are.0 in
    omega (arith, rest, below)

-- the digits that a number is written with
both_left : (a b : Bool) → (a && b) ≡ true → a ≡ true
both_left true b is = refl
both_left false b is = absurd (cc)

both_right : (a b : Bool) → (a && b) ≡ true → b ≡ true
both_right true b is = is
both_right false b is = absurd (cc)

digit_number : (byte : ℕ) → is_ascii_digit byte ≡ true → byte - 48 < 10
digit_number byte is = grind (arith, nat_tests)

read_below : (bytes : List ℕ) → all_ascii_digits bytes ≡ true → Below (lowest_first bytes)
read_below [] all = tt
read_below (byte ∷ bytes) all = one (lowest_first bytes) (byte - 48) (read_below bytes (both_right (is_ascii_digit byte) (all_ascii_digits bytes) all)) (digit_number byte (both_left (is_ascii_digit byte) (all_ascii_digits bytes) all))
  where
    one : (digits : List ℕ) (last : ℕ) → Below digits → last < 10 → Below (digits ++ last ∷ [])
    one [] last below less = (less, tt)
    one (digit ∷ digits) last below less = (below.0, one digits last below.1 less)

highest : (digits : List ℕ) (last : ℕ) → Below (digits ++ last ∷ []) → 0 < last → AreHigher (digits ++ last ∷ [])
highest [] last below more = (below.0, λ _. more, tt)
highest (digit ∷ digits) last below more = (below.0, λ none. absurd (some digits none), highest digits last below.1 more)
  where
    some : (ds : List ℕ) → ds ++ last ∷ [] ≡ [] → ⊥
    some [] is = absurd (cc)
    some (d ∷ ds) is = absurd (cc)

first_digit : (byte : ℕ) → is_ascii_digit byte ≡ true → (byte == 48) ≡ false → 0 < byte - 48
first_digit byte is other = grind (arith, nat_tests)

pub read_digits : (bytes : List ℕ) → is_number bytes ≡ true → AreDigits (lowest_first bytes)
read_digits [] is = absurd (cc)
read_digits (byte ∷ bytes) is = go (lowest_first bytes) refl
  where
    all : all_ascii_digits (byte ∷ bytes) ≡ true
    all = both_right (not (length (byte ∷ bytes) == 0) && (not (byte == 48) || length (byte ∷ bytes) == 1)) (all_ascii_digits (byte ∷ bytes)) is

    lead : (not (byte == 48) || length (byte ∷ bytes) == 1) ≡ true
    lead = both_right (not (length (byte ∷ bytes) == 0)) (not (byte == 48) || length (byte ∷ bytes) == 1) (both_left (not (length (byte ∷ bytes) == 0) && (not (byte == 48) || length (byte ∷ bytes) == 1)) (all_ascii_digits (byte ∷ bytes)) is)

    digit : is_ascii_digit byte ≡ true
    digit = both_left (is_ascii_digit byte) (all_ascii_digits bytes) all

    more : (bs : List ℕ) (d : ℕ) (ds : List ℕ) → lowest_first bs ≡ d ∷ ds → (not (byte == 48) || length (byte ∷ bs) == 1) ≡ true → (byte == 48) ≡ false
    more [] d ds here e = absurd (cc)
    more (b ∷ bs) d ds here e = pick (byte == 48) e
      where
        pick : (c : Bool) → (not c || length (byte ∷ b ∷ bs) == 1) ≡ true → c ≡ false
        pick false e = refl
        pick true e = absurd (let longer : (length (byte ∷ b ∷ bs) == 1) ≡ false = long bs in both_ways_here (length (byte ∷ b ∷ bs) == 1) longer e)
          where
            long : (cs : List ℕ) → (length (byte ∷ b ∷ cs) == 1) ≡ false
            long cs = grind (arith, nat_tests)

            both_ways_here : (c : Bool) → c ≡ false → c ≡ true → ⊥
            both_ways_here true isnt is = absurd (cc)
            both_ways_here false isnt is = absurd (cc)

    go : (ds : List ℕ) → lowest_first bytes ≡ ds → AreDigits (lowest_first bytes ++ (byte - 48) ∷ [])
    go [] here = subst (λ l. AreDigits (l ++ (byte - 48) ∷ [])) (sym here) (digit_number byte digit, tt)
    go (d ∷ ds) here =
        let below : Below (d ∷ (ds ++ (byte - 48) ∷ [])) = subst (λ l. Below (l ++ (byte - 48) ∷ [])) here (read_below (byte ∷ bytes) all) in
        subst (λ l. AreDigits (l ++ (byte - 48) ∷ [])) (sym here) (below.0, highest ds (byte - 48) below.1 (first_digit byte digit (more bytes d ds here lead)))

-- a byte that writes a digit
pub byte_above : (bytes : List ℕ) (place : ℕ) → is_number bytes ≡ true → place < length bytes → 48 ≤ get_or bytes place 0
byte_above bytes place is within = digits bytes place (both_right (not (length bytes == 0) && (not (slice_index bytes 0 == 48) || length bytes == 1)) (all_ascii_digits bytes) is) within
  where
    above : (byte : ℕ) → is_ascii_digit byte ≡ true → 48 ≤ byte
    above byte is = grind (arith, nat_tests)

    digits : (bytes : List ℕ) (place : ℕ) → all_ascii_digits bytes ≡ true → place < length bytes → 48 ≤ get_or bytes place 0
    digits [] place all within = absurd (omega arith)
    digits (byte ∷ bytes) zero all within = above byte (both_left (is_ascii_digit byte) (all_ascii_digits bytes) all)
    digits (byte ∷ bytes) (suc place) all within = digits bytes place (both_right (is_ascii_digit byte) (all_ascii_digits bytes) all) (omega arith)

-- compared where one has more digits
pub shorter_at_most : (digits others : List ℕ) → AreDigits digits → AreDigits others → length digits < length others → nat_le (value_of digits) (value_of others) ≡ true
shorter_at_most digits others are be less = let more : value_of digits < value_of others = shorter_less digits others are be less in at_most_less (value_of digits) (value_of others) more
  where
    at_most_less : (a b : ℕ) → a < b → nat_le a b ≡ true
    at_most_less a b less = grind (arith, nat_tests)

pub longer_at_most : (digits others : List ℕ) → AreDigits digits → AreDigits others → length others < length digits → nat_le (value_of digits) (value_of others) ≡ false
longer_at_most digits others are be less = let more : value_of others < value_of digits = shorter_less others digits be are less in at_most_more (value_of digits) (value_of others) more
  where
    at_most_more : (a b : ℕ) → b < a → nat_le a b ≡ false
    at_most_more a b less = grind (arith, nat_tests)

-- one digit less, in a loop
last_drop : (digits : List ℕ) (place : ℕ) → place < length digits → is_last (drop (place + 1) digits) ≡ (place + 1 == length digits)
last_drop [] place within = absurd (omega arith)
last_drop (digit ∷ []) zero within = refl
last_drop (digit ∷ next ∷ digits) zero within = sym (longer (length digits))
  where
    longer : (n : ℕ) → (0 + 1 == suc (suc n)) ≡ false
    longer n = grind (arith, nat_tests)
last_drop (digit ∷ digits) (suc place) within =
    let same : suc (place + 1) ≡ suc place + 1 = omega arith in
    ap (λ j. is_last (drop j (digit ∷ digits))) (sym same) ∙ (last_drop digits place (omega (arith, within)) ∙ shifted place (length digits))
  where
    shifted : (p n : ℕ) → (p + 1 == n) ≡ (suc p + 1 == suc n)
    shifted p n = grind (arith, nat_tests)

pub lowered_step : (next now before : List ℕ) (lowest borrow more : Bool) (digits : List ℕ) (place : ℕ) (whole : List ℕ) → place < length digits → now ≡ next ++ before
    → ((rest : List ℕ) → is_last rest ≡ (place + 1 == length digits) → lowered lowest borrow (get_or digits place 0 ∷ rest) ≡ before ++ lowered false more rest)
    → next ++ lowered lowest borrow (drop place digits) ≡ whole → now ++ lowered false more (drop (place + 1) digits) ≡ whole
lowered_step next now before lowest borrow more digits place whole within put one here =
    let one_more : suc place ≡ place + 1 = omega arith in
    let rest : drop place digits ≡ get_or digits place 0 ∷ drop (place + 1) digits = drop-cons digits place 0 within ∙ ap (λ j. get_or digits place 0 ∷ drop j digits) one_more in
    ap (λ l. l ++ lowered false more (drop (place + 1) digits)) put
    ∙ (append_assoc next before (lowered false more (drop (place + 1) digits))
    ∙ (ap (λ l. next ++ l) (sym (one (drop (place + 1) digits) (last_drop digits place within)))
    ∙ (ap (λ l. next ++ lowered lowest borrow l) (sym rest) ∙ here)))

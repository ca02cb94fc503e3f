-- Identifiers that are read are names.
use Rattle.std.proofs.Common.{[], ◌≡◌, ℕ, zero, suc, ◌+◌, ◌-◌, ◌<◌, ◌/◌, ◌%◌, ◌==◌, Bool, true, false, not, ◌&&◌, List, ◌∷◌, ◌++◌, length, take}
use Rattle.std.proofs.Common.{refl, ap, sym, ◌∙◌, subst, append_assoc, IsTrue, cond, if◌then◌else◌, arith, nat_lt, slice_get, slice_index, Option, None, Some}
use Rattle.std.specs.List.{AllByRecursion, list_all}
use Rattle.std.specs.Char.{is_ascii_digit}
use Rattle.std.specs.Str.{all_ascii_digits}
use Rattle.std.proofs.lemmas.Bool.{and_from, and_parts, ltb-true}
use Rattle.std.proofs.lemmas.Bool.Decides.{nat_tests}
use Rattle.std.proofs.lemmas.Grind.{common_steps}
use Rattle.std.proofs.lemmas.List.Folds.{list_all-append}
use Rattle.cg_cell.specs.Name.{ends_name, is_name, is_name_byte}
use Rattle.cg_text.specs.Blanks.{is_line_feed, is_white_space}
use Rattle.cg_text.specs.Lines.{end_line}
use Rattle.cg_text.specs.Numbers.{is_number}
use Rattle.cg_verilog_text.specs.Lexeme.{based_length, closed, closed_by, closing_length, is_digit, is_in_word, is_letter, is_mark_byte}
use Rattle.cg_verilog_text.specs.Lexeme.{lexeme, run_length, skips_line}
use Rattle.cg_verilog_text.specs.Meaning.{digits_within, index_text}
use Rattle.cg_verilog_text.specs.Tokens.{Token, next_line, put_lexeme, stays_fresh, tokens, tokens_from}
use Rattle.cg_verilog_text.specs.declared.kind.Kind.TheVariants.{Plain, Escaped, Number, Arrow, Mark, Other}
use Rattle.cg_verilog_text.specs.declared.lexeme.Lexeme.{Lexeme}
use Rattle.cg_verilog_text.specs.declared.lexeme.Lexeme.TheVariants.{Blank, Token as TokenHere, Open}

-- a name that ends in a byte other than `\`
last_at : (xs : List ℕ) (b : ℕ) → slice_get (xs ++ b ∷ []) (length (xs ++ b ∷ []) - 1) ≡ Some b
last_at [] b = refl
last_at (x ∷ []) b = refl
last_at (x ∷ y ∷ ys) b =
    let e : length (x ∷ ((y ∷ ys) ++ b ∷ [])) - 1 ≡ suc (length ((y ∷ ys) ++ b ∷ []) - 1) = omega arith in
    ap (slice_get (x ∷ ((y ∷ ys) ++ b ∷ []))) e ∙ last_at (y ∷ ys) b

named_end : (xs : List ℕ) (b : ℕ) → list_all is_name_byte xs ≡ true → is_name_byte b ≡ true → (b == 92) ≡ false → IsTrue (is_name (xs ++ b ∷ []))
named_end xs b all here other =
    and_from (ends_name (slice_get (xs ++ b ∷ []) (length (xs ++ b ∷ []) - 1))) (list_all is_name_byte (xs ++ b ∷ []))
    (ap ends_name (last_at xs b) ∙ ap not other)
    (list_all-append is_name_byte xs (b ∷ []) ∙ (ap (λ c. c && list_all is_name_byte (b ∷ [])) all ∙ ap (λ c. c && true) here))

name_all : (name : List ℕ) → IsTrue (is_name name) → list_all is_name_byte name ≡ true
name_all name is = (and_parts (ends_name (slice_get name (length name - 1))) (list_all is_name_byte name) is).1

-- bytes of words may stand in names, and end them
abbrev ends_word : ℕ → Bool
ends_word b = is_name_byte b && not (b == 92)

word_byte : (b : ℕ) → is_in_word b ≡ true → ends_word b ≡ true
word_byte b is = grind (arith, nat_tests, common_steps)

letter_byte : (b : ℕ) → is_letter b ≡ true → ends_word b ≡ true
letter_byte b is = grind (arith, nat_tests, common_steps)

digit_byte : (b : ℕ) → is_ascii_digit b ≡ true → is_name_byte b ≡ true
digit_byte b is = grind (arith, nat_tests, common_steps)

last_ends : (x : ℕ) (xs : List ℕ) → list_all ends_word (x ∷ xs) ≡ true → ends_name (slice_get (x ∷ xs) (length (x ∷ xs) - 1)) ≡ true
last_ends x [] all = (and_parts (is_name_byte x) (not (x == 92)) (and_parts (ends_word x) true all).0).1
last_ends x (y ∷ ys) all =
    let e : length (x ∷ y ∷ ys) - 1 ≡ suc (length (y ∷ ys) - 1) = omega arith in
    ap (λ n. ends_name (slice_get (x ∷ y ∷ ys) n)) e ∙ last_ends y ys (and_parts (ends_word x) (list_all ends_word (y ∷ ys)) all).1

all_name_bytes : (xs : List ℕ) → list_all ends_word xs ≡ true → list_all is_name_byte xs ≡ true
all_name_bytes [] all = refl
all_name_bytes (x ∷ xs) all =
    let parts = and_parts (ends_word x) (list_all ends_word xs) all in
    and_from (is_name_byte x) (list_all is_name_byte xs) (and_parts (is_name_byte x) (not (x == 92)) parts.0).0 (all_name_bytes xs parts.1)

run_all : (after : List ℕ) → list_all ends_word (take (run_length is_in_word after) after) ≡ true
run_all [] = refl
run_all (b ∷ after) = go (is_in_word b) refl (run_all after)
  where
    taken : (n : ℕ) → take (1 + n) (b ∷ after) ≡ b ∷ take n after
    taken n = let e : 1 + n ≡ suc n = omega arith in ap (λ m. take m (b ∷ after)) e

    go : (c : Bool) → is_in_word b ≡ c → list_all ends_word (take (run_length is_in_word after) after) ≡ true → list_all ends_word (take (cond c (1 + run_length is_in_word after) 0) (b ∷ after)) ≡ true
    go true e rest = ap (list_all ends_word) (taken (run_length is_in_word after)) ∙ and_from (ends_word b) (list_all ends_word (take (run_length is_in_word after) after)) (word_byte b e) rest
    go false e rest = refl

word_named : (byte : ℕ) (after : List ℕ) → is_letter byte ≡ true → IsTrue (is_name (byte ∷ take (run_length is_in_word after) after))
word_named byte after is =
    let all : list_all ends_word (byte ∷ take (run_length is_in_word after) after) ≡ true = and_from (ends_word byte) (list_all ends_word (take (run_length is_in_word after) after)) (letter_byte byte is) (run_all after) in
    and_from (ends_name (slice_get (byte ∷ take (run_length is_in_word after) after) (length (byte ∷ take (run_length is_in_word after) after) - 1))) (list_all is_name_byte (byte ∷ take (run_length is_in_word after) after))
    (last_ends byte (take (run_length is_in_word after) after) all) (all_name_bytes (byte ∷ take (run_length is_in_word after) after) all)

-- a plain token is a name
abbrev pub IsToken : Token → Type 0
IsToken token = token.kind ≡ Plain → IsTrue (is_name token.text)

module _ (byte : ℕ) (after : List ℕ) where
  abbrev Names : Lexeme → Type 0
  Names (TokenHere Plain more) = IsTrue (is_name (byte ∷ take more after))
  Names other = Unit {0}

  either : (b : Bool) (x y : Lexeme) → (b ≡ true → Names x) → Names y → Names (cond b x y)
  either true x y here there = here refl
  either false x y here there = there

  closed_names : (o : Option ℕ) → Names (closed o)
  closed_names None = tt
  closed_names (Some more) = tt

  closed_by_names : (last : ℕ) (rest : List ℕ) → Names (closed_by last rest)
  closed_by_names last [] = tt
  closed_by_names last (star ∷ rest) = closed_names (closing_length last false rest)

  -- what is left of the lexemes that are looked for
  abbrev marks_left : Lexeme
  marks_left = cond (is_mark_byte byte) (TokenHere Mark 0) (TokenHere Other 0)

  abbrev arrows_left : Lexeme
  arrows_left = cond (byte == 60 && slice_index after 0 == 61) (TokenHere Arrow 1) marks_left

  abbrev digits_left : Lexeme
  digits_left = cond (is_digit byte) (TokenHere Number (based_length after)) arrows_left

  abbrev escapes_left : Lexeme
  escapes_left = cond (byte == 92) (TokenHere Escaped (run_length (λ b. not (is_white_space b)) after)) digits_left

  abbrev words_left : Lexeme
  words_left = cond (is_letter byte) (TokenHere Plain (run_length is_in_word after)) escapes_left

  abbrev attributes_left : Lexeme
  attributes_left = cond (byte == 40 && slice_index after 0 == 42) (closed_by 41 after) words_left

  abbrev comments_left : Lexeme
  comments_left = cond (byte == 47 && slice_index after 0 == 42) (closed_by 47 after) attributes_left

  abbrev lines_left : Bool → Lexeme
  lines_left fresh = cond (skips_line fresh byte after) (Blank (run_length (λ b. not (is_line_feed b)) after)) comments_left

  lexeme_names : (fresh : Bool) → Names (lexeme fresh byte after)
  lexeme_names fresh =
      either (is_white_space byte) (Blank 0) (lines_left fresh) (λ is. tt)
      (either (skips_line fresh byte after) (Blank (run_length (λ b. not (is_line_feed b)) after)) comments_left (λ is. tt)
      (either (byte == 47 && slice_index after 0 == 42) (closed_by 47 after) attributes_left (λ is. closed_by_names 47 after)
      (either (byte == 40 && slice_index after 0 == 42) (closed_by 41 after) words_left (λ is. closed_by_names 41 after)
      (either (is_letter byte) (TokenHere Plain (run_length is_in_word after)) escapes_left (λ is. word_named byte after is)
      (either (byte == 92) (TokenHere Escaped (run_length (λ b. not (is_white_space b)) after)) digits_left (λ is. tt)
      (either (is_digit byte) (TokenHere Number (based_length after)) arrows_left (λ is. tt)
      (either (byte == 60 && slice_index after 0 == 61) (TokenHere Arrow 1) marks_left (λ is. tt)
      (either (is_mark_byte byte) (TokenHere Mark 0) (TokenHere Other 0) (λ is. tt) tt))))))))

  put_names : (end line : ℕ) (l : Lexeme) (later : ℕ → List Token) → Names l → ((more : ℕ) → AllByRecursion IsToken (later more)) → AllByRecursion IsToken (put_lexeme end line byte after l later)
  put_names end line (Blank more) later here rest = rest more
  put_names end line (TokenHere Plain more) later here rest = (λ plain. here, rest more)
  put_names end line (TokenHere Escaped more) later here rest = (λ plain. absurd (cc), rest more)
  put_names end line (TokenHere Number more) later here rest = (λ plain. absurd (cc), rest more)
  put_names end line (TokenHere Arrow more) later here rest = (λ plain. absurd (cc), rest more)
  put_names end line (TokenHere Mark more) later here rest = (λ plain. absurd (cc), rest more)
  put_names end line (TokenHere Other more) later here rest = (λ plain. absurd (cc), rest more)
  put_names end line Open later here rest = (λ plain. absurd (cc), tt)

tokens_names : (end behind : ℕ) (fresh : Bool) (line : ℕ) (bytes : List ℕ) → AllByRecursion IsToken (tokens_from end behind fresh line bytes)
tokens_names end behind fresh line [] = tt
tokens_names end (suc behind) fresh line (byte ∷ after) = tokens_names end behind (stays_fresh fresh byte) (next_line line byte) after
tokens_names end zero fresh line (byte ∷ after) =
    put_names byte after end line (lexeme fresh byte after) (λ more. tokens_from end more (stays_fresh fresh byte) (next_line line byte) after) (lexeme_names byte after fresh)
    (λ more. tokens_names end more (stays_fresh fresh byte) (next_line line byte) after)

pub all_tokens : (text : List ℕ) → AllByRecursion IsToken (tokens text)
all_tokens text = tokens_names (end_line text) 0 true 1 text

-- an index behind a name
digits_bytes : (digits : List ℕ) → all_ascii_digits digits ≡ true → list_all is_name_byte digits ≡ true
digits_bytes [] all = refl
digits_bytes (d ∷ ds) all =
    let parts = and_parts (is_ascii_digit d) (all_ascii_digits ds) all in
    and_from (is_name_byte d) (list_all is_name_byte ds) (digit_byte d parts.0) (digits_bytes ds parts.1)

bracketed : (name digits : List ℕ) → IsTrue (is_name name) → list_all is_name_byte digits ≡ true → IsTrue (is_name (name ++ 91 ∷ (digits ++ 93 ∷ [])))
bracketed name digits named all =
    let e : name ++ 91 ∷ (digits ++ 93 ∷ []) ≡ (name ++ 91 ∷ digits) ++ 93 ∷ [] = simp append_assoc in
    subst (λ n. IsTrue (is_name n)) (sym e)
    (named_end (name ++ 91 ∷ digits) 93 (list_all-append is_name_byte name (91 ∷ digits) ∙ (ap (λ b. b && list_all is_name_byte (91 ∷ digits)) (name_all name named) ∙ all)) refl refl)

pub indexed_named : (name digits : List ℕ) → IsTrue (is_name name) → IsTrue (is_number digits) → IsTrue (is_name (name ++ 91 ∷ (digits ++ 93 ∷ [])))
indexed_named name digits named number =
    bracketed name digits named (digits_bytes digits (all_digits number))
  where
    all_digits : IsTrue (is_number digits) → all_ascii_digits digits ≡ true
    all_digits number = (and_parts _ (all_ascii_digits digits) number).1

small_digit : (n : ℕ) → n < 10 → is_name_byte (48 + n) ≡ true
small_digit n small = grind (arith, nat_tests, common_steps)

digits_within_bytes : (k n : ℕ) → list_all is_name_byte (digits_within k n) ≡ true
digits_within_bytes zero n = refl
digits_within_bytes (suc k) n = go (nat_lt n 10) refl (digits_within_bytes k (n / 10))
  where
    small_rest : n % 10 < 10
    small_rest = omega arith

    go : (b : Bool) → nat_lt n 10 ≡ b → list_all is_name_byte (digits_within k (n / 10)) ≡ true → list_all is_name_byte (if b then (48 + n) ∷ [] else digits_within k (n / 10) ++ (48 + n % 10) ∷ []) ≡ true
    go true e rest = let small = ltb-true n 10 e in ap (λ c. c && true) (small_digit n small)
    go false e rest = list_all-append is_name_byte (digits_within k (n / 10)) ((48 + n % 10) ∷ []) ∙ (ap (λ c. c && list_all is_name_byte ((48 + n % 10) ∷ [])) rest ∙ ap (λ c. c && true) (small_digit (n % 10) small_rest))

pub bit_named : (name : List ℕ) (k : ℕ) → IsTrue (is_name name) → IsTrue (is_name (name ++ 91 ∷ (index_text k ++ 93 ∷ [])))
bit_named name k named = bracketed name (index_text k) named (digits_within_bytes (suc k) k)

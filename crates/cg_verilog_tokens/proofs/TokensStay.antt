-- A token holds no blank, so what stands behind it stands on its line and behind more than blanks.
use Rattle.std.proofs.Common.{◌≡◌, ℕ, suc, ◌+◌, ◌==◌, Bool, true, false, not, ◌&&◌, List, [], ◌∷◌, take, cond, refl, ap, ◌∙◌, sym, subst, arith, Option, None, Some}
use Rattle.std.specs.Prelude.{slice_index}
use Rattle.std.specs.List.{list_all}
use Rattle.std.proofs.lemmas.Bool.Decides.{nat_tests}
use Rattle.cg_text.specs.Blanks.{is_white_space}
use Rattle.cg_verilog_text.specs.Lexeme.{based_length, closed, closed_by, closing_length, is_digit, is_in_number, is_in_word, is_letter, is_mark_byte, lexeme, run_length, skips_line}
use Rattle.cg_verilog_text.specs.Tokens.{next_line, stays_fresh}
use Rattle.cg_verilog_text.specs.declared.kind.Kind.{Kind}
use Rattle.cg_verilog_text.specs.declared.kind.Kind.TheVariants as kinds
use Rattle.cg_verilog_text.specs.declared.lexeme.Lexeme.{Lexeme}
use Rattle.cg_verilog_text.specs.declared.lexeme.Lexeme.TheVariants as lexemes
use Rattle.cg_verilog_tokens.specs.Passing.{passed_fresh, passed_line}

-- whether a byte is no blank
abbrev dark : ℕ → Bool
dark byte = not (is_white_space byte)

left : (a b : Bool) → (a && b) ≡ true → a ≡ true
left true b is = refl
left false b is = absurd (cc)

right : (a b : Bool) → (a && b) ≡ true → b ≡ true
right true b is = is
right false b is = absurd (cc)

both : (a b : Bool) → a ≡ true → b ≡ true → (a && b) ≡ true
both true b is more = more
both false b is more = absurd (cc)

word_dark : (byte : ℕ) → is_in_word byte ≡ true → dark byte ≡ true
word_dark byte is = grind (arith, nat_tests)

number_dark : (byte : ℕ) → is_in_number byte ≡ true → dark byte ≡ true
number_dark byte is = grind (arith, nat_tests)

digit_dark : (byte : ℕ) → is_digit byte ≡ true → dark byte ≡ true
digit_dark byte is = grind (arith, nat_tests)

quote_dark : (byte : ℕ) → (byte == 39) ≡ true → dark byte ≡ true
quote_dark byte is = grind (arith, nat_tests)

equals_dark : (byte : ℕ) → (byte == 61) ≡ true → dark byte ≡ true
equals_dark byte is = grind (arith, nat_tests)

-- a run of bytes that are no blanks
run_dark : (test : ℕ → Bool) → ((byte : ℕ) → test byte ≡ true → dark byte ≡ true) → (after : List ℕ) → list_all dark (take (run_length test after) after) ≡ true
run_dark test fine [] = refl
run_dark test fine (byte ∷ after) = step (test byte) refl (run_dark test fine after)
  where
    step : (b : Bool) → test byte ≡ b → list_all dark (take (run_length test after) after) ≡ true → list_all dark (take (cond b (1 + run_length test after) 0) (byte ∷ after)) ≡ true
    step false is rest = refl
    step true is rest =
        let more : 1 + run_length test after ≡ suc (run_length test after) = omega arith in
        subst (λ n. list_all dark (take n (byte ∷ after)) ≡ true) (sym more) (both (dark byte) (list_all dark (take (run_length test after) after)) (fine byte is) rest)

-- the rest of a number
based_dark : (after : List ℕ) → list_all dark (take (based_length after) after) ≡ true
based_dark [] = refl
based_dark (byte ∷ after) = step (is_digit byte) (byte == 39) refl refl (based_dark after)
  where
    longer : (n : ℕ) → dark byte ≡ true → list_all dark (take n after) ≡ true → list_all dark (take (1 + n) (byte ∷ after)) ≡ true
    longer n is rest =
        let more : 1 + n ≡ suc n = omega arith in
        subst (λ n. list_all dark (take n (byte ∷ after)) ≡ true) (sym more) (both (dark byte) (list_all dark (take n after)) is rest)

    step : (b q : Bool) → is_digit byte ≡ b → (byte == 39) ≡ q → list_all dark (take (based_length after) after) ≡ true
        → list_all dark (take (cond b (1 + based_length after) (cond q (1 + run_length is_in_number after) 0)) (byte ∷ after)) ≡ true
    step true q is quoted rest = longer (based_length after) (digit_dark byte is) rest
    step false true is quoted rest = longer (run_length is_in_number after) (quote_dark byte quoted) (run_dark is_in_number number_dark after)
    step false false is quoted rest = refl

-- the byte behind the `<` of an arrow
arrow_dark : (after : List ℕ) → (slice_index after 0 == 61) ≡ true → list_all dark (take 1 after) ≡ true
arrow_dark [] is = refl
arrow_dark (byte ∷ after) is = both (dark byte) true (equals_dark byte is) refl

-- the bytes of a token behind its first
abbrev IsDark : List ℕ → Lexeme → Type 0
IsDark after (lexemes.Token kind more) = list_all dark (take more after) ≡ true
IsDark after lexeme = Unit {0}

closed_dark : (after : List ℕ) (found : Option ℕ) → IsDark after (closed found)
closed_dark after None = tt
closed_dark after (Some more) = tt

comment_dark : (last : ℕ) (after : List ℕ) → IsDark after (closed_by last after)
comment_dark last [] = tt
comment_dark last (star ∷ after) = closed_dark (star ∷ after) (closing_length last false after)

-- one of two lexemes
either : (after : List ℕ) (b : Bool) (this other : Lexeme) → (b ≡ true → IsDark after this) → IsDark after other → IsDark after (cond b this other)
either after true this other is later = is refl
either after false this other is later = later

lexeme_dark : (fresh : Bool) (byte : ℕ) (after : List ℕ) → IsDark after (lexeme fresh byte after)
lexeme_dark fresh byte after =
    either after (is_white_space byte) _ _ (λ is. tt)
    (either after (skips_line fresh byte after) _ _ (λ is. tt)
    (either after (byte == 47 && slice_index after 0 == 42) _ _ (λ is. comment_dark 47 after)
    (either after (byte == 40 && slice_index after 0 == 42) _ _ (λ is. comment_dark 41 after)
    (either after (is_letter byte) _ _ (λ is. run_dark is_in_word word_dark after)
    (either after (byte == 92) _ _ (λ is. run_dark (λ b. not (is_white_space b)) (λ b is. is) after)
    (either after (is_digit byte) _ _ (λ is. based_dark after)
    (either after (byte == 60 && slice_index after 0 == 61) _ _ (λ is. arrow_dark after (right (byte == 60) (slice_index after 0 == 61) is))
    (either after (is_mark_byte byte) (lexemes.Token kinds.Mark 0) (lexemes.Token kinds.Other 0) (λ is. refl) refl))))))))

-- the first byte of a token is no blank
abbrev is_token : Lexeme → Bool
is_token (lexemes.Token kind more) = true
is_token lexeme = false

first_dark : (fresh : Bool) (byte : ℕ) (after : List ℕ) → is_token (lexeme fresh byte after) ≡ true → dark byte ≡ true
first_dark fresh byte after = go (is_white_space byte) _ refl
  where
    go : (b : Bool) (other : Lexeme) → is_white_space byte ≡ b → is_token (cond b (lexemes.Blank 0) other) ≡ true → dark byte ≡ true
    go true other is token = absurd (cc)
    go false other is token = ap not is

-- behind bytes that are no blanks
dark_line : (line byte : ℕ) → dark byte ≡ true → next_line line byte ≡ line
dark_line line byte is = grind (arith, nat_tests)

dark_fresh : (fresh : Bool) (byte : ℕ) → dark byte ≡ true → stays_fresh fresh byte ≡ false
dark_fresh fresh byte is = grind (arith, nat_tests)

lines_stay : (line : ℕ) (bytes : List ℕ) → list_all dark bytes ≡ true → passed_line line bytes ≡ line
lines_stay line [] all = refl
lines_stay line (byte ∷ bytes) all =
    ap (λ (n : ℕ). passed_line n bytes) (dark_line line byte (left (dark byte) (list_all dark bytes) all)) ∙ lines_stay line bytes (right (dark byte) (list_all dark bytes) all)

none_fresh : (bytes : List ℕ) → list_all dark bytes ≡ true → passed_fresh false bytes ≡ false
none_fresh [] all = refl
none_fresh (byte ∷ bytes) all =
    ap (λ (b : Bool). passed_fresh b bytes) (dark_fresh false byte (left (dark byte) (list_all dark bytes) all)) ∙ none_fresh bytes (right (dark byte) (list_all dark bytes) all)

token_dark : (fresh : Bool) (byte : ℕ) (after : List ℕ) (kind : Kind) (more : ℕ) → lexemes.Token kind more ≡ lexeme fresh byte after → list_all dark (byte ∷ take more after) ≡ true
token_dark fresh byte after kind more is =
    both (dark byte) (list_all dark (take more after)) (first_dark fresh byte after (ap is_token (sym is)))
    (subst (IsDark after) (sym is) (lexeme_dark fresh byte after))

pub token_line : (fresh : Bool) (line byte : ℕ) (after : List ℕ) (kind : Kind) (more : ℕ) → lexemes.Token kind more ≡ lexeme fresh byte after → passed_line line (byte ∷ take more after) ≡ line
token_line fresh line byte after kind more is = lines_stay line (byte ∷ take more after) (token_dark fresh byte after kind more is)

pub token_fresh : (fresh : Bool) (byte : ℕ) (after : List ℕ) (kind : Kind) (more : ℕ) → lexemes.Token kind more ≡ lexeme fresh byte after → passed_fresh fresh (byte ∷ take more after) ≡ false
token_fresh fresh byte after kind more is =
    let all = token_dark fresh byte after kind more is in
    ap (λ (b : Bool). passed_fresh b (take more after)) (dark_fresh fresh byte (left (dark byte) (list_all dark (take more after)) all)) ∙ none_fresh (take more after) (right (dark byte) (list_all dark (take more after)) all)

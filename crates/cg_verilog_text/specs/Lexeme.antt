-- What begins at a byte of a text, and how long it is.
use Rattle.std.specs.Prelude.{ℕ, ◌+◌, ◌==◌, Bool, false, not, cond, ◌&&◌, ◌||◌, nat_le, List, [], ◌∷◌, slice_index, codes, Option, None, Some}
use Rattle.std.specs.Prelude.{option_map}
use Rattle.std.specs.List.{list_any}
use Rattle.cg_text.specs.Blanks.{is_line_feed, is_white_space}
use Rattle.cg_verilog_text.specs.declared.kind.Kind.TheVariants.{Plain, Escaped, Number, Arrow, Mark, Other}
use Rattle.cg_verilog_text.specs.declared.lexeme.Lexeme.{Lexeme}
use Rattle.cg_verilog_text.specs.declared.lexeme.Lexeme.TheVariants.{Blank, Token, Open}

-- a letter or `_`; a digit; what may follow a letter in a word, and what may follow `'` in a number
abbrev pub is_letter : ℕ → Bool
is_letter byte = (nat_le 97 byte && nat_le byte 122) || ((nat_le 65 byte && nat_le byte 90) || byte == 95)

abbrev pub is_digit : ℕ → Bool
is_digit byte = nat_le 48 byte && nat_le byte 57

abbrev pub is_in_number : ℕ → Bool
is_in_number byte = is_letter byte || is_digit byte

abbrev pub is_in_word : ℕ → Bool
is_in_word byte = is_in_number byte || byte == 36

-- one of `( ) ; , . [ ] : = ~ & | ^ ? @`
abbrev pub marks : List ℕ
marks = codes "();,.[]:=~&|^?@"

abbrev pub is_mark_byte : ℕ → Bool
is_mark_byte byte = list_any (λ mark. byte == mark) marks

-- the number of bytes at the front that pass a test
abbrev pub run_length : (ℕ → Bool) → List ℕ → ℕ
run_length test [] = 0
run_length test (byte ∷ after) = cond (test byte) (1 + run_length test after) 0

-- the number of bytes up to and with a `*` and this byte behind it; `starred`: the byte before is a `*`
abbrev pub closing_length : ℕ → Bool → List ℕ → Option ℕ
closing_length last starred [] = None
closing_length last starred (byte ∷ after) =
    cond (starred && byte == last) (Some 1) (option_map (λ k. 1 + k) (closing_length last (byte == 42) after))

-- a comment or an attribute of this last byte, behind its first byte
abbrev pub closed : Option ℕ → Lexeme
closed None = Open
closed (Some more) = Blank (1 + more)

abbrev pub closed_by : ℕ → List ℕ → Lexeme
closed_by last [] = Open
closed_by last (star ∷ after) = closed (closing_length last false after)

-- a number behind its first digit: digits, and `'` with letters and digits behind them or not
abbrev pub based_length : List ℕ → ℕ
based_length [] = 0
based_length (byte ∷ after) = cond (is_digit byte) (1 + based_length after) (cond (byte == 39) (1 + run_length is_in_number after) 0)

-- what is skipped up to the end of the line: a comment, and a line whose first byte behind blanks is a backquote
abbrev pub skips_line : Bool → ℕ → List ℕ → Bool
skips_line fresh byte after = (byte == 47 && slice_index after 0 == 47) || (byte == 96 && fresh)

-- what begins at a byte, with the number of its bytes behind the first; `fresh`: only blanks stand before it on its line
abbrev pub lexeme : Bool → ℕ → List ℕ → Lexeme
lexeme fresh byte after =
    cond (is_white_space byte) (Blank 0)
    (cond (skips_line fresh byte after) (Blank (run_length (λ b. not (is_line_feed b)) after))
    (cond (byte == 47 && slice_index after 0 == 42) (closed_by 47 after)
    (cond (byte == 40 && slice_index after 0 == 42) (closed_by 41 after)
    (cond (is_letter byte) (Token Plain (run_length is_in_word after))
    (cond (byte == 92) (Token Escaped (run_length (λ b. not (is_white_space b)) after))
    (cond (is_digit byte) (Token Number (based_length after))
    (cond (byte == 60 && slice_index after 0 == 61) (Token Arrow 1)
    (cond (is_mark_byte byte) (Token Mark 0)
    (Token Other 0)))))))))

-- The words and signs of the text of an expression.
use Rattle.std.specs.Prelude.{ℕ, ◌+◌, Bool, true, false, ◌&&◌, ◌||◌, ◌==◌, nat_le, if◌then◌else◌, List, [], ◌∷◌}
use Rattle.std.specs.List.{take_while}
use Rattle.cg_text.specs.Blanks.{is_white_space}

-- what a token is
pub data TokenKind : Type 0 where
  Word : List ℕ → TokenKind
  OrSign : TokenKind
  AndSign : TokenKind
  XorSign : TokenKind
  NotSign : TokenKind
  PrimeSign : TokenKind
  OpenBracket : TokenKind
  CloseBracket : TokenKind
  Other : TokenKind

-- a token, and the place of its first byte
pub record Token : Type 0 where
  pub at : ℕ
  pub kind : TokenKind

abbrev pub is_digit : ℕ → Bool
is_digit byte = nat_le 48 byte && nat_le byte 57

-- a letter or `_`
abbrev pub is_letter : ℕ → Bool
is_letter byte = (nat_le 65 byte && nat_le byte 90) || (nat_le 97 byte && nat_le byte 122) || byte == 95

-- a byte of a word: a letter, a digit, `_`, `[`, `]` or `.`
abbrev pub is_word_byte : ℕ → Bool
is_word_byte byte = is_letter byte || is_digit byte || byte == 91 || byte == 93 || byte == 46

-- the sign that a byte is: `+` and `|`, `*` and `&`, `^`, `!`, `'`, `(` and `)`
abbrev pub sign_of : ℕ → TokenKind
sign_of byte =
    if byte == 43 || byte == 124 then OrSign
    else (if byte == 42 || byte == 38 then AndSign
    else (if byte == 94 then XorSign
    else (if byte == 33 then NotSign
    else (if byte == 39 then PrimeSign
    else (if byte == 40 then OpenBracket
    else (if byte == 41 then CloseBracket
    else Other))))))

-- the tokens of a text, whose first byte is at the place: a word is the longest run of its bytes, and begins
-- behind no other of them; white space separates; every other byte is a token
abbrev pub tokens_from : Bool → ℕ → List ℕ → List Token
tokens_from inside at [] = []
tokens_from inside at (byte ∷ bytes) =
    if is_word_byte byte then (
    if inside then tokens_from true (at + 1) bytes
    else record { at = at; kind = Word (byte ∷ take_while is_word_byte bytes) } ∷ tokens_from true (at + 1) bytes)
    else (
    if is_white_space byte then tokens_from false (at + 1) bytes
    else record { at = at; kind = sign_of byte } ∷ tokens_from false (at + 1) bytes)

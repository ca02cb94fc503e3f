-- What begins at a byte of a Liberty text, and how long it is.
use Rattle.std.specs.Prelude.{ℕ, ◌+◌, ◌==◌, Bool, false, cond, not, ◌&&◌, ◌||◌, List, [], ◌∷◌, slice_index, ◌≤◌, Option, None, Some}
use Rattle.std.specs.Prelude.{option_map}
use Rattle.cg_text.specs.Blanks.{is_white_space}
use Rattle.cg_liberty_text.specs.declared.lexeme.Kind.{Kind}
use Rattle.cg_liberty_text.specs.declared.lexeme.Kind.TheVariants.{OpenBrace, CloseBrace, OpenParen, CloseParen, Colon, Semicolon}
use Rattle.cg_liberty_text.specs.declared.lexeme.Kind.TheVariants.{Comma, Quoted, Word}
use Rattle.cg_liberty_text.specs.declared.lexeme.Lexeme.{Lexeme}
use Rattle.cg_liberty_text.specs.declared.lexeme.Lexeme.TheVariants.{Blank, LineEnd, Token, Bad}

-- one of `{ } ( ) : ; ,`
abbrev pub is_mark : ℕ → Bool
is_mark byte = byte == 123 || (byte == 125 || (byte == 40 || (byte == 41 || (byte == 58 || (byte == 59 || byte == 44)))))

abbrev pub mark_kind : ℕ → Kind
mark_kind byte =
    cond (byte == 123) OpenBrace (cond (byte == 125) CloseBrace (cond (byte == 40) OpenParen (cond (byte == 41) CloseParen
    (cond (byte == 58) Colon (cond (byte == 59) Semicolon Comma)))))

-- one of the bytes that a join may have between its `\` and its line end: a space, tab or CR
abbrev pub is_join_blank : ℕ → Bool
is_join_blank byte = byte == 32 || (byte == 9 || byte == 13)

-- whether a comment begins with a byte before the bytes that follow
abbrev pub begins_comment : ℕ → List ℕ → Bool
begins_comment byte after = byte == 47 && (slice_index after 0 == 42 || slice_index after 0 == 47)

-- a count that goes on for so many more
abbrev pub longer : ℕ → Option ℕ → Option ℕ
longer n count = option_map (λ k. n + k) count

-- a join: the number of bytes behind its `\`, up to and with the line end
abbrev pub join_length : List ℕ → Option ℕ
join_length [] = None
join_length (byte ∷ after) = cond (byte == 10) (Some 1) (cond (is_join_blank byte) (longer 1 (join_length after)) None)

-- whether a byte of a string escapes the next one, and whether it ends the string; one that is escaped does neither
abbrev pub escapes : Bool → ℕ → Bool
escapes escaped byte = not escaped && byte == 92

abbrev pub closes : Bool → ℕ → Bool
closes escaped byte = not escaped && byte == 34

-- a string: the number of bytes behind its first `"` and before its last
abbrev pub quoted_length : Bool → List ℕ → Option ℕ
quoted_length escaped [] = None
quoted_length escaped (byte ∷ after) = cond (closes escaped byte) (Some 0) (longer 1 (quoted_length (escapes escaped byte) after))

-- a comment: the number of bytes behind its `/*`, up to and with the `*/`
abbrev pub comment_length : Bool → List ℕ → Option ℕ
comment_length starred [] = None
comment_length starred (byte ∷ after) = cond (starred && byte == 47) (Some 1) (longer 1 (comment_length (byte == 42) after))

-- the rest of a line: the number of bytes before the next line end
abbrev pub line_length : List ℕ → ℕ
line_length [] = 0
line_length (byte ∷ after) = cond (byte == 10) 0 (1 + line_length after)

-- whether a word ends before a byte
abbrev pub ends_word : ℕ → List ℕ → Bool
ends_word byte after = is_white_space byte || (is_mark byte || (byte == 34 || (byte == 92 || begins_comment byte after)))

-- the rest of a word: the number of bytes before what ends it
abbrev pub word_length : List ℕ → ℕ
word_length [] = 0
word_length (byte ∷ after) = cond (ends_word byte after) 0 (1 + word_length after)

-- a lexeme of a known length, or none where the text ends before it does
abbrev pub closed : (ℕ → Lexeme) → Option ℕ → Lexeme
closed lexeme None = Bad
closed lexeme (Some more) = lexeme more

-- the comment behind its first `/`
abbrev pub comment_lexeme : List ℕ → Lexeme
comment_lexeme [] = Bad
comment_lexeme (byte ∷ after) =
    cond (byte == 42) (closed Blank (longer 1 (comment_length false after))) (Blank (1 + line_length after))

-- what begins at a byte, with the number of its bytes after the first
abbrev pub lexeme : ℕ → List ℕ → Lexeme
lexeme byte after =
    cond (byte == 10) LineEnd
    (cond (is_white_space byte) (Blank 0)
    (cond (byte == 92) (closed Blank (join_length after))
    (cond (begins_comment byte after) (comment_lexeme after)
    (cond (byte == 34) (closed (Token Quoted) (longer 1 (quoted_length false after)))
    (cond (is_mark byte) (Token (mark_kind byte) 0)
    (Token Word (word_length after)))))))

-- a lexeme that ends within so many bytes
abbrev pub IsWithin : ℕ → Lexeme → Type 0
IsWithin room (Blank more) = more ≤ room
IsWithin room LineEnd = Unit {0}
IsWithin room (Token kind more) = more ≤ room
IsWithin room Bad = Unit {0}

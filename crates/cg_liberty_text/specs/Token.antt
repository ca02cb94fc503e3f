-- The tokens of a Liberty text.
use Rattle.std.specs.Prelude.{ℕ, zero, suc, ◌+◌, ◌-◌, Bool, true, false, List, [], ◌∷◌, take}
use Rattle.cg_liberty_text.specs.Lexeme.{lexeme}
use Rattle.cg_liberty_text.specs.Text.{unescaped}
use Rattle.cg_liberty_text.specs.declared.lexeme.Kind.{Kind}
use Rattle.cg_liberty_text.specs.declared.lexeme.Kind.TheVariants as kinds
use Rattle.cg_liberty_text.specs.declared.lexeme.Lexeme.{Lexeme}
use Rattle.cg_liberty_text.specs.declared.lexeme.Lexeme.TheVariants as lexemes
use Rattle.cg_liberty_text.specs.declared.token.Token.{Token}

-- the text of a token, `more` being the number of its bytes after the first: that of a string is without its quotes
abbrev pub token_text : Kind → ℕ → ℕ → List ℕ → List ℕ
token_text kinds.Quoted more byte after = unescaped 0 (take (more - 1) after)
token_text _ more byte after = byte ∷ take more after

-- what a lexeme adds before the tokens that come later, which depend on how many bytes are left of it and on whether a line end
-- stands before them
abbrev pub put_lexeme : Bool → ℕ → ℕ → List ℕ → Lexeme → (ℕ → Bool → List Token) → List Token
put_lexeme fresh at byte after lexemes.LineEnd later = later 0 true
put_lexeme fresh at byte after (lexemes.Blank more) later = later more fresh
put_lexeme fresh at byte after (lexemes.Token kind more) later =
    record { kind = kind; at = at; text = token_text kind more byte after; fresh = fresh } ∷ later more false
put_lexeme fresh at byte after lexemes.Bad later = record { kind = kinds.Bad; at = at; text = []; fresh = fresh } ∷ []

-- the tokens of the bytes from a place on, of which some still belong to the lexeme before; a bad token is the last one
abbrev pub tokens_from : ℕ → Bool → ℕ → List ℕ → List Token
tokens_from behind fresh at [] = []
tokens_from (suc behind) fresh at (byte ∷ after) = tokens_from behind fresh (at + 1) after
tokens_from zero fresh at (byte ∷ after) =
    put_lexeme fresh at byte after (lexeme byte after) (λ more ended. tokens_from more ended (at + 1) after)

-- the tokens of a text
abbrev pub tokens : List ℕ → List Token
tokens bytes = tokens_from 0 false 0 bytes

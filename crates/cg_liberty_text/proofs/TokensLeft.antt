-- Tokens from a place on.
use Rattle.std.proofs.Common.{◌≡◌, ℕ, zero, suc, ◌+◌, Bool, true, false, List, [], ◌∷◌, drop, refl, ap, arith}
use Rattle.cg_liberty_text.specs.Lexeme.{lexeme}
use Rattle.cg_liberty_text.specs.Token.{token_text, tokens_from}
use Rattle.cg_liberty_text.specs.declared.lexeme.Kind.{Kind}
use Rattle.cg_liberty_text.specs.declared.lexeme.Kind.TheVariants as kinds
use Rattle.cg_liberty_text.specs.declared.lexeme.Lexeme.TheVariants as lexemes
use Rattle.cg_liberty_text.specs.declared.token.Token.{Token}

-- bytes that were read are as good as dropped
pub tokens_behind : (behind : ℕ) (fresh : Bool) (at : ℕ) (bytes : List ℕ) → tokens_from behind fresh at bytes ≡ tokens_from 0 fresh (at + behind) (drop behind bytes)
tokens_behind zero fresh at bytes = let e : at ≡ at + 0 = omega arith in rw (← e) refl
tokens_behind (suc behind) fresh at [] = refl
tokens_behind (suc behind) fresh at (byte ∷ after) =
    let e : (at + 1) + behind ≡ at + suc behind = omega arith in rw (← e) (tokens_behind behind fresh (at + 1) after)

-- a line end makes what follows fresh
pub line_end_step : (fresh : Bool) (at byte : ℕ) (rest after : List ℕ) → rest ≡ byte ∷ after → lexemes.LineEnd ≡ lexeme byte after → tokens_from 0 fresh at rest ≡ tokens_from 0 true (at + 1) after
line_end_step fresh at byte rest after split is = rw split (rw (← is) refl)

-- a blank is passed over
pub blank_step : (fresh : Bool) (at byte more : ℕ) (rest after : List ℕ) → rest ≡ byte ∷ after → lexemes.Blank more ≡ lexeme byte after → tokens_from 0 fresh at rest ≡ tokens_from 0 fresh (at + 1 + more) (drop more after)
blank_step fresh at byte more rest after split is = rw split (rw (← is) (tokens_behind more fresh (at + 1) after))

-- a token stands before the others
pub token_step : (fresh : Bool) (at byte more : ℕ) (kind : Kind) (rest after : List ℕ) → rest ≡ byte ∷ after → lexemes.Token kind more ≡ lexeme byte after → tokens_from 0 fresh at rest ≡ record { kind = kind; at = at; text = token_text kind more byte after; fresh = fresh } ∷ tokens_from 0 false (at + 1 + more) (drop more after)
token_step fresh at byte more kind rest after split is = rw split (rw (← is) (ap (λ (later : List Token). record { kind = kind; at = at; text = token_text kind more byte after; fresh = fresh } ∷ later) (tokens_behind more false (at + 1) after)))

-- a bad token is the last
pub bad_step : (fresh : Bool) (at byte : ℕ) (rest after : List ℕ) → rest ≡ byte ∷ after → lexemes.Bad ≡ lexeme byte after → tokens_from 0 fresh at rest ≡ record { kind = kinds.Bad; at = at; text = []; fresh = fresh } ∷ []
bad_step fresh at byte rest after split is = rw split (rw (← is) refl)

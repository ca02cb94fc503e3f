-- Tokens from a place on.
use Rattle.std.proofs.Common.{◌≡◌, ℕ, zero, suc, Bool, List, [], ◌∷◌, drop, take, refl, ap}
use Rattle.cg_verilog_text.specs.Lexeme.{lexeme}
use Rattle.cg_verilog_text.specs.Tokens.{Token, next_line, stays_fresh, token_text, tokens_from}
use Rattle.cg_verilog_text.specs.declared.kind.Kind.{Kind}
use Rattle.cg_verilog_text.specs.declared.lexeme.Lexeme.TheVariants as lexemes
use Rattle.cg_verilog_tokens.specs.Passing.{passed_fresh, passed_line}

-- bytes that were read are as good as dropped
pub tokens_behind : (end behind : ℕ) (fresh : Bool) (line : ℕ) (bytes : List ℕ) → tokens_from end behind fresh line bytes ≡ tokens_from end 0 (passed_fresh fresh (take behind bytes)) (passed_line line (take behind bytes)) (drop behind bytes)
tokens_behind end zero fresh line bytes = refl
tokens_behind end (suc behind) fresh line [] = refl
tokens_behind end (suc behind) fresh line (byte ∷ after) = tokens_behind end behind (stays_fresh fresh byte) (next_line line byte) after

-- a blank is passed over
pub blank_step : (end : ℕ) (fresh : Bool) (line byte more : ℕ) (rest after : List ℕ) → rest ≡ byte ∷ after → lexemes.Blank more ≡ lexeme fresh byte after
    → tokens_from end 0 fresh line rest ≡ tokens_from end 0 (passed_fresh fresh (byte ∷ take more after)) (passed_line line (byte ∷ take more after)) (drop more after)
blank_step end fresh line byte more rest after split is = rw split (rw (← is) (tokens_behind end more (stays_fresh fresh byte) (next_line line byte) after))

-- a token stands before the others
pub token_step : (end : ℕ) (fresh : Bool) (line byte more : ℕ) (kind : Kind) (rest after : List ℕ) → rest ≡ byte ∷ after → lexemes.Token kind more ≡ lexeme fresh byte after
    → tokens_from end 0 fresh line rest ≡ record { line = line; kind = kind; text = token_text kind more byte after } ∷ tokens_from end 0 (passed_fresh fresh (byte ∷ take more after)) (passed_line line (byte ∷ take more after)) (drop more after)
token_step end fresh line byte more kind rest after split is =
    rw split (rw (← is) (ap (λ (later : List Token). record { line = line; kind = kind; text = token_text kind more byte after } ∷ later) (tokens_behind end more (stays_fresh fresh byte) (next_line line byte) after)))

-- Arguments and values are read up to where they end.
use Rattle.std.proofs.Common.{◌≡◌, ℕ, Bool, true, false, cond, not, ◌&&◌, List, [], ◌∷◌, refl, Result, Ok, Err}
use Rattle.cg_liberty_text.specs.Argument.{behind_arguments, behind_value, ends_value, is_close_paren, is_in_value, is_semicolon}
use Rattle.cg_liberty_text.specs.Argument.{may_follow, unexpected}
use Rattle.cg_liberty_text.specs.Statement.{Read, begun, faulty, statements}
use Rattle.cg_liberty_text.specs.Statement.Phase.{Listed, Listing, Start, Valued}
use Rattle.cg_liberty_text.specs.declared.fault.TextFault.{TextFault}
use Rattle.cg_liberty_text.specs.declared.lexeme.Kind.{Kind}
use Rattle.cg_liberty_text.specs.declared.token.Token.{Token}

-- the statements of the tokens that are left, where there are any
abbrev pub go_on : Result (List Token) TextFault → (List Token → Read) → Read
go_on (Ok left) later = later left
go_on (Err fault) later = faulty fault

listing_step : (end depth : ℕ) (word : Token) (texts : List (List ℕ)) (kind : Kind) (after : List Token) (fault : TextFault) (may closes : Bool) → statements end depth (Listing word texts kind) after ≡ go_on (behind_arguments end kind after) (statements end depth (Listed word texts)) → cond may (statements end depth (cond closes (Listed word texts) (Listing word texts kind)) after) (faulty fault) ≡ go_on (cond may (cond closes (Ok after) (behind_arguments end kind after)) (Err fault)) (statements end depth (Listed word texts))
listing_step end depth word texts kind after fault true true later = refl
listing_step end depth word texts kind after fault true false later = later
listing_step end depth word texts kind after fault false closes later = refl

pub listing : (end depth : ℕ) (word : Token) (texts : List (List ℕ)) (before : Kind) (tokens : List Token) → statements end depth (Listing word texts before) tokens ≡ go_on (behind_arguments end before tokens) (statements end depth (Listed word texts))
listing end depth word texts before [] = refl
listing end depth word texts before (token ∷ after) =
    listing_step end depth word texts token.kind after (unexpected token) (may_follow before token.kind) (is_close_paren token.kind) (listing end depth word texts token.kind after)

valued_step : (end depth : ℕ) (token : Token) (after : List Token) (ends takes may : Bool) → statements end depth Valued after ≡ go_on (behind_value after) (statements end depth Start) → cond ends (cond takes (statements end depth Start after) (begun depth token (λ inside next. statements end inside next after))) (cond may (statements end depth Valued after) (faulty (unexpected token))) ≡ go_on (cond ends (Ok (cond takes after (token ∷ after))) (cond may (behind_value after) (Err (unexpected token)))) (statements end depth Start)
valued_step end depth token after true true may later = refl
valued_step end depth token after true false may later = refl
valued_step end depth token after false takes true later = later
valued_step end depth token after false takes false later = refl

pub valued : (end depth : ℕ) (tokens : List Token) → statements end depth Valued tokens ≡ go_on (behind_value tokens) (statements end depth Start)
valued end depth [] = refl
valued end depth (token ∷ after) =
    valued_step end depth token after (ends_value token) (not token.fresh && is_semicolon token.kind) (is_in_value token.kind) (valued end depth after)

-- Kinds of tokens, and the arguments and values that tokens spell.
use Rattle.std.specs.Prelude.{ℕ, Bool, true, false, cond, not, ◌&&◌, ◌||◌, List, [], ◌∷◌, Option, None, Some, Result, Ok, Err}
use Rattle.cg_liberty_text.specs.declared.fault.TextFault.{TextFault}
use Rattle.cg_liberty_text.specs.declared.fault.TextFault.TheVariants.{BadToken, BadGroup}
use Rattle.cg_liberty_text.specs.declared.lexeme.Kind.{Kind}
use Rattle.cg_liberty_text.specs.declared.lexeme.Kind.TheVariants as kinds
use Rattle.cg_liberty_text.specs.declared.token.Token.{Token}

abbrev pub is_open_brace : Kind → Bool
is_open_brace kinds.OpenBrace = true
is_open_brace _ = false

abbrev pub is_close_brace : Kind → Bool
is_close_brace kinds.CloseBrace = true
is_close_brace _ = false

abbrev pub is_open_paren : Kind → Bool
is_open_paren kinds.OpenParen = true
is_open_paren _ = false

abbrev pub is_close_paren : Kind → Bool
is_close_paren kinds.CloseParen = true
is_close_paren _ = false

abbrev pub is_colon : Kind → Bool
is_colon kinds.Colon = true
is_colon _ = false

abbrev pub is_semicolon : Kind → Bool
is_semicolon kinds.Semicolon = true
is_semicolon _ = false

abbrev pub is_comma : Kind → Bool
is_comma kinds.Comma = true
is_comma _ = false

abbrev pub is_word : Kind → Bool
is_word kinds.Word = true
is_word _ = false

abbrev pub is_bad : Kind → Bool
is_bad kinds.Bad = true
is_bad _ = false

-- a word or a string
abbrev pub is_text : Kind → Bool
is_text kinds.Word = true
is_text kinds.Quoted = true
is_text _ = false

-- the fault of a token that may not stand where it does
abbrev pub unexpected : Token → TextFault
unexpected token = cond (is_bad token.kind) (BadToken token.at) (BadGroup token.at)

-- the texts of the arguments that begin behind a `(`
abbrev pub argument_texts : List Token → List (List ℕ)
argument_texts [] = []
argument_texts (token ∷ after) =
    cond (is_close_paren token.kind) [] (cond (is_text token.kind) (token.text ∷ argument_texts after) (argument_texts after))

-- whether a token may follow another among arguments: a `,` only behind a word or string, a `)` not behind a `,`
abbrev pub may_follow : Kind → Kind → Bool
may_follow before kind = is_text kind || (is_comma kind && is_text before || is_close_paren kind && not (is_comma before))

-- what stands behind the `)` of the arguments that go on here behind a token of a kind
abbrev pub behind_arguments : ℕ → Kind → List Token → Result (List Token) TextFault
behind_arguments end before [] = Err (BadGroup end)
behind_arguments end before (token ∷ after) =
    cond (may_follow before token.kind) (cond (is_close_paren token.kind) (Ok after) (behind_arguments end token.kind after))
    (Err (unexpected token))

-- whether a value ends before a token: at a line end, a `;` or a `}`
abbrev pub ends_value : Token → Bool
ends_value token = token.fresh || (is_semicolon token.kind || is_close_brace token.kind)

-- whether a token may stand in a value
abbrev pub is_in_value : Kind → Bool
is_in_value kind = is_text kind || (is_open_paren kind || (is_close_paren kind || (is_comma kind || is_colon kind)))

-- whether nothing more belongs to a value
abbrev pub is_value_over : List Token → Bool
is_value_over [] = true
is_value_over (token ∷ after) = ends_value token

-- the text of the value that begins here, where it is one word or one string
abbrev pub value_text : List Token → Option (List ℕ)
value_text [] = None
value_text (token ∷ after) = cond (not (ends_value token) && (is_text token.kind && is_value_over after)) (Some token.text) None

-- what stands behind the value that goes on here; a `;` ends with it
abbrev pub behind_value : List Token → Result (List Token) TextFault
behind_value [] = Ok []
behind_value (token ∷ after) =
    cond (ends_value token) (Ok (cond (not token.fresh && is_semicolon token.kind) after (token ∷ after)))
    (cond (is_in_value token.kind) (behind_value after) (Err (unexpected token)))

-- The grammar of a Liberty text, over its tokens.
use Rattle.std.specs.Prelude.{◌≡◌, ◌≢◌, ◌⊎◌, ◌+◌, ◌-◌, ℕ, zero, suc, cond, false, IsTrue, List, [], ◌∷◌, ◌++◌, length, codes}
use Rattle.std.specs.Prelude.{Option, None, Some}
use Rattle.std.specs.List.{AllByRecursion, flat_map}
use Rattle.cg_limit.specs.declared.TheConstants.{MOST_NESTING}
use Rattle.cg_liberty_text.specs.Argument.{is_in_value, is_text}
use Rattle.cg_liberty_text.specs.declared.lexeme.Kind.TheVariants as kinds
use Rattle.cg_liberty_text.specs.declared.statement.Statement.{Statement}
use Rattle.cg_liberty_text.specs.declared.statement.Statement.TheVariants.{Open, Close, Attribute}
use Rattle.cg_liberty_text.specs.declared.token.Token.{Token}

-- tokens in a row, and the statements that they stand for
pub record Piece : Type 0 where
  pub tokens : List Token
  pub statements : List Statement

-- pieces one behind the other
abbrev pub tokens_of : List Piece → List Token
tokens_of pieces = flat_map (λ piece. piece.tokens) pieces

abbrev pub statements_of : List Piece → List Statement
statements_of pieces = flat_map (λ piece. piece.statements) pieces

-- what may stand between two arguments: nothing, or one comma
abbrev pub IsGap : List Token → Type 0
IsGap [] = Unit {0}
IsGap (token ∷ []) = token.kind ≡ kinds.Comma
IsGap (token ∷ another ∷ more) = ⊥

-- arguments behind another one: words and strings with these texts, a gap before each
abbrev pub AreFurther : List (List ℕ) → List Token → Type 0
AreFurther [] tokens = tokens ≡ []
AreFurther (text ∷ texts) tokens =
    (gap : List Token) × (token : Token) × (after : List Token) × (tokens ≡ gap ++ token ∷ after) × IsGap gap
    × IsTrue (is_text token.kind) × (token.text ≡ text) × AreFurther texts after

-- arguments: words and strings with these texts, one comma between two or none, and none before the first or behind the last
abbrev pub AreArguments : List (List ℕ) → List Token → Type 0
AreArguments [] tokens = tokens ≡ []
AreArguments (text ∷ texts) tokens =
    (token : Token) × (after : List Token) × (tokens ≡ token ∷ after) × IsTrue (is_text token.kind) × (token.text ≡ text)
    × AreFurther texts after

-- the head of a group, or a complex attribute: a word, `(`, arguments and `)`
pub record IsHead (word : Token) (texts : List (List ℕ)) (tokens : List Token) : Type 0 where
  pub opening : Token
  pub arguments : List Token
  pub closing : Token
  pub named : word.kind ≡ kinds.Word
  pub opens : opening.kind ≡ kinds.OpenParen
  pub lists : AreArguments texts arguments
  pub closes : closing.kind ≡ kinds.CloseParen
  pub is : tokens ≡ word ∷ opening ∷ arguments ++ closing ∷ []

-- a lone `;` stands for nothing
pub record IsLone (piece : Piece) : Type 0 where
  pub mark : Token
  pub marks : mark.kind ≡ kinds.Semicolon
  pub is : piece.tokens ≡ mark ∷ []
  pub stands : piece.statements ≡ []

-- a token of a value: a word, a string, or one of `( ) , :`, on the line of the token before it
abbrev pub IsOfValue : Token → Type 0
IsOfValue token = (token.fresh ≡ false) × IsTrue (is_in_value token.kind)

-- a value ends with a `;` on its line, or before a token on another line, or before a `}`
abbrev pub EndsValue : List Token → List Token → Type 0
EndsValue [] [] = ⊥
EndsValue [] (token ∷ after) = IsTrue token.fresh ⊎ (token.kind ≡ kinds.CloseBrace)
EndsValue (token ∷ []) rest = (token.kind ≡ kinds.Semicolon) × (token.fresh ≡ false)
EndsValue (token ∷ another ∷ more) rest = ⊥

-- the text of a value that is one word or one string
abbrev pub lone_text : List Token → Option (List ℕ)
lone_text [] = None
lone_text (token ∷ []) = cond (is_text token.kind) (Some token.text) None
lone_text (token ∷ another ∷ more) = None

-- a simple attribute, before what stands behind it: a word, `:`, a value, and what ends this
pub record IsSimple (piece : Piece) (rest : List Token) : Type 0 where
  pub word : Token
  pub colon : Token
  pub value : List Token
  pub end : List Token
  pub named : word.kind ≡ kinds.Word
  pub marks : colon.kind ≡ kinds.Colon
  pub inside : AllByRecursion IsOfValue value
  pub ends : EndsValue end rest
  pub is : piece.tokens ≡ word ∷ colon ∷ value ++ end
  pub stands : piece.statements ≡ Attribute word.text (lone_text value) ∷ []

-- a token stands here, and it is no `{`
abbrev pub HasNoBody : List Token → Type 0
HasNoBody [] = ⊥
HasNoBody (token ∷ after) = token.kind ≢ kinds.OpenBrace

-- a complex attribute, before what stands behind it
pub record IsComplex (piece : Piece) (rest : List Token) : Type 0 where
  pub word : Token
  pub texts : List (List ℕ)
  pub head : IsHead word texts piece.tokens
  pub apart : HasNoBody rest
  pub stands : piece.statements ≡ Attribute word.text None ∷ []

-- directly in the library, whose group is one of the levels that may stand, a `cell` has one argument
abbrev pub FitsPlace : ℕ → Token → List (List ℕ) → Type 0
FitsPlace room word texts = room + 1 ≡ MOST_NESTING → word.text ≡ codes "cell" → length texts ≡ 1

-- a group, before what stands behind it: a head, `{`, statements in a row, and `}`
pub record IsGroup (room : ℕ) (InARow : List Piece → List Token → Type 0) (piece : Piece) (rest : List Token) : Type 0 where
  pub word : Token
  pub texts : List (List ℕ)
  pub front : List Token
  pub brace : Token
  pub pieces : List Piece
  pub last : Token
  pub head : IsHead word texts front
  pub place : FitsPlace room word texts
  pub opens : brace.kind ≡ kinds.OpenBrace
  pub inside : InARow pieces (last ∷ rest)
  pub closes : last.kind ≡ kinds.CloseBrace
  pub is : piece.tokens ≡ front ++ (brace ∷ tokens_of pieces ++ last ∷ [])
  pub stands : piece.statements ≡ Open word.text texts ∷ statements_of pieces ++ Close ∷ []

-- each piece in a row is of a kind, before those behind it and the rest
abbrev pub EachBefore : (Piece → List Token → Type 0) → List Piece → List Token → Type 0
EachBefore Is [] rest = Unit {0}
EachBefore Is (piece ∷ pieces) rest = Is piece (tokens_of pieces ++ rest) × EachBefore Is pieces rest

-- a statement without a body
abbrev pub IsPlain : Piece → List Token → Type 0
IsPlain piece rest = IsLone piece ⊎ (IsSimple piece rest ⊎ IsComplex piece rest)

-- a statement, before what stands behind it, where so many more levels of groups may stand
unfoldable pub Spells : ℕ → Piece → List Token → Type 0
Spells zero piece rest = IsPlain piece rest
Spells (suc room) piece rest = IsPlain piece rest ⊎ IsGroup (suc room) (EachBefore (Spells room)) piece rest

-- statements in a row, before what stands behind them
abbrev pub SpellsAll : ℕ → List Piece → List Token → Type 0
SpellsAll room pieces rest = EachBefore (Spells room) pieces rest

-- the whole text: one group `library`, and nothing behind it; it is the first level of groups
pub record SpellsLibrary (tokens : List Token) (statements : List Statement) : Type 0 where
  pub group : IsGroup MOST_NESTING (SpellsAll (MOST_NESTING - 1)) (record { tokens = tokens; statements = statements }) []
  pub named : group.word.text ≡ codes "library"

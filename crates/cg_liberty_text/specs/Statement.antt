-- The statements of a Liberty text, from its tokens.
use Rattle.std.specs.Prelude.{◌≡◌, ℕ, ◌+◌, ◌-◌, ◌==◌, ◌<◌, nat_lt, cond, not, ◌&&◌, ◌||◌, List, [], ◌∷◌, length, codes, Option}
use Rattle.std.specs.Prelude.{None, Some}
use Rattle.std.specs.Str.{bytes_eq}
use Rattle.cg_limit.specs.declared.TheConstants.{MOST_NESTING}
use Rattle.cg_liberty_text.specs.Argument.{argument_texts, ends_value, is_close_brace, is_close_paren, is_colon, is_in_value}
use Rattle.cg_liberty_text.specs.Argument.{is_open_brace, is_open_paren, is_semicolon, is_word, may_follow, unexpected, value_text}
use Rattle.cg_liberty_text.specs.declared.fault.TextFault.{TextFault}
use Rattle.cg_liberty_text.specs.declared.fault.TextFault.TheVariants.{BadGroup, Nesting}
use Rattle.cg_liberty_text.specs.declared.lexeme.Kind.{Kind}
use Rattle.cg_liberty_text.specs.declared.lexeme.Kind.TheVariants as kinds
use Rattle.cg_liberty_text.specs.declared.statement.Statement.{Statement}
use Rattle.cg_liberty_text.specs.declared.statement.Statement.TheVariants.{Open, Close, Attribute}
use Rattle.cg_liberty_text.specs.declared.token.Token.{Token}

-- what may come next
pub data Phase : Type 0 where
  Start : Phase  -- a statement
  Named : Token → Phase  -- behind the first word of a statement: `(` or `:`
  Listing : Token → List (List ℕ) → Kind → Phase  -- within its arguments, behind a token of a kind
  Listed : Token → List (List ℕ) → Phase  -- behind its arguments: `{`, or what follows a complex attribute
  Valued : Phase  -- within the value of a simple attribute
  Done : Phase  -- behind the library: nothing

-- statements, and the fault that ends them where there is one
abbrev pub Read : Type 0
Read = List Statement × Option TextFault

-- a statement before the others
abbrev pub put_statement : Statement → Read → Read
put_statement statement later = (statement ∷ later.0, later.1)

abbrev pub faulty : TextFault → Read
faulty fault = ([], Some fault)

-- the group that a `{` opens inside so many others: at most 64 nest, the file is a group `library`, and a `cell` directly in it has
-- one argument
abbrev pub opened : ℕ → Token → List (List ℕ) → Read → Read
opened depth word texts later =
    cond (depth == MOST_NESTING) (faulty Nesting)
    (cond (depth == 1 && (bytes_eq word.text (codes "cell") && not (length texts == 1))) (faulty (BadGroup word.at))
    (put_statement (Open word.text texts) later))

-- the statement that a token begins; `later` is what follows it, in so many open groups
abbrev pub begun : ℕ → Token → (ℕ → Phase → Read) → Read
begun depth token later =
    cond (is_word token.kind && (nat_lt 0 depth || bytes_eq token.text (codes "library"))) (later depth (Named token))
    (cond (is_semicolon token.kind && nat_lt 0 depth) (later depth Start)
    (cond (is_close_brace token.kind && nat_lt 0 depth) (put_statement Close (later (depth - 1) (cond (depth == 1) Done Start)))
    (faulty (unexpected token))))

-- what a token does in a phase; `after` are the tokens behind it
abbrev pub follow : ℕ → Phase → Token → List Token → (ℕ → Phase → Read) → Read
follow depth Start token after later = begun depth token later
follow depth (Named word) token after later =
    cond (is_open_paren token.kind) (later depth (Listing word (argument_texts after) kinds.OpenParen))
    (cond (is_colon token.kind && nat_lt 0 depth) (put_statement (Attribute word.text (value_text after)) (later depth Valued))
    (faulty (unexpected token)))
follow depth (Listing word texts before) token after later =
    cond (may_follow before token.kind)
    (later depth (cond (is_close_paren token.kind) (Listed word texts) (Listing word texts token.kind)))
    (faulty (unexpected token))
follow depth (Listed word texts) token after later =
    cond (is_open_brace token.kind) (opened depth word texts (later (depth + 1) Start))
    (cond (nat_lt 0 depth) (put_statement (Attribute word.text None) (begun depth token later))
    (faulty (unexpected token)))
follow depth Valued token after later =
    cond (ends_value token) (cond (not token.fresh && is_semicolon token.kind) (later depth Start) (begun depth token later))
    (cond (is_in_value token.kind) (later depth Valued)
    (faulty (unexpected token)))
follow depth Done token after later = faulty (unexpected token)

-- the end of a text of so many bytes
abbrev pub ended : ℕ → Phase → Read
ended end Done = ([], None)
ended end _ = faulty (BadGroup end)

-- the statements that the tokens spell inside so many open groups, up to the first fault; `end` is the length of the text
abbrev pub statements : ℕ → ℕ → Phase → List Token → Read
statements end depth phase [] = ended end phase
statements end depth phase (token ∷ after) = follow depth phase token after (λ inside next. statements end inside next after)

-- how many groups are open behind a statement, and what may come there
abbrev pub depth_behind : ℕ → Statement → ℕ
depth_behind depth (Open word texts) = depth + 1
depth_behind depth Close = depth - 1
depth_behind depth (Attribute word text) = depth

abbrev pub phase_behind : ℕ → Statement → Phase
phase_behind depth (Open word texts) = Start
phase_behind depth Close = cond (depth == 1) Done Start
phase_behind depth (Attribute word text) = Start

-- the statements from one on that is read from some tokens, where `left` are those behind it
abbrev pub Reads : ℕ → ℕ → Phase → List Token → List Token → Statement → Type 0
Reads end depth phase tokens left statement =
    statements end depth phase tokens
    ≡ put_statement statement (statements end (depth_behind depth statement) (phase_behind depth statement) left)

abbrev pub Refused : ℕ → ℕ → Phase → List Token → TextFault → Type 0
Refused end depth phase tokens fault = (statements end depth phase tokens).1 ≡ Some fault

-- how deep a statement may stand
abbrev pub FitsDepth : ℕ → Statement → Type 0
FitsDepth depth (Open word texts) = depth < MOST_NESTING
FitsDepth depth Close = 0 < depth
FitsDepth depth (Attribute word text) = Unit {0}

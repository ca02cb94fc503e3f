-- Where the text of a library has its first fault, by the grammar alone.
use Rattle.std.specs.Prelude.{◌≡◌, ◌⊎◌, ℕ, List, [], ◌∷◌, ◌++◌, length, codes}
use Rattle.cg_liberty_text.specs.Argument.{unexpected}
use Rattle.cg_liberty_text.specs.Grammar.{SpellsLibrary}
use Rattle.cg_liberty_text.specs.Token.{tokens}
use Rattle.cg_liberty_text.specs.declared.fault.TextFault.{TextFault}
use Rattle.cg_liberty_text.specs.declared.fault.TextFault.TheVariants as texts
use Rattle.cg_liberty_text.specs.declared.lexeme.Kind.TheVariants as kinds
use Rattle.cg_liberty_text.specs.declared.statement.Statement.{Statement}
use Rattle.cg_liberty_text.specs.declared.token.Token.{Token}
use Rattle.cg_liberty.specs.declared.fault.LibertyFault.{LibertyFault}
use Rattle.cg_liberty.specs.declared.fault.LibertyFault.TheVariants as faults

-- these tokens can go on to a library
pub record CanGoOn (front : List Token) : Type 0 where
  pub more : List Token
  pub read : List Statement
  pub spelled : SpellsLibrary (front ++ more) read

-- with the first of the later tokens they cannot: no library begins so, whatever follows; where none is left, they are no library
abbrev pub NoneBegins : List Token → List Token → Type 0
NoneBegins front [] = (read : List Statement) → SpellsLibrary front read → ⊥
NoneBegins front (token ∷ later) = (more : List Token) (read : List Statement) → SpellsLibrary (front ++ token ∷ more) read → ⊥

-- a word `cell` among the tokens stands at the place
abbrev pub HasCellAt : List Token → ℕ → Type 0
HasCellAt front at =
    (ahead : List Token) × (word : Token) × (behind : List Token) × (front ≡ ahead ++ word ∷ behind) × (word.text ≡ codes "cell")
    × (word.at ≡ at)

-- a `{` opens too deep, or it opens a `cell` group that may not stand there, which is told at the group's word
abbrev pub IsRefusedOpening : List Token → Token → TextFault → Type 0
IsRefusedOpening front token fault =
    (token.kind ≡ kinds.OpenBrace) × ((fault ≡ texts.Nesting) ⊎ ((at : ℕ) × (fault ≡ texts.BadGroup at) × HasCellAt front at))

-- the fault that is told of the first later token, by its own place but for openings, or of the end of a text of so many bytes
abbrev pub IsTold : ℕ → List Token → List Token → TextFault → Type 0
IsTold end front [] fault = fault ≡ texts.BadGroup end
IsTold end front (token ∷ later) fault = (fault ≡ unexpected token) ⊎ IsRefusedOpening front token fault

-- tokens have this fault first: those before it can go on to a library, and with the one there they cannot
pub record FailsBy (end : ℕ) (tokens : List Token) (fault : TextFault) : Type 0 where
  pub front : List Token
  pub later : List Token
  pub split : tokens ≡ front ++ later
  pub before : CanGoOn front
  pub wrong : NoneBegins front later
  pub told : IsTold end front later fault

-- a refusal for a fault of the text is for its first one; one for a cell comes only where the text is one of the grammar
abbrev pub IsFirstLibertyFault : List ℕ → LibertyFault → Type 0
IsFirstLibertyFault text (faults.BadToken at) = FailsBy (length text) (tokens text) (texts.BadToken at)
IsFirstLibertyFault text (faults.BadGroup at) = FailsBy (length text) (tokens text) (texts.BadGroup at)
IsFirstLibertyFault text (faults.BadExpr name at) = (read : List Statement) × SpellsLibrary (tokens text) read
IsFirstLibertyFault text (faults.TwoCells name) = (read : List Statement) × SpellsLibrary (tokens text) read
IsFirstLibertyFault text (faults.Limit which) =
    FailsBy (length text) (tokens text) texts.Nesting ⊎ ((read : List Statement) × SpellsLibrary (tokens text) read)
IsFirstLibertyFault text faults.NoMemory = Unit {0}

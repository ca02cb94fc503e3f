-- The values of attributes, where they are read.
use Rattle.std.specs.Prelude.{◌≡◌, ℕ, List}
use Rattle.cg_liberty_text.specs.Argument.{value_text}
use Rattle.cg_liberty_text.specs.Statement.{statements}
use Rattle.cg_liberty_text.specs.Statement.Phase.{Start, Valued}
use Rattle.cg_liberty_text.specs.declared.statement.Statement.{Statement}
use Rattle.cg_liberty_text.specs.declared.statement.Statement.TheVariants.{Attribute}
use Rattle.cg_liberty_text.specs.declared.token.Token.{Token}

-- an attribute whose value begins with the tokens, before the statements that are read from those left behind it
abbrev pub ReadsValue : ℕ → ℕ → Token → List Token → List Token → Statement → Type 0
ReadsValue end depth word tokens left statement =
    (statement ≡ Attribute word.text (value_text tokens)) × (statements end depth Valued tokens ≡ statements end depth Start left)

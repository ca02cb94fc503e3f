-- What stands behind a `\` in a string.
use Rattle.std.specs.Prelude.{ℕ, List, ◌∷◌, ◌++◌, take}
use Rattle.std.specs.Option.{option_map_or}
use Rattle.cg_liberty_text.specs.Lexeme.{join_length}
use Rattle.cg_liberty_text.specs.Text.{unescaped}

-- what a `\` and the bytes after it stand for
abbrev pub escape : List ℕ → List ℕ
escape after = option_map_or (λ more. 32 ∷ unescaped more after) (join_length after) (take 1 after ++ unescaped 1 after)

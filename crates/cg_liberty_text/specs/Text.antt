-- The bytes that a word or a string stands for.
use Rattle.std.specs.Prelude.{ℕ, zero, suc, ◌==◌, Bool, true, false, cond, List, [], ◌∷◌, ◌++◌, take}
use Rattle.std.specs.Option.{option_map_or}
use Rattle.cg_liberty_text.specs.Lexeme.{join_length}

-- the bytes of a string, so many of them being behind a `\` that was read: a join is a space, and a `\` before another byte is that
-- byte
abbrev pub unescaped : ℕ → List ℕ → List ℕ
unescaped behind [] = []
unescaped (suc behind) (byte ∷ after) = unescaped behind after
unescaped zero (byte ∷ after) =
    cond (byte == 92) (option_map_or (λ more. 32 ∷ unescaped more after) (join_length after) (take 1 after ++ unescaped 1 after))
    (byte ∷ unescaped 0 after)

-- the bytes of a word, as they are, or of a string
abbrev pub content : Bool → List ℕ → List ℕ
content false raw = raw
content true raw = unescaped 0 raw

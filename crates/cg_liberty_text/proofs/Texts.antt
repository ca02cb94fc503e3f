-- Texts of strings.
use Rattle.std.proofs.Common.{◌≡◌, ◌==◌, ◌||◌, ℕ, zero, suc, Bool, true, false, cond, List, [], ◌∷◌, ◌++◌, take, drop, refl, ap}
use Rattle.std.proofs.Common.{Some}
use Rattle.std.specs.List.{list_any}
use Rattle.std.specs.Option.{option_map_or}
use Rattle.cg_liberty_text.specs.Lexeme.{join_length}
use Rattle.cg_liberty_text.specs.Text.{unescaped}
use Rattle.cg_liberty_text.specs.inner.Escapes.{escape}

-- bytes that were read are as good as dropped
pub unescaped_behind : (behind : ℕ) (bytes : List ℕ) → unescaped behind bytes ≡ unescaped 0 (drop behind bytes)
unescaped_behind zero bytes = refl
unescaped_behind (suc behind) [] = refl
unescaped_behind (suc behind) (byte ∷ after) = unescaped_behind behind after

-- a join stands for a space
pub escape_join : (after : List ℕ) (more : ℕ) → Some more ≡ join_length after → escape after ≡ 32 ∷ unescaped 0 (drop more after)
escape_join after more joined = rw (← joined) (ap (λ (t : List ℕ). 32 ∷ t) (unescaped_behind more after))

-- bytes without a `\` stand for themselves
pub plain_text : (raw : List ℕ) → list_any (λ byte. byte == 92) raw ≡ false → unescaped 0 raw ≡ raw
plain_text [] h = refl
plain_text (byte ∷ after) h = pick (byte == 92) (option_map_or (λ more. 32 ∷ unescaped more after) (join_length after) (take 1 after ++ unescaped 1 after)) h (plain_text after)
  where
    pick : (b : Bool) (escaped : List ℕ) → (b || list_any (λ byte. byte == 92) after) ≡ false → (list_any (λ byte. byte == 92) after ≡ false → unescaped 0 after ≡ after) → cond b escaped (byte ∷ unescaped 0 after) ≡ byte ∷ after
    pick true escaped h later = cc
    pick false escaped h later = ap (λ (t : List ℕ). byte ∷ t) (later h)

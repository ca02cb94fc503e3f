-- The tokens of written pieces of text.
use Rattle.std.proofs.Common.{[], ◌≡◌, ℕ, ◌+◌, ◌-◌, Bool, true, false, not, ◌&&◌, ◌||◌, List, ◌∷◌, ◌++◌, length, slice_get, take}
use Rattle.std.proofs.Common.{refl, ap, ◌∙◌, append_assoc, IsTrue, cond, if◌then◌else◌, arith}
use Rattle.std.specs.List.{AllByRecursion, list_all}
use Rattle.std.proofs.lemmas.Grind.{common_steps}
use Rattle.std.proofs.lemmas.Bool.{and_parts}
use Rattle.std.proofs.lemmas.Bool.Decides.{nat_tests}
use Rattle.cg_text.specs.Blanks.{is_line_feed, is_white_space}
use Rattle.cg_cell.specs.Name.{ends_name, is_name, is_name_byte}
use Rattle.cg_verilog_text.specs.Lexeme.{run_length}
use Rattle.cg_verilog_text.specs.Tokens.{next_line, tokens_from}
use Rattle.cg_verilog_text.specs.Written.{name_text}
use Rattle.cg_verilog_text.specs.declared.kind.Kind.TheVariants.{Escaped}

-- a byte that is no blank
abbrev pub Solid : ℕ → Type 0
Solid byte = is_white_space byte ≡ false

abbrev pub AreSolid : List ℕ → Type 0
AreSolid bytes = AllByRecursion Solid bytes

no_feed : (b : ℕ) → Solid b → is_line_feed b ≡ false
no_feed b solid = grind (arith, nat_tests, common_steps)

name_solid : (b : ℕ) → is_name_byte b ≡ true → Solid b
name_solid b is = grind (arith, nat_tests, common_steps)

run_name : (name rest : List ℕ) → AreSolid name → run_length (λ b. not (is_white_space b)) (name ++ 32 ∷ rest) ≡ length name
run_name [] rest solid = refl
run_name (b ∷ name) rest solid = ap (λ w. cond (not w) (1 + run_length (λ b. not (is_white_space b)) (name ++ 32 ∷ rest)) 0) solid.0 ∙ (ap (λ n. 1 + n) (run_name name rest solid.1) ∙ omega arith)

skip_name : (end line : ℕ) (name rest : List ℕ) → AreSolid name → tokens_from end (length name) false line (name ++ rest) ≡ tokens_from end 0 false line rest
skip_name end line [] rest solid = refl
skip_name end line (b ∷ name) rest solid =
    ap (λ f. tokens_from end (length name) f (next_line line b) (name ++ rest)) (ap (λ f. f || (is_white_space b && false)) (no_feed b solid.0) ∙ ap (λ w. w && false) solid.0)
    ∙ (ap (λ f. tokens_from end (length name) false (if f then line + 1 else line) (name ++ rest)) (no_feed b solid.0) ∙ skip_name end line name rest solid.1)

take_name : (name rest : List ℕ) → take (length name) (name ++ rest) ≡ name
take_name name rest = grind (arith, common_steps)

pub name_is_solid : (name : List ℕ) → IsTrue (is_name name) → AreSolid name
name_is_solid name is = go name (and_parts (ends_name (slice_get name (length name - 1))) (list_all is_name_byte name) is).1
  where
    go : (bytes : List ℕ) → list_all is_name_byte bytes ≡ true → AreSolid bytes
    go [] all = tt
    go (b ∷ bytes) all = let parts = and_parts (is_name_byte b) (list_all is_name_byte bytes) all in (name_solid b parts.0, go bytes parts.1)

-- an escaped name and its blank are a token, whatever follows
pub solid_token : (end line : ℕ) (fresh : Bool) (name rest : List ℕ) → AreSolid name
    → tokens_from end 0 fresh line (name_text name ++ rest) ≡ record { line = line; kind = Escaped; text = name } ∷ tokens_from end 0 false line rest
solid_token end line fresh name rest solid =
    ap (λ bytes. tokens_from end 0 fresh line (92 ∷ bytes)) (append_assoc name (32 ∷ []) rest)
    ∙ (ap (λ n. record { line = line; kind = Escaped; text = take n (name ++ 32 ∷ rest) } ∷ tokens_from end n false line (name ++ 32 ∷ rest)) (run_name name rest solid)
    ∙ (ap (λ text. record { line = line; kind = Escaped; text = text } ∷ tokens_from end (length name) false line (name ++ 32 ∷ rest)) (take_name name (32 ∷ rest))
    ∙ ap (λ later. record { line = line; kind = Escaped; text = name } ∷ later) (skip_name end line name (32 ∷ rest) solid)))

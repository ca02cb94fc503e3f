-- What begins at the bytes with which tokens most often begin.
use Rattle.std.proofs.Common.{◌≡◌, ℕ, ◌==◌, Bool, true, false, not, ◌||◌, List, [], ◌∷◌, ap, arith, codes, cond, refl, sym, subst}
use Rattle.std.specs.Prelude.{slice_index}
use Rattle.std.specs.List.{AllByRecursion, list_any}
use Rattle.std.proofs.lemmas.Bool.Decides.{nat_tests}
use Rattle.cg_text.specs.Blanks.{is_white_space}
use Rattle.cg_verilog_text.specs.Lexeme.{closed_by, lexeme, run_length}
use Rattle.cg_verilog_text.specs.declared.kind.Kind.TheVariants.{Escaped, Mark}
use Rattle.cg_verilog_text.specs.declared.lexeme.Lexeme.TheVariants.{Token}
use Rattle.cg_verilog_tokens.specs.Beginnings.{is_lone_mark}

pub escaped_lexeme : (fresh : Bool) (byte : ℕ) (after : List ℕ) → byte ≡ 92 → lexeme fresh byte after ≡ Token Escaped (run_length (λ b. not (is_white_space b)) after)
escaped_lexeme fresh byte after is = subst (λ b. lexeme fresh b after ≡ Token Escaped (run_length (λ b. not (is_white_space b)) after)) (sym is) refl

same_byte : (a b : ℕ) → (a == b) ≡ true → a ≡ b
same_byte a b is = grind (arith, nat_tests)

-- a byte that is one of some of which each begins a mark
step : (fresh : Bool) (byte : ℕ) (after : List ℕ) (mark : ℕ) (b others : Bool) → lexeme fresh mark after ≡ Token Mark 0
    → (others ≡ true → lexeme fresh byte after ≡ Token Mark 0) → (byte == mark) ≡ b → (b || others) ≡ true → lexeme fresh byte after ≡ Token Mark 0
step fresh byte after mark true others here later same is = subst (λ b. lexeme fresh b after ≡ Token Mark 0) (sym (same_byte byte mark same)) here
step fresh byte after mark false others here later same is = later is

among : (fresh : Bool) (byte : ℕ) (after : List ℕ) (marks : List ℕ) → AllByRecursion (λ mark. lexeme fresh mark after ≡ Token Mark 0) marks
    → list_any (λ mark. byte == mark) marks ≡ true → lexeme fresh byte after ≡ Token Mark 0
among fresh byte after [] all is = absurd (cc)
among fresh byte after (mark ∷ marks) all is =
    step fresh byte after mark (byte == mark) (list_any (λ mark. byte == mark) marks) all.0 (among fresh byte after marks all.1) refl is

pub mark_lexeme : (fresh : Bool) (byte : ℕ) (after : List ℕ) → is_lone_mark byte ≡ true → lexeme fresh byte after ≡ Token Mark 0
mark_lexeme fresh byte after is =
    among fresh byte after (codes ");,.[]:=~&|^?@") (refl, (refl, (refl, (refl, (refl, (refl, (refl, (refl, (refl, (refl, (refl, (refl, (refl, (refl, tt)))))))))))))) is

-- a `(` with no `*` behind it
pub open_lexeme : (fresh : Bool) (byte : ℕ) (after : List ℕ) → byte ≡ 40 → (slice_index after 0 == 42) ≡ false → lexeme fresh byte after ≡ Token Mark 0
open_lexeme fresh byte after is other =
    subst (λ b. lexeme fresh b after ≡ Token Mark 0) (sym is) (ap (λ b. cond b (closed_by 41 after) (Token Mark 0)) other)

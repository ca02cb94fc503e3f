-- What stands before the first fault can go on to a library: tokens that complete it, whatever is open.
use Rattle.std.proofs.Common.{◌≡◌, ◌≤◌, ◌+◌, ◌-◌, ◌==◌, ℕ, zero, suc, nat_lt, Bool, true, false, cond, List, [], ◌∷◌, ◌++◌, codes}
use Rattle.std.proofs.Common.{Option, Some, refl, sym, ap, ◌∙◌, subst, lt-ltb, ne_eqb, arith}
use Rattle.cg_liberty_text.specs.Statement.{Phase}
use Rattle.cg_liberty_text.specs.Statement.Phase.{Done, Listed, Listing, Named, Start, Valued}
use Rattle.cg_liberty_text.specs.declared.lexeme.Kind.{Kind}
use Rattle.cg_liberty_text.specs.declared.lexeme.Kind.TheVariants as kinds
use Rattle.cg_liberty_text.specs.declared.token.Token.{Token}
use Rattle.cg_liberty.proofs.Stepping.{IsDone, State, at, run, step}

abbrev pub mark : Kind → Token
mark kind = record { kind = kind; at = 0; text = []; fresh = false }

-- a `}` for each open group
abbrev pub closers : ℕ → List Token
closers zero = []
closers (suc depth) = mark kinds.CloseBrace ∷ closers depth

brace_step : (depth : ℕ) → 1 ≤ depth → step depth Start (mark kinds.CloseBrace) ≡ Some (at (depth - 1) (cond (depth == 1) Done Start))
brace_step depth inside = let deep : nat_lt 0 depth ≡ true = lt-ltb 0 depth inside in rw deep refl

closes : (d depth : ℕ) → depth ≡ d + 1 → IsDone (run (Some (at depth Start)) (closers (suc d)))
closes zero depth is =
    let inside : 1 ≤ depth = omega arith in
    let last : step depth Start (mark kinds.CloseBrace) ≡ Some (at 0 Done) = brace_step depth inside ∙ ap (λ (n : ℕ). Some (at (n - 1) (cond (n == 1) Done Start))) is in
    subst (λ (o : Option State). IsDone (run o [])) (sym last) refl
closes (suc d) depth is =
    let inside : 1 ≤ depth = omega arith in
    let less : depth - 1 ≡ d + 1 = omega arith in
    let more : (depth == 1) ≡ false = ne_eqb depth 1 (λ same. omega arith) in
    let next : step depth Start (mark kinds.CloseBrace) ≡ Some (at (depth - 1) Start) = brace_step depth inside ∙ ap (λ (b : Bool). Some (at (depth - 1) (cond b Done Start))) more in
    subst (λ (o : Option State). IsDone (run o (closers (suc d)))) (sym next) (closes d (depth - 1) less)

-- tokens that complete a library
pub record Completes (s : State) : Type 0 where
  pub more : List Token
  pub done : IsDone (run (Some s) more)

from_depth : (d depth : ℕ) → depth ≡ d + 1 → Completes (at depth Start)
from_depth d depth is = record { more = closers (suc d); done = closes d depth is }

library_word : Token
library_word = record { kind = kinds.Word; at = 0; text = codes "library"; fresh = false }

from_start : (depth : ℕ) → Completes (at depth Start)
unfolding library_word
from_start zero = record { more = library_word ∷ mark kinds.OpenParen ∷ mark kinds.CloseParen ∷ mark kinds.OpenBrace ∷ mark kinds.CloseBrace ∷ []; done = refl }
from_start (suc d) = from_depth d (suc d) (omega arith)

mark_step : (depth : ℕ) (word : Token) (texts : List (List ℕ)) → 1 ≤ depth → step depth (Listed word texts) (mark kinds.Semicolon) ≡ Some (at depth Start)
mark_step depth word texts inside = let deep : nat_lt 0 depth ≡ true = lt-ltb 0 depth inside in rw deep refl

from_listed : (depth : ℕ) (word : Token) (texts : List (List ℕ)) → Completes (at depth (Listed word texts))
from_listed zero word texts = record { more = mark kinds.OpenBrace ∷ mark kinds.CloseBrace ∷ []; done = refl }
from_listed (suc d) word texts =
    let inside : 1 ≤ suc d = omega arith in
    let later : Completes (at (suc d) Start) = from_start (suc d) in
    record {
      more = mark kinds.Semicolon ∷ later.more;
      done = subst (λ (o : Option State). IsDone (run o later.more)) (sym (mark_step (suc d) word texts inside)) later.done;
    }

from_listing : (depth : ℕ) (word : Token) (texts : List (List ℕ)) (before : Kind) → Completes (at depth (Listing word texts before))
from_listing depth word texts before =
    let later : Completes (at depth (Listed word (texts ++ [] ∷ []))) = from_listed depth word (texts ++ [] ∷ []) in
    record { more = mark kinds.Word ∷ mark kinds.CloseParen ∷ later.more; done = later.done }

from_named : (depth : ℕ) (word : Token) → Completes (at depth (Named word))
from_named depth word =
    let later : Completes (at depth (Listing word [] kinds.OpenParen)) = from_listing depth word [] kinds.OpenParen in
    record { more = mark kinds.OpenParen ∷ later.more; done = later.done }

from_value : (depth : ℕ) → 1 ≤ depth → Completes (at depth Valued)
from_value zero inside = absurd (omega arith)
from_value (suc d) inside = record { more = closers (suc d); done = closes d (suc d) (omega arith) }

-- a value stands in a group
abbrev pub IsInside : ℕ → Phase → Type 0
IsInside depth Valued = 1 ≤ depth
IsInside depth _ = Unit {0}

pub completed : (depth : ℕ) (phase : Phase) → IsInside depth phase → Completes (at depth phase)
completed depth Start inside = from_start depth
completed depth (Named word) inside = from_named depth word
completed depth (Listing word texts before) inside = from_listing depth word texts before
completed depth (Listed word texts) inside = from_listed depth word texts
completed depth Valued inside = from_value depth inside
completed depth Done inside = record { more = []; done = refl }

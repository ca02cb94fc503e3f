-- Operands of a node, one after another.
use Rattle.std.proofs.Common.{◌≡◌, ℕ, zero, suc, Bool, true, false, not, ◌+◌, ◌%◌, ◌<◌, List, ◌∷◌, length, get_or, drop, map}
use Rattle.std.proofs.Common.{IsTrue, ◌&&◌, ◌||◌, refl, ap, sym, ◌∙◌, add-one, drop-cons, arith}
use Rattle.cg_cell.specs.Gates.{all_of, any_of, exclusive_or, inverted, odd_of}
use Rattle.cg_cell.specs.Expr.{all_over, is_over}
use Rattle.cg_cell.specs.declared.expr.Expr.{Expr}
use Rattle.cg_cell.proofs.Terms.{not_not}

-- what a function gives at what is left of a list
map-drop : {X Y : Type 0} (f : X → Y) (xs : List X) (i : ℕ) (d : X) → i < length xs → map f (drop i xs) ≡ f (get_or xs i d) ∷ map f (drop (i + 1) xs)
map-drop f xs i d h = rw (add-one, drop-cons xs i d) refl

pub all_of-drop : {X : Type 0} (f : X → Bool) (xs : List X) (i : ℕ) (d : X) → i < length xs → all_of (map f (drop i xs)) ≡ (f (get_or xs i d) && all_of (map f (drop (i + 1) xs)))
all_of-drop f xs i d h = ap all_of (map-drop f xs i d h)

pub any_of-drop : {X : Type 0} (f : X → Bool) (xs : List X) (i : ℕ) (d : X) → i < length xs → any_of (map f (drop i xs)) ≡ (f (get_or xs i d) || any_of (map f (drop (i + 1) xs)))
any_of-drop f xs i d h = ap any_of (map-drop f xs i d h)

pub odd_of-drop : {X : Type 0} (f : X → Bool) (xs : List X) (i : ℕ) (d : X) → i < length xs → odd_of (map f (drop i xs)) ≡ exclusive_or (f (get_or xs i d)) (odd_of (map f (drop (i + 1) xs)))
odd_of-drop f xs i d h = ap odd_of (map-drop f xs i d h)

-- both of two tests
pub both-first : (a b : Bool) → IsTrue (a && b) → IsTrue a
both-first true b h = refl
both-first false b h = h

pub both-second : (a b : Bool) → IsTrue (a && b) → IsTrue b
both-second true b h = h
both-second false b h = cc

-- the next operand is over the variables, and so are those behind it
pub all_over-next : (n : ℕ) (es : List Expr) (i : ℕ) (d : Expr) → i < length es → IsTrue (all_over n (drop i es)) → IsTrue (is_over n (get_or es i d))
all_over-next n es i d h over = both-first (is_over n (get_or es i d)) (all_over n (drop (i + 1) es)) (sym (all_of-drop (is_over n) es i d h) ∙ over)

pub all_over-later : (n : ℕ) (es : List Expr) (i : ℕ) (d : Expr) → i < length es → IsTrue (all_over n (drop i es)) → IsTrue (all_over n (drop (i + 1) es))
all_over-later n es i d h over = both-second (is_over n (get_or es i d)) (all_over n (drop (i + 1) es)) (sym (all_of-drop (is_over n) es i d h) ∙ over)

-- an even number of inversions is none, and an odd number is one
pub record Parity (n : ℕ) (bit : Bool) : Type 0 where
  pub even : n % 2 ≡ 0 → inverted n bit ≡ bit
  pub odd : n % 2 ≡ 1 → inverted n bit ≡ not bit

pub parity : (n : ℕ) (bit : Bool) → Parity n bit
parity zero bit = record { even = λ _. refl; odd = λ e. cc }
parity (suc n) bit = let before = parity n bit in record {
  even = λ e. ap not (before.odd (omega arith)) ∙ not_not bit;
  odd = λ e. ap not (before.even (omega arith));
}

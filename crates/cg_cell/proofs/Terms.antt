-- An expression and its term say the same.
use Rattle.std.proofs.Common.{◌≡◌, ℕ, zero, suc, Bool, true, false, not, ◌&&◌, ◌||◌, List, [], ◌∷◌, map, refl, ap, sym, ◌∙◌, subst}
use Rattle.cg_cell.specs.Gates.{all_of, any_of, exclusive_or, inverted, odd_of}
use Rattle.cg_cell.specs.Term.{Term, Bit, Both, Either, Differ, has_input, inverse_times, is_within, join_all, join_left}
use Rattle.cg_cell.specs.Term.{term_value}
use Rattle.cg_cell.specs.Expr.{expr_value, is_over, names_step, names_variable, over_step, term_of, term_step, value_step}
use Rattle.cg_cell.specs.declared.expr.Expr.{Expr}
use Rattle.cg_cell.specs.declared.expr.Expr.TheOpen.{Expr-F, Constant, Variable, Not, And, Or, Xor}
use Rattle.cg_cell.specs.declared.expr.Expr.TheFolds.{fold-roll-Expr, ind-Expr, map-Expr}
use Rattle.std.proofs.Math.Bool.{and-true, or-false}

abbrev from_left : (Bool → Bool → Bool) → Bool → List Bool → Bool
from_left f a [] = a
from_left f a (b ∷ bs) = from_left f (f a b) bs

-- a test that goes down both operands of an operator goes down those of a level
join_left-test : (test : Term → Bool) (operator : Term → Term → Term) (f : Bool → Bool → Bool) → ((s t : Term) → test (operator s t) ≡ f (test s) (test t))
    → (t : Term) (ts : List Term) → test (join_left operator t ts) ≡ from_left f (test t) (map test ts)
join_left-test test operator f down t [] = refl
join_left-test test operator f down t (u ∷ us) = join_left-test test operator f down (operator t u) us ∙ ap (λ a. from_left f a (map test us)) (down t u)

and_assoc : (a b c : Bool) → (a && b) && c ≡ (a && (b && c))
and_assoc true b c = refl
and_assoc false b c = refl

or_assoc : (a b c : Bool) → (a || b) || c ≡ (a || (b || c))
or_assoc true b c = refl
or_assoc false b c = refl

pub not_not : (a : Bool) → not (not a) ≡ a
not_not true = refl
not_not false = refl

pub differ_assoc : (a b c : Bool) → exclusive_or (exclusive_or a b) c ≡ exclusive_or a (exclusive_or b c)
differ_assoc true true c = sym (not_not c)
differ_assoc true false c = refl
differ_assoc false b c = refl

pub differ_false : (a : Bool) → exclusive_or a false ≡ a
differ_false true = refl
differ_false false = refl

from_left-all : (a : Bool) (bs : List Bool) → from_left (λ x y. x && y) a bs ≡ (a && all_of bs)
from_left-all a [] = sym (and-true a)
from_left-all a (b ∷ bs) = from_left-all (a && b) bs ∙ and_assoc a b (all_of bs)

from_left-any : (a : Bool) (bs : List Bool) → from_left (λ x y. x || y) a bs ≡ (a || any_of bs)
from_left-any a [] = sym (or-false a)
from_left-any a (b ∷ bs) = from_left-any (a || b) bs ∙ or_assoc a b (any_of bs)

from_left-odd : (a : Bool) (bs : List Bool) → from_left exclusive_or a bs ≡ exclusive_or a (odd_of bs)
from_left-odd a [] = sym (differ_false a)
from_left-odd a (b ∷ bs) = from_left-odd (exclusive_or a b) bs ∙ differ_assoc a b (odd_of bs)

join-all : (test : Term → Bool) (operator : Term → Term → Term) (none : Term) → test none ≡ true → ((s t : Term) → test (operator s t) ≡ (test s && test t))
    → (ts : List Term) → test (join_all operator none ts) ≡ all_of (map test ts)
join-all test operator none e down [] = e
join-all test operator none e down (t ∷ ts) = join_left-test test operator (λ x y. x && y) down t ts ∙ from_left-all (test t) (map test ts)

join-any : (test : Term → Bool) (operator : Term → Term → Term) (none : Term) → test none ≡ false → ((s t : Term) → test (operator s t) ≡ (test s || test t))
    → (ts : List Term) → test (join_all operator none ts) ≡ any_of (map test ts)
join-any test operator none e down [] = e
join-any test operator none e down (t ∷ ts) = join_left-test test operator (λ x y. x || y) down t ts ∙ from_left-any (test t) (map test ts)

join-odd : (test : Term → Bool) (operator : Term → Term → Term) (none : Term) → test none ≡ false → ((s t : Term) → test (operator s t) ≡ exclusive_or (test s) (test t))
    → (ts : List Term) → test (join_all operator none ts) ≡ odd_of (map test ts)
join-odd test operator none e down [] = e
join-odd test operator none e down (t ∷ ts) = join_left-test test operator exclusive_or down t ts ∙ from_left-odd (test t) (map test ts)

times-value : (bits : List Bool) (n : ℕ) (t : Term) → term_value bits (inverse_times n t) ≡ inverted n (term_value bits t)
times-value bits zero t = refl
times-value bits (suc n) t = ap not (times-value bits n t)

times-within : (m n : ℕ) (t : Term) → is_within m (inverse_times n t) ≡ is_within m t
times-within m zero t = refl
times-within m (suc n) t = times-within m n t

times-has : (k n : ℕ) (t : Term) → has_input k (inverse_times n t) ≡ has_input k t
times-has k zero t = refl
times-has k (suc n) t = times-has k n t

-- an expression and its term have one value, one range and the same inputs
pub record SaysTerm (e : Expr) : Type 0 where
  pub value : (bits : List Bool) → expr_value bits e ≡ term_value bits (term_of e)
  pub over : (n : ℕ) → is_over n e ≡ is_within n (term_of e)
  pub names : (k : ℕ) → names_variable k e ≡ has_input k (term_of e)

abbrev Told : Type 0
Told = (e : Expr) × SaysTerm e

abbrev plain : List Told → List Expr
plain es = map (λ e. e.0) es

told-values : (bits : List Bool) (es : List Told) → map (expr_value bits) (plain es) ≡ map (term_value bits) (map term_of (plain es))
told-values bits [] = refl
told-values bits (e ∷ es) = ap (λ b. b ∷ map (expr_value bits) (plain es)) (e.1.value bits) ∙ ap (λ bs. term_value bits (term_of e.0) ∷ bs) (told-values bits es)

told-over : (n : ℕ) (es : List Told) → map (is_over n) (plain es) ≡ map (is_within n) (map term_of (plain es))
told-over n [] = refl
told-over n (e ∷ es) = ap (λ b. b ∷ map (is_over n) (plain es)) (e.1.over n) ∙ ap (λ bs. is_within n (term_of e.0) ∷ bs) (told-over n es)

told-names : (k : ℕ) (es : List Told) → map (names_variable k) (plain es) ≡ map (has_input k) (map term_of (plain es))
told-names k [] = refl
told-names k (e ∷ es) = ap (λ b. b ∷ map (names_variable k) (plain es)) (e.1.names k) ∙ ap (λ bs. has_input k (term_of e.0) ∷ bs) (told-names k es)

-- what the steps give at one layer, from what its operands say
record StepsAgree (x : Expr-F Expr) : Type 0 where
  value : (bits : List Bool) → value_step bits (map-Expr Expr Bool (expr_value bits) x) ≡ term_value bits (term_step (map-Expr Expr Term term_of x))
  over : (n : ℕ) → over_step n (map-Expr Expr Bool (is_over n) x) ≡ is_within n (term_step (map-Expr Expr Term term_of x))
  names : (k : ℕ) → names_step k (map-Expr Expr Bool (names_variable k) x) ≡ has_input k (term_step (map-Expr Expr Term term_of x))

steps_agree : (y : Expr-F Told) → StepsAgree (map-Expr Told Expr (λ e. e.0) y)
steps_agree (Constant bit) = record { value = λ bits. refl; over = λ n. refl; names = λ k. refl }
steps_agree (Variable k) = record { value = λ bits. refl; over = λ n. refl; names = λ k. refl }
steps_agree (Not signs e) = record {
  value = λ bits. ap (inverted signs) (e.value.1.value bits) ∙ sym (times-value bits signs (term_of e.value.0));
  over = λ n. e.value.1.over n ∙ sym (times-within n signs (term_of e.value.0));
  names = λ k. e.value.1.names k ∙ sym (times-has k signs (term_of e.value.0));
}
steps_agree (And es) = record {
  value = λ bits. ap all_of (told-values bits es.items) ∙ sym (join-all (term_value bits) Both (Bit true) refl (λ s t. refl) (map term_of (plain es.items)));
  over = λ n. ap all_of (told-over n es.items) ∙ sym (join-all (is_within n) Both (Bit true) refl (λ s t. refl) (map term_of (plain es.items)));
  names = λ k. ap any_of (told-names k es.items) ∙ sym (join-any (has_input k) Both (Bit true) refl (λ s t. refl) (map term_of (plain es.items)));
}
steps_agree (Or es) = record {
  value = λ bits. ap any_of (told-values bits es.items) ∙ sym (join-any (term_value bits) Either (Bit false) refl (λ s t. refl) (map term_of (plain es.items)));
  over = λ n. ap all_of (told-over n es.items) ∙ sym (join-all (is_within n) Either (Bit false) refl (λ s t. refl) (map term_of (plain es.items)));
  names = λ k. ap any_of (told-names k es.items) ∙ sym (join-any (has_input k) Either (Bit false) refl (λ s t. refl) (map term_of (plain es.items)));
}
steps_agree (Xor es) = record {
  value = λ bits. ap odd_of (told-values bits es.items) ∙ sym (join-odd (term_value bits) Differ (Bit false) refl (λ s t. refl) (map term_of (plain es.items)));
  over = λ n. ap all_of (told-over n es.items) ∙ sym (join-all (is_within n) Differ (Bit false) refl (λ s t. refl) (map term_of (plain es.items)));
  names = λ k. ap any_of (told-names k es.items) ∙ sym (join-any (has_input k) Differ (Bit false) refl (λ s t. refl) (map term_of (plain es.items)));
}

pub says_term : (e : Expr) → SaysTerm e
says_term = ind-Expr SaysTerm (λ x y is. let agree = subst StepsAgree is (steps_agree y) in record {
  value = λ bits. fold-roll-Expr Bool (value_step bits) x ∙ agree.value bits ∙ ap (term_value bits) (sym (fold-roll-Expr Term term_step x));
  over = λ n. fold-roll-Expr Bool (over_step n) x ∙ agree.over n ∙ ap (is_within n) (sym (fold-roll-Expr Term term_step x));
  names = λ k. fold-roll-Expr Bool (names_step k) x ∙ agree.names k ∙ ap (has_input k) (sym (fold-roll-Expr Term term_step x));
})

-- The place of the first of some parts that passes a test.
use Rattle.std.proofs.Common.{◌≡◌, ℕ, ◌+◌, ◌<◌, Bool, cond, List, length, drop, get_or, map, Some, sym, ap, ◌∙◌, add-one, drop-cons}
use Rattle.std.specs.List.{position_from}

-- what is left to look at from k on
pub position_from-drop : {A B : Type 0} (p : B → Bool) (view : A → B) (xs : List A) (k : ℕ) (d : A) → k < length xs
    → position_from p k (map view (drop k xs)) ≡ cond (p (view (get_or xs k d))) (Some k) (position_from p (k + 1) (map view (drop (k + 1) xs)))
position_from-drop p view xs k d below =
    ap (λ ys. position_from p k (map view ys)) (drop-cons xs k d below) ∙ ap (λ j. cond (p (view (get_or xs k d))) (Some k) (position_from p (k + 1) (map view (drop j xs)))) (sym (add-one k))

pub ruleset places = (position_from-drop)

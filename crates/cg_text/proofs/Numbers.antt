-- More digits make no smaller number.
use Rattle.std.proofs.Common.{◌≡◌, ℕ, ◌+◌, ◌-◌, ◌*◌, ◌<◌, ◌≤◌, List, [], ◌∷◌, length, get_or, drop, drop-cons, add-one, arith, sym}
use Rattle.std.proofs.Common.{◌∙◌, refl, ap}
use Rattle.std.proofs.Math.ListN.{drop_of_length-le}
use Rattle.cg_text.specs.Numbers.{digits_after}

pub digits_after_le : (n : ℕ) (ds : List ℕ) → n ≤ digits_after n ds
digits_after_le n [] = omega arith
digits_after_le n (c ∷ cs) = let later : 10 * n + (c - 48) ≤ digits_after (10 * n + (c - 48)) cs = digits_after_le (10 * n + (c - 48)) cs in omega arith

-- where one more digit passes a limit, all digits do
pub digits_after_over : (n total limit i : ℕ) (ds : List ℕ) → i < length ds → digits_after n (drop i ds) ≡ total
    → ¬ (10 * n + (get_or ds i 0 - 48) < limit) → ¬ (total < limit)
digits_after_over n total limit i ds inside value over below =
    let split : drop i ds ≡ get_or ds i 0 ∷ drop (i + 1) ds = rw (add-one, drop-cons ds i 0) refl in
    let later : 10 * n + (get_or ds i 0 - 48) ≤ digits_after (10 * n + (get_or ds i 0 - 48)) (drop (i + 1) ds) = digits_after_le (10 * n + (get_or ds i 0 - 48)) (drop (i + 1) ds) in
    let same : digits_after (10 * n + (get_or ds i 0 - 48)) (drop (i + 1) ds) ≡ total = sym (ap (digits_after n) split) ∙ value in
    over (omega arith)

-- where no digit is left, the number is there
pub digits_after_all : (n total i : ℕ) (ds : List ℕ) → length ds ≤ i → digits_after n (drop i ds) ≡ total → n ≡ total
digits_after_all n total i ds done value =
    let none : drop i ds ≡ [] = drop_of_length-le ds done in
    sym (ap (digits_after n) none) ∙ value

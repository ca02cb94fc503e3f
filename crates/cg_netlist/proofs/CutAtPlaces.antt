-- Lists that are cut at places: each part, and one part more.
use Rattle.std.proofs.Common.{◌≡◌, ◌<◌, ◌≤◌, ℕ, zero, suc, ◌+◌, ◌-◌, List, [], ◌∷◌, ◌++◌, refl, ◌∙◌, ap, arith, length}
use Rattle.std.specs.Prelude.{take, drop, get_or}
use Rattle.std.proofs.lemmas.List.{length-append, length-drop, take-append-le, drop-append-le, take_all}
use Rattle.std.proofs.Math.Seq.{drop-append_seam}
use Rattle.cg_netlist.specs.inner.CutAt.{EndsAt, cut_at}

-- there is a part for each place but the last
pub parts : {X : Type 0} (n : ℕ) (starts : List ℕ) (xs : List X) → EndsAt n starts → length (cut_at starts xs) + 1 ≡ length starts
parts n [] xs ends = absurd ends
parts n (start ∷ []) xs ends = refl
parts n (start ∷ end ∷ more) xs ends = let rest = parts n (end ∷ more) xs ends.1 in omega (arith, rest)

first_within : (n start : ℕ) (starts : List ℕ) → EndsAt n (start ∷ starts) → start ≤ n
first_within n start [] ends = omega (arith, ends)
first_within n start (end ∷ more) ends = omega (arith, ends.0, first_within n end more ends.1)

-- a part begins before it ends, and ends before the list does
pub record IsPart (n start end : ℕ) : Type 0 where
  pub rises : start ≤ end
  pub within : end ≤ n

pub part_within : (n : ℕ) (starts : List ℕ) (k : ℕ) → EndsAt n starts → suc k < length starts → IsPart n (get_or starts k 0) (get_or starts (suc k) 0)
part_within n [] k ends below = absurd ends
part_within n (start ∷ []) k ends below = absurd (omega arith)
part_within n (start ∷ end ∷ more) zero ends below = record { rises = ends.0; within = first_within n end more ends.1 }
part_within n (start ∷ end ∷ more) (suc k) ends below = part_within n (end ∷ more) k ends.1 (omega arith)

pub part_is : {X : Type 0} (n : ℕ) (starts : List ℕ) (xs : List X) (k : ℕ) → EndsAt n starts → suc k < length starts
    → get_or (cut_at starts xs) k [] ≡ take (get_or starts (suc k) 0 - get_or starts k 0) (drop (get_or starts k 0) xs)
part_is n [] xs k ends below = absurd ends
part_is n (start ∷ []) xs k ends below = absurd (omega arith)
part_is n (start ∷ end ∷ more) xs zero ends below = refl
part_is n (start ∷ end ∷ more) xs (suc k) ends below = part_is n (end ∷ more) xs k ends.1 (omega arith)

-- one place more
pub ends_more : (n m : ℕ) (starts : List ℕ) → EndsAt n starts → n ≤ m → EndsAt m (starts ++ m ∷ [])
ends_more n m [] ends le = absurd ends
ends_more n m (start ∷ []) ends le = (omega (arith, ends), refl)
ends_more n m (start ∷ end ∷ more) ends le = (ends.0, ends_more n m (end ∷ more) ends.1 le)

-- one part more
pub part_more : {X : Type 0} (starts : List ℕ) (xs ys : List X) → EndsAt (length xs) starts → cut_at (starts ++ length (xs ++ ys) ∷ []) (xs ++ ys) ≡ cut_at starts xs ++ ys ∷ []
part_more [] xs ys ends = absurd ends
part_more (start ∷ []) xs ys ends =
    let n : length (xs ++ ys) - start ≡ length ys = omega (arith, ends, length-append xs ys) in
    ap (λ k. take (length (xs ++ ys) - start) (drop k (xs ++ ys)) ∷ []) ends
    ∙ (ap (λ zs. take (length (xs ++ ys) - start) zs ∷ []) (drop-append_seam xs ys)
    ∙ ap (λ zs. zs ∷ []) (take_all (length (xs ++ ys) - start) ys (omega (arith, n))))
part_more (start ∷ end ∷ more) xs ys ends =
    let within = first_within (length xs) end more ends.1 in
    let rest = part_more (end ∷ more) xs ys ends.1 in
    let room : end - start ≤ length (drop start xs) = omega (arith, length-drop start xs, ends.0, within) in
    ap (λ zs. take (end - start) zs ∷ cut_at ((end ∷ more) ++ length (xs ++ ys) ∷ []) (xs ++ ys)) (drop-append-le start xs ys (omega (arith, ends.0, within)))
    ∙ (ap (λ zs. zs ∷ cut_at ((end ∷ more) ++ length (xs ++ ys) ∷ []) (xs ++ ys)) (take-append-le (end - start) (drop start xs) ys room)
    ∙ ap (λ parts. take (end - start) (drop start xs) ∷ parts) rest)

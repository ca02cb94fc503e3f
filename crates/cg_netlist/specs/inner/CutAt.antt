-- A list that is cut at places.
use Rattle.std.specs.Prelude.{◌≡◌, ℕ, ◌≤◌, ◌-◌, List, [], ◌∷◌, take, drop}

-- the parts from each of these places to the next
abbrev pub cut_at : {X : Type 0} → List ℕ → List X → List (List X)
cut_at (start ∷ end ∷ ends) xs = take (end - start) (drop start xs) ∷ cut_at (end ∷ ends) xs
cut_at starts xs = []

-- there is a place, no place stands before the one before it, and the last is this number
abbrev pub EndsAt : ℕ → List ℕ → Type 0
EndsAt n [] = ⊥
EndsAt n (start ∷ []) = start ≡ n
EndsAt n (start ∷ end ∷ ends) = (start ≤ end) × EndsAt n (end ∷ ends)

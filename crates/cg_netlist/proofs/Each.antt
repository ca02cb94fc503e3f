-- What holds of each element.
use Rattle.std.specs.Prelude.{[], ◌≡◌, List, ◌∷◌, ◌++◌, map}
use Rattle.std.proofs.Common.{refl, ap, ◌∙◌}
use Rattle.std.specs.List.{All, AllByRecursion}
use Rattle.std.proofs.lemmas.List.Elements.{All-nil, All-cons, All-head, All-tail}

pub map_kept : {N M : Type 0} (f : N → M) (g : M → N) (xs : List N) → AllByRecursion (λ x. g (f x) ≡ x) xs → map g (map f xs) ≡ xs
map_kept f g [] all = refl
map_kept f g (x ∷ xs) all = ap (λ y. y ∷ map g (map f xs)) all.0 ∙ ap (λ ys. x ∷ ys) (map_kept f g xs all.1)

pub each : {X : Type 0} (P Q : X → Type 0) → ((x : X) → P x → Q x) → (xs : List X) → AllByRecursion P xs → AllByRecursion Q xs
each P Q f [] all = tt
each P Q f (x ∷ xs) all = (f x all.0, each P Q f xs all.1)

-- what holds at each place holds of each element, and back
pub by_recursion : {X : Type 0} (P : X → Type 0) (xs : List X) → All P xs → AllByRecursion P xs
by_recursion P [] all = tt
by_recursion P (x ∷ xs) all = (All-head P x xs all, by_recursion P xs (All-tail P x xs all))

pub from_recursion : {X : Type 0} (P : X → Type 0) (xs : List X) → AllByRecursion P xs → All P xs
from_recursion P [] all = All-nil P
from_recursion P (x ∷ xs) all = All-cons P x xs all.0 (from_recursion P xs all.1)

-- what holds of the elements of two lists, and of both together
pub each_together : {X : Type 0} (P : X → Type 0) (xs ys : List X) → AllByRecursion P xs → AllByRecursion P ys → AllByRecursion P (xs ++ ys)
each_together P [] ys front back = back
each_together P (x ∷ xs) ys front back = (front.0, each_together P xs ys front.1 back)

pub each_front : {X : Type 0} (P : X → Type 0) (xs ys : List X) → AllByRecursion P (xs ++ ys) → AllByRecursion P xs
each_front P [] ys all = tt
each_front P (x ∷ xs) ys all = (all.0, each_front P xs ys all.1)

pub each_back : {X : Type 0} (P : X → Type 0) (xs ys : List X) → AllByRecursion P (xs ++ ys) → AllByRecursion P ys
each_back P [] ys all = all
each_back P (x ∷ xs) ys all = each_back P xs ys all.1

-- Hints lead to arguments.
use Rattle.std.proofs.Common.{◌≡◌, ℕ, true, List, [], ◌∷◌, ◌∙◌, sym, subst}
use Rattle.std.specs.List.{list_any}
use Rattle.std.specs.Str.{bytes_eq}
use Rattle.std.proofs.lemmas.Slice.Eq.{bytes_eq-Decides}
use Rattle.cg_liberty_text.specs.Hint.{IsHint, begin_with, stands_at}
use Rattle.std.specs.Cmp.{both_ways as both}

-- texts begin with one text alone
one_first : (texts : List (List ℕ)) (a b : List ℕ) → begin_with texts a ≡ true → begin_with texts b ≡ true → a ≡ b
one_first [] a b h k = cc
one_first (first ∷ more) a b h k = sym ((bytes_eq-Decides first a).0 h) ∙ (bytes_eq-Decides first b).0 k

-- where an argument stands, there is a hint
pub hint_of : (arguments : List (List ℕ)) (bytes : List ℕ) (place : ℕ) (text : List ℕ) → stands_at bytes place text ≡ true → list_any (bytes_eq text) arguments ≡ true → IsHint arguments bytes place
hint_of arguments bytes place text stands among other positive seen = subst (λ (t : List ℕ). list_any (bytes_eq t) arguments ≡ true) (one_first _ text other stands seen) among

-- which text is compared with which does not count
turned : (a b : List ℕ) → bytes_eq a b ≡ true → bytes_eq b a ≡ true
turned a b h = (bytes_eq-Decides b a).1 (sym ((bytes_eq-Decides a b).0 h))

pub bytes_eq-turned : (a b : List ℕ) → bytes_eq a b ≡ bytes_eq b a
bytes_eq-turned a b = both (bytes_eq a b) (bytes_eq b a) (turned a b) (turned b a)

pub ruleset compared = bytes_eq-turned

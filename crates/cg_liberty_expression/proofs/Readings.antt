-- A fault ends a reading; the place of a pin.
use Rattle.std.proofs.Common.{◌≡◌, ℕ, List, [], ◌∷◌, ◌+◌, ◌<◌, Bool, cond, length, get_or, drop, Some, Err, refl, ap, add-one}
use Rattle.std.proofs.Common.{drop-cons}
use Rattle.std.specs.List.{position_from}
use Rattle.cg_liberty_expression.specs.Reading.{read_on}
use Rattle.cg_liberty_expression.specs.Tokens.{Token}
use Rattle.cg_liberty_expression.specs.declared.fault.ExprFault.{ExprFault}

pub fault_stays : (pins : List (List ℕ)) (end : ℕ) (fault : ExprFault) (tokens : List Token) → read_on pins end (Err fault) tokens ≡ Err fault
fault_stays pins end fault [] = refl
fault_stays pins end fault (token ∷ tokens) = fault_stays pins end fault tokens

-- the place of the first element that passes, among those that are left
pub position_from-drop : {X : Type 0} (test : X → Bool) (xs : List X) (i : ℕ) (d : X) → i < length xs
    → position_from test i (drop i xs) ≡ cond (test (get_or xs i d)) (Some i) (position_from test (i + 1) (drop (i + 1) xs))
position_from-drop test xs i d h = let split : drop i xs ≡ get_or xs i d ∷ drop (i + 1) xs = rw add-one (drop-cons xs i d h) in ap (position_from test i) split

pub ruleset faults = (fault_stays, position_from-drop)

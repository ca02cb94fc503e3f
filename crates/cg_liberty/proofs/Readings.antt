-- Expressions that are read one by one.
use Rattle.std.proofs.Common.{◌≡◌, ℕ, Bool, List, [], ◌∷◌, ◌++◌, Option, Result, Ok, Err, refl, append_assoc}
use Rattle.std.specs.Option.{option_map}
use Rattle.cg_cell.specs.Term.{Term}
use Rattle.cg_liberty.specs.Reading.{reading, readings, then_read}
use Rattle.cg_liberty.specs.declared.fault.CellFault.{CellFault}

-- terms behind those that were read before
abbrev pub behind : {A : Type 0} → List A → Result (List A) CellFault → Result (List A) CellFault
behind front (Ok later) = Ok (front ++ later)
behind front (Err fault) = Err fault

behind_one : {A : Type 0} (front : List A) (x : A) (later : Result (List A) CellFault) → behind front (then_read later (λ xs. Ok (x ∷ xs))) ≡ behind (front ++ x ∷ []) later
behind_one front x (Ok later) = let same = append_assoc front (x ∷ []) later in rw same refl
behind_one front x (Err fault) = refl

-- one more is read
pub read_one : (front : List (Option Term)) (names : List (List ℕ)) (text : Option (List ℕ)) (texts : List (Option (List ℕ))) (term : Option Term) → reading names text ≡ Ok term → behind front (readings names (text ∷ texts)) ≡ behind (front ++ term ∷ []) (readings names texts)
read_one front names text texts term is = rw is (behind_one front term (readings names texts))

-- or it has a fault
pub read_fault : (front : List (Option Term)) (names : List (List ℕ)) (text : Option (List ℕ)) (texts : List (Option (List ℕ))) (fault : CellFault) → reading names text ≡ Err fault → behind front (readings names (text ∷ texts)) ≡ Err fault
read_fault front names text texts fault is = rw is refl

-- what is known of the outputs behind those before
abbrev pub known_behind : List Bool → Option (List Bool) → Option (List Bool)
known_behind front later = option_map (λ known. front ++ known) later

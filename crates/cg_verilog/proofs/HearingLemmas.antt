-- What a builder's answers say of the parts that it was told.
use Rattle.std.proofs.Common.{◌≡◌, List, [], ◌∷◌, ◌++◌, Option, None, Some, Result, Ok, Err, refl, inl, inr}
use Rattle.std.proofs.Common.{sym, ap, ◌∙◌}
use Rattle.cg_limit.specs.declared.Limit.{Limit}
use Rattle.cg_netlist.specs.declared.fault.AddFault.{AddFault}
use Rattle.cg_netlist.specs.declared.fault.AddFault.TheVariants as adds
use Rattle.cg_netlist_builder.specs.Building.{Building, IsAnswer, Takes}
use Rattle.cg_netlist_parts.specs.Part.{Part}
use Rattle.cg_netlist_parts.specs.Said.{Said, limit_of, with_part}
use Rattle.cg_verilog_text.specs.Telling.{unless, with_parts}
use Rattle.cg_verilog.specs.Hearing.{Hears}

-- one part
pub hears_one : (old new : Building) (part : Part) (answer : Result (Unit {0}) AddFault) → old.refused ≡ None → Takes old part new answer → Hears old new (with_parts (part ∷ []) old.said) answer
hears_one old new part (Ok taken) fine takes = go (limit_of (with_part old.said part)) (rw fine at takes.answers)
  where
    new_is : new ≡ record old { said = with_part old.said part }
    new_is = takes.takes

    go : (o : Option Limit) → IsAnswer None o (Ok taken) → (unless o (Ok (with_part old.said part)) ≡ Ok new.said) × (new ≡ record old { said = new.said })
    go None answers = (ap (λ (b : Building). Ok b.said) (sym new_is), new_is ∙ ap (λ (s : Said). record old { said = s }) (ap (λ (b : Building). b.said) (sym new_is)))
    go (Some limit) (inl never) = absurd (cc)
    go (Some limit) (inr never) = absurd (cc)
hears_one old new part (Err adds.NoMemory) fine takes = tt
hears_one old new part (Err (adds.Limit passed)) fine takes = go (limit_of (with_part old.said part)) (rw fine at takes.answers)
  where
    go : (o : Option Limit) → IsAnswer None o (Err (adds.Limit passed)) → unless o (Ok (with_part old.said part)) ≡ Err passed
    go None (inl never) = absurd (cc)
    go None (inr never) = absurd (cc)
    go (Some limit) (inl is) = let same : limit ≡ passed = cc in ap (λ l. Err l) same
    go (Some limit) (inr never) = absurd (cc)

-- some parts, and then others
pub some_then : (parts more : List Part) (s t : Said) → with_parts parts s ≡ Ok t → with_parts (parts ++ more) s ≡ with_parts more t
some_then [] more s t is = let same : s ≡ t = cc in ap (with_parts more) same
some_then (part ∷ parts) more s t is = go (limit_of (with_part s part)) (some_then parts more (with_part s part) t) is
  where
    go : (o : Option Limit) → (with_parts parts (with_part s part) ≡ Ok t → with_parts (parts ++ more) (with_part s part) ≡ with_parts more t) → unless o (with_parts parts (with_part s part)) ≡ Ok t → unless o (with_parts (parts ++ more) (with_part s part)) ≡ with_parts more t
    go None rest e = rest e
    go (Some limit) rest e = absurd (cc)

pub some_fail : (parts more : List Part) (s : Said) (limit : Limit) → with_parts parts s ≡ Err limit → with_parts (parts ++ more) s ≡ Err limit
some_fail [] more s limit is = absurd (cc)
some_fail (part ∷ parts) more s limit is = go (limit_of (with_part s part)) (some_fail parts more (with_part s part) limit) is
  where
    go : (o : Option Limit) → (with_parts parts (with_part s part) ≡ Err limit → with_parts (parts ++ more) (with_part s part) ≡ Err limit) → unless o (with_parts parts (with_part s part)) ≡ Err limit → unless o (with_parts (parts ++ more) (with_part s part)) ≡ Err limit
    go None rest e = rest e
    go (Some passed) rest e = e

-- A builder that is told some parts after others: what is left for it makes of what it has said what all of them make of what it had
-- said.
pub record IsLeft (parts : List Part) (old now : Building) (left : List Part) : Type 0 where
  pub said : with_parts left now.said ≡ with_parts parts old.said
  pub same : now ≡ record old { said = now.said }

pub refused_none : (parts : List Part) (old now : Building) (left : List Part) → old.refused ≡ None → IsLeft parts old now left → now.refused ≡ None
refused_none parts old now left fine here = ap (λ (b : Building). b.refused) here.same ∙ fine

pub all_left : (parts : List Part) (old : Building) → IsLeft parts old old parts
all_left parts old = record { said = refl; same = refl }

-- the next of them were told
pub told_next : (parts : List Part) (old now new : Building) (next left : List Part) → IsLeft parts old now (next ++ left) → Hears now new (with_parts next now.said) (Ok tt) → IsLeft parts old new left
told_next parts old now new next left here hears = record {
  said = sym (some_then next left now.said new.said hears.0) ∙ here.said;
  same = hears.1 ∙ ap (λ (b : Building). record b { said = new.said }) here.same;
}

-- all were told
pub told_all : (parts : List Part) (old now : Building) → IsLeft parts old now [] → Hears old now (with_parts parts old.said) (Ok tt)
told_all parts old now here = (sym here.said, here.same)

-- the next of them are refused
pub told_fault : (parts : List Part) (old now new end : Building) (next left : List Part) (fault : AddFault) → IsLeft parts old now (next ++ left) → Hears now new (with_parts next now.said) (Err fault) → Hears old end (with_parts parts old.said) (Err fault)
told_fault parts old now new end next left (adds.Limit limit) here hears = sym here.said ∙ some_fail next left now.said limit hears
told_fault parts old now new end next left adds.NoMemory here hears = tt

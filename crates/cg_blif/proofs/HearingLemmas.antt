-- What a builder's answers say of the parts that it was told.
use Rattle.std.proofs.Common.{◌≡◌, ◌+◌, ◌<◌, ℕ, List, [], ◌∷◌, length, drop, get_or, map, Option, None, Some, Result, Ok, Err, refl}
use Rattle.std.proofs.Common.{sym, ap, ◌∙◌, add-one, drop-cons, inl, inr}
use Rattle.cg_limit.specs.declared.Limit.{Limit}
use Rattle.cg_netlist.specs.declared.fault.AddFault.{AddFault}
use Rattle.cg_netlist.specs.declared.fault.AddFault.TheVariants as adds
use Rattle.cg_netlist_builder.specs.Building.{Building, IsAnswer, Takes}
use Rattle.cg_netlist_parts.specs.Part.{Part}
use Rattle.cg_netlist_parts.specs.Said.{Said, limit_of, with_part}
use Rattle.cg_blif_text.specs.declared.fault.LineFault.{LineFault}
use Rattle.cg_blif_text.specs.declared.fault.LineFault.TheVariants.{Limit as Passed}
use Rattle.cg_blif_text.specs.Telling.{unless, with_parts}
use Rattle.cg_blif.specs.Hearing.{Hears, heard}

-- one part
pub hears_one : (old new : Building) (part : Part) (answer : Result (Unit {0}) AddFault) → old.refused ≡ None → Takes old part new answer → Hears old new (with_parts (part ∷ []) old.said) (heard answer)
hears_one old new part (Ok taken) fine takes = go (limit_of (with_part old.said part)) (rw fine at takes.answers)
  where
    new_is : new ≡ record old { said = with_part old.said part }
    new_is = takes.takes

    go : (o : Option Limit) → IsAnswer None o (Ok taken) → (new.refused ≡ None) × (new.model ≡ old.model) × (unless o (Ok (with_part old.said part)) ≡ Ok new.said)
    go None answers = (ap (λ (b : Building). b.refused) new_is ∙ fine, ap (λ (b : Building). b.model) new_is, ap (λ (b : Building). Ok b.said) (sym new_is))
    go (Some limit) (inl never) = absurd (cc)
    go (Some limit) (inr never) = absurd (cc)
hears_one old new part (Err adds.NoMemory) fine takes = tt
hears_one old new part (Err (adds.Limit passed)) fine takes = go (limit_of (with_part old.said part)) (rw fine at takes.answers)
  where
    go : (o : Option Limit) → IsAnswer None o (Err (adds.Limit passed)) → unless o (Ok (with_part old.said part)) ≡ Err (Passed passed)
    go None (inl never) = absurd (cc)
    go None (inr never) = absurd (cc)
    go (Some limit) (inl is) = let same : limit ≡ passed = cc in ap (λ l. Err (Passed l)) same
    go (Some limit) (inr never) = absurd (cc)

-- one part, and then others
pub one_then : (part : Part) (more : List Part) (s t : Said) → with_parts (part ∷ []) s ≡ Ok t → with_parts (part ∷ more) s ≡ with_parts more t
one_then part more s t is = go (limit_of (with_part s part)) is
  where
    go : (o : Option Limit) → unless o (Ok (with_part s part)) ≡ Ok t → unless o (with_parts more (with_part s part)) ≡ with_parts more t
    go None e = let same : with_part s part ≡ t = cc in ap (with_parts more) same
    go (Some limit) e = absurd (cc)

pub one_fails : (part : Part) (more : List Part) (s : Said) (cause : LineFault) → with_parts (part ∷ []) s ≡ Err cause → with_parts (part ∷ more) s ≡ Err cause
one_fails part more s cause is = go (limit_of (with_part s part)) is
  where
    go : (o : Option Limit) → unless o (Ok (with_part s part)) ≡ Err cause → unless o (with_parts more (with_part s part)) ≡ Err cause
    go None e = absurd (cc)
    go (Some limit) e = e

-- the parts of a list, from the one at k on
pub parts_drop : (wrap : List ℕ → Part) (nets : List (List ℕ)) (k : ℕ) (d : List ℕ) → k < length nets → map wrap (drop k nets) ≡ wrap (get_or nets k d) ∷ map wrap (drop (k + 1) nets)
parts_drop wrap nets k d below = rw (add-one, drop-cons nets k d) refl

pub ruleset lists = (one_then, one_fails, parts_drop)

-- Parts that pass no limit together pass none one by one.
use Rattle.std.proofs.Common.{◌≡◌, ◌≤◌, nat_lt, Bool, true, false, if◌then◌else◌, List, [], ◌∷◌, ◌++◌, length, Option, None, Some}
use Rattle.std.proofs.Common.{Ok, refl, sym, ap, ◌∙◌, subst, arith, append_assoc}
use Rattle.std.specs.List.{flat_map}
use Rattle.std.proofs.lemmas.Bool.{false_from_ne_true, ltb-true}
use Rattle.std.proofs.lemmas.List.{append-nil, length-append}
use Rattle.std.proofs.lemmas.List.Concat.{flat_map-append}
use Rattle.std.proofs.lemmas.List.Elements.{filter_map-append}
use Rattle.cg_limit.specs.declared.Limit.{Limit}
use Rattle.cg_limit.specs.declared.Limit.TheVariants.{Nets, Registers}
use Rattle.cg_net.specs.Names.{NetName, is_known, with_name, with_names}
use Rattle.cg_netlist_parts.specs.Part.{Part, each_once, mentioned, nets, register_in, registers}
use Rattle.cg_netlist_parts.specs.Said.{Said, limit_of, said, with_part}
use Rattle.cg_netlist_parts.proofs.SaidMore.{once_words, said_more}
use Rattle.cg_blif_text.specs.Telling.{unless, with_parts}

-- names are not lost
pub more_names : (names more : List NetName) → length names ≤ length (with_names names more)
more_names names [] = omega arith
more_names names (name ∷ more) = let rest = more_names (with_name names name) more in let one = go (is_known names name) in omega (arith, rest, one)
  where
    go : (b : Bool) → length names ≤ length (if b then names else names ++ name ∷ [])
    go true = omega arith
    go false = omega (arith, length-append names (name ∷ []))

fewer_nets : (xs ys : List Part) → length (nets xs) ≤ length (nets (xs ++ ys))
fewer_nets xs ys =
    let e : nets (xs ++ ys) ≡ with_names (nets xs) (flat_map mentioned ys) = ap each_once (flat_map-append mentioned xs ys) ∙ once_words (flat_map mentioned xs) (flat_map mentioned ys) in
    subst (λ ns. length (nets xs) ≤ length ns) (sym e) (more_names (nets xs) (flat_map mentioned ys))

fewer_registers : (xs ys : List Part) → length (registers xs) ≤ length (registers (xs ++ ys))
fewer_registers xs ys =
    let e = ap length (filter_map-append register_in xs ys) in
    omega (arith, e, length-append (registers xs) (registers ys))

-- parts within the limits
pub record IsWithin (parts : List Part) : Type 0 where
  pub nets : length (nets parts) ≤ 1048576
  pub registers : length (registers parts) ≤ 65536

no_limit : (parts : List Part) → IsWithin parts → limit_of (said parts) ≡ None
no_limit parts within =
    let few : nat_lt 1048576 (length (nets parts)) ≡ false = false_from_ne_true _ (λ over. let more = ltb-true 1048576 (length (nets parts)) over in let no : ⊥ = omega (arith, more, within.nets) in no) in
    let some : nat_lt 65536 (length (registers parts)) ≡ false = false_from_ne_true _ (λ over. let more = ltb-true 65536 (length (registers parts)) over in let no : ⊥ = omega (arith, more, within.registers) in no) in
    ap (λ b. if b then Some Nets else if nat_lt 65536 (length (registers parts)) then Some Registers else None) few ∙ ap (λ b. if b then Some Registers else None) some

front_within : (xs ys : List Part) → IsWithin (xs ++ ys) → IsWithin xs
front_within xs ys within = record { nets = omega (arith, fewer_nets xs ys, within.nets); registers = omega (arith, fewer_registers xs ys, within.registers) }

pub all_with : (before more : List Part) → IsWithin (before ++ more) → with_parts more (said before) ≡ Ok (said (before ++ more))
all_with before [] within = ap (λ ps. Ok (said ps)) (sym (append-nil before))
all_with before (p ∷ more) within =
    let assoc : (before ++ p ∷ []) ++ more ≡ before ++ p ∷ more = append_assoc before (p ∷ []) more in
    let all : IsWithin ((before ++ p ∷ []) ++ more) = subst IsWithin (sym assoc) within in
    ap (λ s. unless (limit_of s) (with_parts more s)) (sym (said_more before p))
    ∙ (ap (λ o. unless o (with_parts more (said (before ++ p ∷ [])))) (no_limit (before ++ p ∷ []) (front_within (before ++ p ∷ []) more all))
    ∙ (all_with (before ++ p ∷ []) more all ∙ ap (λ ps. Ok (said ps)) assoc))

-- some parts, and then others
pub record Between (front back : List Part) (s t : Said) : Type 0 where
  pub middle : Said
  pub first : with_parts front s ≡ Ok middle
  pub last : with_parts back middle ≡ Ok t

pub with_both : (front back : List Part) (s t : Said) → with_parts (front ++ back) s ≡ Ok t → Between front back s t
with_both [] back s t is = record { middle = s; first = refl; last = is }
with_both (p ∷ front) back s t is = let both = go (limit_of (with_part s p)) is (with_both front back (with_part s p) t) in record { middle = both.0; first = both.1; last = both.2 }
  where
    go : (o : Option Limit) → unless o (with_parts (front ++ back) (with_part s p)) ≡ Ok t → (with_parts (front ++ back) (with_part s p) ≡ Ok t → Between front back (with_part s p) t)
        → (m : Said) × (unless o (with_parts front (with_part s p)) ≡ Ok m) × (with_parts back m ≡ Ok t)
    go None q rest = let both = rest q in (both.middle, both.first, both.last)
    go (Some limit) q rest = absurd (cc)

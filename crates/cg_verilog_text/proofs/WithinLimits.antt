-- Parts that pass no limit together pass none one by one.
use Rattle.std.proofs.Common.{◌≡◌, ◌≤◌, nat_lt, Bool, true, false, if◌then◌else◌, List, [], ◌∷◌, ◌++◌, length, None, Some}
use Rattle.std.proofs.Common.{Ok, sym, ap, ◌∙◌, subst, arith, append_assoc}
use Rattle.std.specs.List.{flat_map}
use Rattle.std.proofs.lemmas.Bool.{false_from_ne_true, ltb-true}
use Rattle.std.proofs.lemmas.List.{append-nil, length-append}
use Rattle.std.proofs.lemmas.List.Concat.{flat_map-append}
use Rattle.std.proofs.lemmas.List.Elements.{filter_map-append}
use Rattle.cg_limit.specs.declared.Limit.TheVariants.{Nets, Registers}
use Rattle.cg_net.specs.Names.{NetName, is_known, with_name, with_names}
use Rattle.cg_netlist_parts.specs.Part.{Part, each_once, mentioned, nets, register_in, registers}
use Rattle.cg_netlist_parts.specs.Said.{limit_of, said}
use Rattle.cg_netlist_parts.proofs.SaidMore.{once_words, said_more}
use Rattle.cg_verilog_text.specs.Telling.{unless, with_parts}

-- names are not lost
pub more_names : (names more : List NetName) → length names ≤ length (with_names names more)
more_names names [] = omega arith
more_names names (name ∷ more) = let rest = more_names (with_name names name) more in let one = go (is_known names name) in omega (arith, rest, one)
  where
    go : (b : Bool) → length names ≤ length (if b then names else names ++ name ∷ [])
    go true = omega arith
    go false = omega (arith, length-append names (name ∷ []))

pub fewer_nets : (xs ys : List Part) → length (nets xs) ≤ length (nets (xs ++ ys))
fewer_nets xs ys =
    let e : nets (xs ++ ys) ≡ with_names (nets xs) (flat_map mentioned ys) = ap each_once (flat_map-append mentioned xs ys) ∙ once_words (flat_map mentioned xs) (flat_map mentioned ys) in
    subst (λ ns. length (nets xs) ≤ length ns) (sym e) (more_names (nets xs) (flat_map mentioned ys))

pub fewer_registers : (xs ys : List Part) → length (registers xs) ≤ length (registers (xs ++ ys))
fewer_registers xs ys =
    let e = ap length (filter_map-append register_in xs ys) in
    omega (arith, e, length-append (registers xs) (registers ys))

-- parts within the limits
pub record IsWithin (parts : List Part) : Type 0 where
  pub nets : length (nets parts) ≤ 1048576
  pub registers : length (registers parts) ≤ 65536

no_limit : (parts : List Part) → IsWithin parts → limit_of (said parts) ≡ None
no_limit parts within =
    let few : nat_lt 1048576 (length (nets parts)) ≡ false = false_from_ne_true _ (λ over. let more = ltb-true 1048576 (length (nets parts)) over in let no : ⊥ = omega (arith, more, within.nets) in no) in
    let some : nat_lt 65536 (length (registers parts)) ≡ false = false_from_ne_true _ (λ over. let more = ltb-true 65536 (length (registers parts)) over in let no : ⊥ = omega (arith, more, within.registers) in no) in
    ap (λ b. if b then Some Nets else if nat_lt 65536 (length (registers parts)) then Some Registers else None) few ∙ ap (λ b. if b then Some Registers else None) some

pub front_within : (xs ys : List Part) → IsWithin (xs ++ ys) → IsWithin xs
front_within xs ys within = record { nets = omega (arith, fewer_nets xs ys, within.nets); registers = omega (arith, fewer_registers xs ys, within.registers) }

pub all_with : (before more : List Part) → IsWithin (before ++ more) → with_parts more (said before) ≡ Ok (said (before ++ more))
all_with before [] within = ap (λ ps. Ok (said ps)) (sym (append-nil before))
all_with before (p ∷ more) within =
    let assoc : (before ++ p ∷ []) ++ more ≡ before ++ p ∷ more = append_assoc before (p ∷ []) more in
    let all : IsWithin ((before ++ p ∷ []) ++ more) = subst IsWithin (sym assoc) within in
    ap (λ s. unless (limit_of s) (with_parts more s)) (sym (said_more before p))
    ∙ (ap (λ o. unless o (with_parts more (said (before ++ p ∷ [])))) (no_limit (before ++ p ∷ []) (front_within (before ++ p ∷ []) more all))
    ∙ (all_with (before ++ p ∷ []) more all ∙ ap (λ ps. Ok (said ps)) assoc))

-- Lemmas on mentioning nets by name.
use Rattle.std.proofs.Common.{[], ℕ, ◌+◌, ◌≤◌, ◌≡◌, inl, inr, List, ◌∷◌, ◌++◌, Some, map, length, take, drop, refl, sym, ap, ◌∙◌}
use Rattle.std.proofs.Common.{arith, append_assoc}
use Rattle.std.specs.List.{slice_get}
use Rattle.std.proofs.lemmas.List.{append-nil, length-append, take-append-drop}
use Rattle.std.proofs.lemmas.Bool.{cases_Bool}
use Rattle.cg_netlist.specs.declared.fault.AddFault.{AddFault}
use Rattle.cg_net.specs.Names.{is_known, with_name, with_names}
use Rattle.cg_netlist_builder.specs.inner.Mentioned.{IsMentionFault}
use Rattle.cg_net.proofs.NameLemmas.{with_name-known, with_name-unknown}
use Rattle.cg_net.proofs.TableLemmas.{front_get, take_next}

pub with_names-append : (names xs ys : List (List ℕ)) → with_names names (xs ++ ys) ≡ with_names (with_names names xs) ys
with_names-append names [] ys = refl
with_names-append names (x ∷ xs) ys = with_names-append (with_name names x) xs ys

-- names go behind the others, and the others stay
pub record IsFront (names more : List (List ℕ)) : Type 0 where
  pub rest : List (List ℕ)
  pub is : more ≡ names ++ rest

pub with_name_front : (names : List (List ℕ)) (name : List ℕ) → IsFront names (with_name names name)
with_name_front names name = elim (cases_Bool (is_known names name)) [
  | inl known ↦ record { rest = []; is = with_name-known names name known ∙ sym (append-nil names) }
  | inr unknown ↦ record { rest = name ∷ []; is = with_name-unknown names name unknown }
]

pub with_names_front : (names words : List (List ℕ)) → IsFront names (with_names names words)
with_names_front names [] = record { rest = []; is = sym (append-nil names) }
with_names_front names (word ∷ words) =
    let first = with_name_front names word in
    let others = with_names_front (with_name names word) words in
    record { rest = first.rest ++ others.rest; is = others.is ∙ (ap (λ xs. xs ++ others.rest) first.is ∙ append_assoc names first.rest others.rest) }

pub still_at : (names words : List (List ℕ)) (i : ℕ) (name : List ℕ) → slice_get names i ≡ Some name → slice_get (with_names names words) i ≡ Some name
still_at names words i name at =
    let front = with_names_front names words in
    ap (λ xs. slice_get xs i) front.is ∙ front_get names front.rest i name at

pub with_names_grows : (names words : List (List ℕ)) → length names ≤ length (with_names names words)
with_names_grows names words = let front = with_names_front names words in omega (arith, ap length front.is, length-append names front.rest)

-- nets keep their numbers while more are mentioned
pub still_numbered : (names more : List (List ℕ)) (nets : List ℕ) (words : List (List ℕ)) → map (slice_get names) nets ≡ map (λ word. Some word) words → map (slice_get (with_names names more)) nets ≡ map (λ word. Some word) words
still_numbered names more [] [] is = refl
still_numbered names more [] (word ∷ words) is = absurd (cc)
still_numbered names more (net ∷ nets) [] is = absurd (cc)
still_numbered names more (net ∷ nets) (word ∷ words) is =
    let here : slice_get names net ≡ Some word = cc in
    let later : map (slice_get names) nets ≡ map (λ w. Some w) words = cc in
    ap (λ o. o ∷ map (slice_get (with_names names more)) nets) (still_at names more net word here) ∙ ap (λ os. Some word ∷ os) (still_numbered names more nets words later)

-- what is refused on the way is refused for the whole
pub fault_on_way : (old mid words : List (List ℕ)) (i : ℕ) (word : List ℕ) (fault : AddFault) → mid ≡ with_names old (take i words) → slice_get words i ≡ Some word → IsMentionFault (with_name mid word) fault → IsMentionFault (with_names old words) fault
fault_on_way old mid words i word fault mid_is at (inl none) = inl none
fault_on_way old mid words i word fault mid_is at (inr (is, over)) =
    let front : with_name mid word ≡ with_names old (take (i + 1) words) =
    ap (λ names. with_name names word) mid_is ∙ (sym (with_names-append old (take i words) (word ∷ [])) ∙ ap (with_names old) (sym (take_next words i word at))) in
    let all : with_names old words ≡ with_names (with_names old (take (i + 1) words)) (drop (i + 1) words) =
    ap (with_names old) (sym (take-append-drop (i + 1) words)) ∙ with_names-append old (take (i + 1) words) (drop (i + 1) words) in
    inr (is, omega (arith, over, ap length front, ap length all, with_names_grows (with_names old (take (i + 1) words)) (drop (i + 1) words)))

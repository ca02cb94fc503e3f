-- Marks of the reasons of a trail.
use Rattle.std.proofs.Common.{◌≡◌, ◌≢◌, ℕ, ◌+◌, ◌<◌, Bool, true, false, List, Some, refl, sym}
use Rattle.std.proofs.Common.{◌∙◌, subst, length, get_or, set, nat_eq, arith, rules}
use Rattle.std.specs.List.{slice_get}
use Rattle.std.proofs.lemmas.Bool.{eqb-true}
use Rattle.std.proofs.lemmas.List.{get_or-set_other, get_or-set_same}
use Rattle.std.proofs.lemmas.Option.{slice_get_within}
use Rattle.std.proofs.Math.ListN.{length-set}
use Rattle.cg_sat_state.specs.declared.trail.Entry.{Entry}
use Rattle.cg_sat_state.specs.Trail.{IsUnused}
use Rattle.cg_sat.specs.inner.Search.{MarksReasons}

-- the reasons of the entries before a place are marked
abbrev pub MarksBelow : ℕ → List Entry → List Bool → Type 0
MarksBelow n trail used = (k : ℕ) (entry : Entry) (reason : ℕ) → k < n → slice_get trail k ≡ Some entry → entry.reason ≡ Some reason → reason < length used → get_or used reason false ≡ true

pub marks_set : (n : ℕ) (trail : List Entry) (used : List Bool) (place : ℕ) → place < length used → MarksBelow n trail used → MarksBelow n trail (set used place true)
marks_set n trail used place within marks k entry reason low is because inside = pick (nat_eq reason place) refl where
  long : length (set used place true) ≡ length used
  long = length-set used place true

  pick : (b : Bool) → nat_eq reason place ≡ b → get_or (set used place true) reason false ≡ true
  pick true e = let same : reason ≡ place = eqb-true reason place e in subst (λ u. get_or (set used place true) u false ≡ true) (sym same) (get_or-set_same used place true false within)
  pick false e = get_or-set_other used place reason true false (λ f. let self : nat_eq place place ≡ true = search rules in let same : nat_eq reason place ≡ true = subst (λ u. nat_eq u place ≡ true) (sym f) self in cc)
      ∙ marks k entry reason low is because (omega (arith, long, inside))

pub marks_more : (n : ℕ) (trail : List Entry) (used : List Bool) (last : Entry) → slice_get trail n ≡ Some last → ((reason : ℕ) → last.reason ≡ Some reason → reason < length used → get_or used reason false ≡ true)
    → MarksBelow n trail used → MarksBelow (n + 1) trail used
marks_more n trail used last is new marks k entry reason low at because inside = pick (nat_eq k n) refl where
  pick : (b : Bool) → nat_eq k n ≡ b → get_or used reason false ≡ true
  pick true e =
      let here : k ≡ n = eqb-true k n e in
      let at_n : slice_get trail n ≡ Some entry = subst (λ j. slice_get trail j ≡ Some entry) here at in
      let same : entry ≡ last = cc (is, at_n) in
      new reason (subst (λ (f : Entry). f.reason ≡ Some reason) same because) inside
  pick false e =
      let ne : k ≢ n = λ f. let self : nat_eq n n ≡ true = search rules in let same : nat_eq k n ≡ true = subst (λ j. nat_eq j n ≡ true) (sym f) self in cc in
      let below : k < n = omega (arith, low, ne) in
      marks k entry reason below at because inside

pub marks_all : (trail : List Entry) (used : List Bool) → MarksBelow (length trail) trail used → MarksReasons trail used
marks_all trail used marks k entry reason is because inside = marks k entry reason (slice_get_within trail k entry is) is because inside

-- what is not marked is no reason
pub unmarked_unused : (trail : List Entry) (used : List Bool) (place : ℕ) → MarksReasons trail used → place < length used → get_or used place false ≡ false → IsUnused place trail
unmarked_unused trail used place marks within off i entry is because = let on = marks i entry place is because within in cc

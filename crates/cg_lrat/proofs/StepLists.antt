-- Steps whose literals stand in one list, and their ids in another.
use Rattle.std.proofs.Common.{◌≡◌, ℕ, ◌+◌, ◌-◌, zero, suc, ◌≤◌, List, [], ◌∷◌, ◌++◌, Some, refl, ap, ◌∙◌, subst, length, take, drop}
use Rattle.std.proofs.Common.{arith}
use Rattle.std.specs.Prelude.{Result, Ok, Err, OnErr}
use Rattle.std.specs.List.{AllByRecursion, slice_get}
use Rattle.std.proofs.Math.Seq.{drop-append_seam, take-length}
use Rattle.std.proofs.Math.ListN.{length-drop}
use Rattle.std.proofs.lemmas.List.{take-append-le, drop-append-le}
use Rattle.cg_formula.specs.declared.formula.Lit.{Lit}
use Rattle.cg_lrat.specs.declared.step_list.Span.{Span}
use Rattle.cg_lrat.specs.declared.step_list.Place.{Place}
use Rattle.cg_lrat.specs.inner.StepList.{FitsIn, IsWithin, part, step_by, steps_in}

-- lists that grow

part_longer : {X : Type 0} (xs more : List X) (span : Span) → FitsIn (length xs) span → part (xs ++ more) span ≡ part xs span
part_longer xs more span fits =
    let ordered = fits.ordered in
    let within = fits.within in
    let long : length (drop span.from xs) ≡ length xs - span.from = length-drop span.from xs in
    ap (take (span.to - span.from)) (drop-append-le span.from xs more (omega arith)) ∙ take-append-le (span.to - span.from) (drop span.from xs) more (omega (arith, long))

part_last : {X : Type 0} (xs more : List X) (span : Span) → span.from ≡ length xs → span.to ≡ length xs + length more → part (xs ++ more) span ≡ more
part_last xs more span from to =
    let long : span.to - span.from ≡ length more = omega (arith, from, to) in
    ap (λ n. take (span.to - span.from) (drop n (xs ++ more))) from ∙ ap (take (span.to - span.from)) (drop-append_seam xs more) ∙ ap (λ n. take n more) long ∙ take-length more

pub more_lits : (lits more : List Lit) (ids : List ℕ) (n : ℕ) (places : List Place) → AllByRecursion (IsWithin (length lits) n) places
    → steps_in (lits ++ more) ids places ≡ steps_in lits ids places
more_lits lits more ids n [] all = refl
more_lits lits more ids n (p ∷ ps) all =
    ap (λ ls. step_by p ls (part ids p.ids) ∷ steps_in (lits ++ more) ids ps) (part_longer lits more p.lits all.0.lits)
    ∙ ap (λ steps. step_by p (part lits p.lits) (part ids p.ids) ∷ steps) (more_lits lits more ids n ps all.1)

pub more_ids : (lits : List Lit) (ids more : List ℕ) (n : ℕ) (places : List Place) → AllByRecursion (IsWithin n (length ids)) places
    → steps_in lits (ids ++ more) places ≡ steps_in lits ids places
more_ids lits ids more n [] all = refl
more_ids lits ids more n (p ∷ ps) all =
    ap (λ is. step_by p (part lits p.lits) is ∷ steps_in lits (ids ++ more) ps) (part_longer ids more p.ids all.0.ids)
    ∙ ap (λ steps. step_by p (part lits p.lits) (part ids p.ids) ∷ steps) (more_ids lits ids more n ps all.1)

fits_longer : (m n : ℕ) (span : Span) → m ≤ n → FitsIn m span → FitsIn n span
fits_longer m n span le fits = record { ordered = fits.ordered; within = let high = fits.within in omega arith }

pub within_longer : (m n k l : ℕ) (places : List Place) → m ≤ k → n ≤ l → AllByRecursion (IsWithin m n) places → AllByRecursion (IsWithin k l) places
within_longer m n k l [] more_lits more_ids all = tt
within_longer m n k l (p ∷ ps) more_lits more_ids all =
    (record { lits = fits_longer m k p.lits more_lits all.0.lits; ids = fits_longer n l p.ids more_ids all.0.ids }, within_longer m n k l ps more_lits more_ids all.1)

-- one more step

steps_pushed : (lits : List Lit) (ids : List ℕ) (places : List Place) (place : Place)
    → steps_in lits ids (places ++ place ∷ []) ≡ steps_in lits ids places ++ step_by place (part lits place.lits) (part ids place.ids) ∷ []
steps_pushed lits ids [] place = refl
steps_pushed lits ids (p ∷ ps) place = ap (λ steps. step_by p (part lits p.lits) (part ids p.ids) ∷ steps) (steps_pushed lits ids ps place)

-- the place of a step that is put behind others
pub record StandsBehind (lits more ids hints : ℕ) (place : Place) : Type 0 where
  pub lits_from : place.lits.from ≡ lits
  pub lits_to : place.lits.to ≡ lits + more
  pub ids_from : place.ids.from ≡ ids
  pub ids_to : place.ids.to ≡ ids + hints

pub step_put : (lits more : List Lit) (ids hints : List ℕ) (places : List Place) (place : Place)
    → AllByRecursion (IsWithin (length lits) (length ids)) places → StandsBehind (length lits) (length more) (length ids) (length hints) place
    → steps_in (lits ++ more) (ids ++ hints) (places ++ place ∷ []) ≡ steps_in lits ids places ++ step_by place more hints ∷ []
step_put lits more ids hints places place all behind =
    let kept : steps_in (lits ++ more) (ids ++ hints) places ≡ steps_in lits ids places =
    more_lits lits more (ids ++ hints) (length ids) places all ∙ more_ids lits ids hints (length lits) places all in
    steps_pushed (lits ++ more) (ids ++ hints) places place
    ∙ ap (λ steps. steps ++ step_by place (part (lits ++ more) place.lits) (part (ids ++ hints) place.ids) ∷ []) kept
    ∙ ap (λ ls. steps_in lits ids places ++ step_by place ls (part (ids ++ hints) place.ids) ∷ []) (part_last lits more place.lits behind.lits_from behind.lits_to)
    ∙ ap (λ is. steps_in lits ids places ++ step_by place more is ∷ []) (part_last ids hints place.ids behind.ids_from behind.ids_to)

-- the step at a place

pub long_as_places : (lits : List Lit) (ids : List ℕ) (places : List Place) → length (steps_in lits ids places) ≡ length places
long_as_places lits ids [] = refl
long_as_places lits ids (p ∷ ps) = ap suc (long_as_places lits ids ps)

pub place_within : (m n : ℕ) (places : List Place) (k : ℕ) (place : Place) → AllByRecursion (IsWithin m n) places → slice_get places k ≡ Some place → IsWithin m n place
place_within m n [] k place all e = absurd (cc)
place_within m n (p ∷ ps) zero place all e = let same : p ≡ place = cc in subst (IsWithin m n) same all.0
place_within m n (p ∷ ps) (suc k) place all e = place_within m n ps k place all.1 e

pub step_at : (lits : List Lit) (ids : List ℕ) (places : List Place) (k : ℕ) (place : Place) → slice_get places k ≡ Some place
    → slice_get (steps_in lits ids places) k ≡ Some (step_by place (part lits place.lits) (part ids place.ids))
step_at lits ids [] k place e = absurd (cc)
step_at lits ids (p ∷ ps) zero place e = let same : p ≡ place = cc in ap (λ (p : Place). Some (step_by p (part lits p.lits) (part ids p.ids))) same
step_at lits ids (p ∷ ps) (suc k) place e = step_at lits ids ps k place e

-- steps are taken one by one
pub dropped_at : {X : Type 0} (xs : List X) (k : ℕ) (x : X) → slice_get xs k ≡ Some x → drop k xs ≡ x ∷ drop (suc k) xs
dropped_at [] k x e = absurd (cc)
dropped_at (y ∷ ys) zero x e = let same : y ≡ x = cc in ap (λ x. x ∷ ys) same
dropped_at (y ∷ ys) (suc k) x e = dropped_at ys k x e

-- where memory was wanting
pub on_err : {X Y : Type 0} (r : Result X Y) (P : Type 0) → P → OnErr r P
on_err (Ok x) P p = tt
on_err (Err e) P p = p

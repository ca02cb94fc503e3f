-- Steps whose literals stand in one list, and their ids in another.
use Rattle.std.specs.Prelude.{ℕ, ◌≤◌, Bool, List, map, if◌then◌else◌}
use Rattle.std.specs.List.{slice_range}
use Rattle.cg_formula.specs.declared.formula.Lit.{Lit}
use Rattle.cg_lrat.specs.declared.log.Body.{Body}
use Rattle.cg_lrat.specs.declared.log.Body.TheVariants.{Add, Delete}
use Rattle.cg_lrat.specs.declared.log.Step.{Step}
use Rattle.cg_lrat.specs.declared.step_list.Span.{Span}
use Rattle.cg_lrat.specs.declared.step_list.Place.{Place}

-- a part of a list
abbrev pub part : {X : Type 0} → List X → Span → List X
part xs span = slice_range xs span.from span.to

-- an addition of these literals with these hints, or a deletion of these ids
abbrev pub body_by : Bool → List Lit → List ℕ → Body
body_by adds lits ids = if adds then Add (record { lits = lits }) ids else Delete ids

abbrev pub step_by : Place → List Lit → List ℕ → Step
step_by place lits ids = record { line = place.line; id = place.id; body = body_by place.adds lits ids }

-- the step of each place, in order
abbrev pub steps_in : List Lit → List ℕ → List Place → List Step
steps_in lits ids places = map (λ place. step_by place (part lits place.lits) (part ids place.ids)) places

-- the part is one of a list of this length
pub record FitsIn (count : ℕ) (span : Span) : Type 0 where
  pub ordered : span.from ≤ span.to
  pub within : span.to ≤ count

-- the parts are those of lists of these lengths
pub record IsWithin (lits_count ids_count : ℕ) (place : Place) : Type 0 where
  pub lits : FitsIn lits_count place.lits
  pub ids : FitsIn ids_count place.ids

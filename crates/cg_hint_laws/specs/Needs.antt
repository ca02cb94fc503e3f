-- What a hint needs of a library. A condition with a test input is not asked for: a plan with one takes no hints.
use Rattle.std.specs.Prelude.{Bool, List, [], ◌∷◌, length, nat_lt}
use Rattle.std.specs.List.{list_any}
use Rattle.cg_cell.specs.declared.fit.FitKind.{FitKind}
use Rattle.cg_cell.specs.declared.fit.FitKind.TheVariants.{And2, Gater, Inv, Or2}
use Rattle.cg_stage_laws.specs.Needs.{where_needed}
use Rattle.cg_stage_laws.specs.Stages.{has_inverted}
use Rattle.cg_hint_laws.specs.declared.hint.Hint.{Hint}

-- whether a list has more than one item
abbrev pub has_more : {A : Type 0} → List A → Bool
has_more items = nat_lt 1 (length items)

-- what a hint needs, in order: a gating cell, an inverter for an inverted literal, an or for more than one term, an and for a term of
-- more than one literal
abbrev pub needs : Hint → List FitKind
needs h =
    Gater
    ∷ where_needed (list_any has_inverted h.terms) Inv
    (where_needed (has_more h.terms) Or2 (where_needed (list_any has_more h.terms) And2 []))

-- What a stage needs of a library, and what the library lacks of it.
use Rattle.std.specs.Prelude.{ℕ, Bool, false, not, if◌then◌else◌, List, [], ◌∷◌, length, nat_lt, Option, is_some}
use Rattle.std.specs.List.{find}
use Rattle.cg_cell.specs.Cell.{CellData}
use Rattle.cg_cell.specs.Library.{first_fit}
use Rattle.cg_cell.specs.declared.fit.FitKind.{FitKind}
use Rattle.cg_cell.specs.declared.fit.FitKind.TheVariants.{And2, Gater, Inv, Or2, TestGater}
use Rattle.cg_machine.specs.declared.stage.Stage.{Stage}
use Rattle.cg_machine.specs.declared.stage.StageKind.{StageKind}
use Rattle.cg_machine.specs.declared.stage.StageKind.TheVariants.{Stable}
use Rattle.cg_stage_laws.specs.Stages.{has_inverted}

-- the gating cell that is needed: one with a test input exactly where there is to be a test input
abbrev pub gater_kind : Bool → FitKind
gater_kind test = if test then TestGater else Gater

-- a kind before others, where it is needed
abbrev pub where_needed : Bool → FitKind → List FitKind → List FitKind
where_needed needed kind kinds = if needed then kind ∷ kinds else kinds

-- whether the registers of a stability stage have an enable before
abbrev pub joins_own : StageKind → Option ℕ → Bool
joins_own Stable own = is_some own
joins_own _ own = false

-- what a stage needs, in order: a gating cell, an inverter for an inverted literal, an or for more than one literal,
-- an and for an enable that is joined with the delay register
abbrev pub needs : Bool → Stage → List FitKind
needs test s =
    gater_kind test
    ∷ where_needed (has_inverted s.enable) Inv
    (where_needed (nat_lt 1 (length s.enable)) Or2 (where_needed (joins_own s.kind s.own) And2 []))

-- the first of these kinds of which the library has no cell
abbrev pub missing : List CellData → List FitKind → Option FitKind
missing library kinds = find (λ kind. not (is_some (first_fit kind library))) kinds

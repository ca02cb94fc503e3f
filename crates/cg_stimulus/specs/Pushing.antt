-- Why a row is not put behind the others.
use Rattle.std.specs.Prelude.{◌≡◌, length}
use Rattle.cg_limit.specs.declared.Limit.TheVariants as limits
use Rattle.cg_limit.specs.declared.TheConstants.{MOST_ROWS}
use Rattle.cg_stimulus.specs.declared.fault.StimulusFault.{StimulusFault}
use Rattle.cg_stimulus.specs.declared.fault.StimulusFault.TheVariants as faults
use Rattle.cg_stimulus.specs.Inputs.{Rows}

-- the limit is answered exactly where it is reached, and nothing else but want of memory
abbrev pub PushRefuses : Rows → StimulusFault → Type 0
PushRefuses stimulus (faults.BadName line) = ⊥
PushRefuses stimulus (faults.MissingInput name) = ⊥
PushRefuses stimulus (faults.BadRow line) = ⊥
PushRefuses stimulus (faults.Limit which) = (which ≡ limits.Rows) × (length stimulus.rows ≡ MOST_ROWS)
PushRefuses stimulus faults.NoMemory = Unit {0}

-- What a stage that was tried leaves of the keys of its registers.
use Rattle.std.specs.Prelude.{Bool, ◌||◌, if◌then◌else◌, Option, Some, None, option_and_then}
use Rattle.cg_machine.specs.declared.stage.Stage.{Stage}
use Rattle.cg_machine.specs.declared.stage.StageKind.{StageKind}
use Rattle.cg_machine.specs.declared.stage.StageKind.TheVariants.{Stable}
use Rattle.cg_stage_laws.specs.Stages.{enable_nets}
use Rattle.cg_stage_list_laws.specs.StableList.{StableKey, same_stable}

-- the key that the registers of a stage of a kind had: the enables that it joined and their own one, or its guards
abbrev pub tried_key : StageKind → Stage → StableKey
tried_key Stable s = record { enables = enable_nets s; own = s.own }
tried_key _ s = record { enables = s.guards; own = None }

-- whether a stage of a kind had a key
abbrev pub had_key : StageKind → StableKey → Stage → Bool
had_key kind key s = same_stable key (tried_key kind s)

-- whether a stage that was tried leaves out a register of it with this key: it was inserted, or had the key
abbrev pub leaves : Bool → StableKey → StableKey → Bool
leaves inserted tried key = inserted || same_stable key tried

-- the key of a register that stood in such a stage, unless it is left out
abbrev pub without : Bool → StableKey → Option StableKey → Option StableKey
without inserted tried key = option_and_then (λ k. if leaves inserted tried k then None else Some k) key

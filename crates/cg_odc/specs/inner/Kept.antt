-- Guards that may not be gated, and the stages of groups without them.
use Rattle.std.specs.Prelude.{◌≡◌, ℕ, ◌<◌, true, not, ◌&&◌, if◌then◌else◌, List, [], slice_get, Option, Some}
use Rattle.std.specs.List.{filter, flat_map}
use Rattle.cg_stage_groups.specs.declared.key.Key.{Key}
use Rattle.cg_stage_list_laws.specs.Groups.{Group}
use Rattle.cg_stage_list_laws.specs.HoldList.{unless_empty}
use Rattle.cg_stage_list_laws.specs.Rounds.{same_kind}
use Rattle.cg_stage_list_laws.specs.StableList.{StableKey}
use Rattle.cg_stage_list_laws.specs.UnseenList.{unseen_stage}
use Rattle.cg_machine.specs.Machine.{MachineData}
use Rattle.cg_machine.specs.declared.stage.Earlier.{Earlier}
use Rattle.cg_machine.specs.declared.stage.Stage.{Stage}
use Rattle.cg_machine.specs.declared.stage.StageKind.TheVariants.{Unseen}
use Rattle.cg_net.specs.NetSets.{is_in}

-- the numbers of keys
abbrev pub key_numbers : List Key → List ℕ
key_numbers keys = flat_map (λ (key : Key). key.numbers.items) keys

-- the guards of the stages of unobservability that were inserted
abbrev pub guards_in : Earlier → List ℕ
guards_in e = if same_kind e.stage.kind Unseen && e.inserted then e.stage.guards else []

abbrev pub inserted_guards : List Earlier → List ℕ
inserted_guards earlier = flat_map guards_in earlier

-- the registers without those that are kept
abbrev pub not_among : List ℕ → List ℕ → List ℕ
not_among kept regs = filter (λ r. not (is_in kept r)) regs

-- the stage of a group without the registers that are kept, where some are left
abbrev pub left_stage : MachineData → List ℕ → Group StableKey → Option Stage
left_stage m kept g = unless_empty (unseen_stage m g.key.enables) (not_among kept g.regs)

-- the numbers of keys are those of registers of the netlist
abbrev pub AreOwnKeys : MachineData → List Key → Type 0
AreOwnKeys m keys = (k : ℕ) (key : Key) → slice_get keys k ≡ Some key → (q : ℕ) → is_in key.numbers.items q ≡ true →
    q < m.own_registers

-- Why a register of a netlist is gated, or why it is not: the first cause that applies.
use Rattle.std.specs.Prelude.{ℕ, Bool, false, not, ◌&&◌, ◌||◌, if◌then◌else◌, List, length, map, nat_lt, slice_get, unwrap_or, Option, None, Some}
use Rattle.std.specs.List.{list_any, range_with_len}
use Rattle.std.specs.Option.{option_map, option_map_or, option_or}
use Rattle.cg_machine.specs.Machine.{MachineData}
use Rattle.cg_net.specs.NetSets.{is_in}
use Rattle.cg_netlist.specs.Circuit.{Circuit, gater_outputs}
use Rattle.cg_stage_list_laws.specs.HoldList.{hold_width}
use Rattle.cg_stage_list_laws.specs.Rounds.{is_empty}
use Rattle.cg_register_text.specs.Trials.{Trial, givers, has, last_failed}
use Rattle.cg_register_text.specs.declared.cause.Cause.{Cause}
use Rattle.cg_register_text.specs.declared.cause.Cause.TheVariants.{Free, Gated, Given, Hint, Stage, Wide}

-- what causes are found in: the netlist that was read, the machine with which the plan began, how wide a claim may be, the hints that
-- were tried before the plan, and its stages
pub record Tried : Type 0 where
  pub read : Circuit
  pub began : MachineData
  pub width : ℕ
  pub hints : List Trial
  pub stages : List Trial

-- whether a register is on a gating cell of a netlist
abbrev pub is_given : Circuit → ℕ → Bool
is_given c r = option_map_or (λ cell. is_in (gater_outputs c) cell.clock) (slice_get c.registers r) false

-- it is gated: a hint or a stage gave it its enable
abbrev pub gated : Tried → ℕ → Option Cause
gated t r = if not (is_empty (givers t.hints r)) || not (is_empty (givers t.stages r)) then Some Gated else None

-- it had an enable in the netlist, and no stage has it
abbrev pub given : Tried → ℕ → Option Cause
given t r = if is_given t.read r && not (list_any (has r) t.stages) then Some Given else None

-- a stage has it and gave it none, and this is the last
abbrev pub tried_in_stage : Tried → ℕ → Option Cause
tried_in_stage t r = option_map Stage (last_failed t.stages r)

-- its hold claims have more leaves than a claim may have
abbrev pub too_wide : Tried → ℕ → Option Cause
too_wide t r = if nat_lt t.width (hold_width t.began r) then Some (Wide (hold_width t.began r)) else None

-- a hint has it and gave it none, and this is the last
abbrev pub tried_in_hint : Tried → ℕ → Option Cause
tried_in_hint t r = option_map Hint (last_failed t.hints r)

-- the first of these, and else it is free
abbrev pub cause_of : Tried → ℕ → Cause
cause_of t r =
    unwrap_or (option_or (gated t r) (option_or (given t r) (option_or (tried_in_stage t r) (option_or (too_wide t r) (tried_in_hint t r))))) Free

-- those of all registers of the netlist, in their order
abbrev pub causes_of : Tried → List Cause
causes_of t = map (cause_of t) (range_with_len 0 (length t.read.registers))

-- What a stage does to a machine where it is inserted.
use Rattle.std.specs.Prelude.{ℕ, if◌then◌else◌, [], ◌∷◌, Option, None, Some}
use Rattle.std.specs.Option.{option_or}
use Rattle.cg_cell.specs.declared.fit.FitKind.TheVariants.{And2, Inv}
use Rattle.cg_limit.specs.declared.Limit.{Limit}
use Rattle.cg_machine.specs.Added.{Added, add_delay, add_gate, delay_limit, gate_limit}
use Rattle.cg_machine.specs.Claims.{Literal}
use Rattle.cg_machine.specs.Machine.{MachineData}
use Rattle.cg_machine.specs.declared.stage.Stage.{Stage}
use Rattle.cg_machine.specs.declared.stage.StageKind.{StageKind}
use Rattle.cg_machine.specs.declared.stage.StageKind.TheVariants.{Hold, Stable, Unseen}
use Rattle.cg_stage_laws.specs.Joined.{enabled, join_all, join_all_limit}
use Rattle.cg_stage_laws.specs.Stages.{enable_nets, first_literal}

-- the net of a literal: an inverter's where it is inverted
abbrev pub literal_net : MachineData → Literal → Added
literal_net m l = if l.1 then add_gate m Inv (l.0 ∷ []) else record { machine = m; net = l.0 }

-- a net a cycle later
abbrev pub delayed : Added → Added
delayed a = add_delay a.machine a.net

-- a net and the enable that registers have before
abbrev pub with_own : Added → Option ℕ → Added
with_own a None = a
with_own a (Some own) = add_gate a.machine And2 (own ∷ a.net ∷ [])

-- the net that the registers of a stage get, in the machine that has it: the net of the literal; the joined enable, delayed,
-- and the own enable; the joined enable
abbrev pub net_by : StageKind → MachineData → Stage → Added
net_by Hold m s = literal_net m (first_literal s.enable)
net_by Stable m s = with_own (delayed (join_all m (enable_nets s))) s.own
net_by Unseen m s = join_all m (enable_nets s)

-- the machine in which the registers have it
abbrev pub effect : MachineData → Stage → MachineData
effect m s = enabled (net_by s.kind m s) s.regs

-- the limit that this passes, if there is one
abbrev pub own_limit : Added → Option ℕ → Option Limit
own_limit a None = None
own_limit a (Some own) = gate_limit a.machine And2 (own ∷ a.net ∷ [])

abbrev pub limit_by : StageKind → MachineData → Stage → Option Limit
limit_by Hold m s = let l = first_literal s.enable in if l.1 then gate_limit m Inv (l.0 ∷ []) else None
limit_by Stable m s =
    let a = join_all m (enable_nets s) in
    option_or (join_all_limit m (enable_nets s)) (option_or (delay_limit a.machine a.net) (own_limit (delayed a) s.own))
limit_by Unseen m s = join_all_limit m (enable_nets s)

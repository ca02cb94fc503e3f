-- A stage keeps the netlist of a machine: gates and delay registers stand behind its parts.
use Rattle.std.proofs.Common.{ℕ, Bool, true, false, List, [], ◌∷◌, Option, None, Some}
use Rattle.cg_cell.specs.declared.fit.FitKind.TheVariants.{And2, Inv, Or2}
use Rattle.cg_machine.specs.Added.{Added, add_gate}
use Rattle.cg_machine.specs.Machine.{MachineData}
use Rattle.cg_machine.specs.declared.stage.Stage.{Stage}
use Rattle.cg_machine.specs.declared.stage.StageKind.{StageKind}
use Rattle.cg_machine.specs.declared.stage.StageKind.TheVariants.{Hold, Stable, Unseen}
use Rattle.cg_machine.proofs.OwnKept.{IsFront, Keeps, delay_keeps, gate_keeps, onward, stays}
use Rattle.cg_stage_laws.specs.Effects.{delayed, effect, literal_net, net_by, with_own}
use Rattle.cg_stage_laws.specs.Joined.{join, join_all}
use Rattle.cg_stage_laws.specs.Stages.{enable_nets, first_literal}

join_keeps : (a : Added) (nets : List ℕ) → IsFront a.machine → Keeps a.machine (join a nets).machine
join_keeps a [] front = stays a.machine front
join_keeps a (y ∷ ys) front =
    let b : Added = add_gate a.machine Or2 (a.net ∷ y ∷ []) in
    let first : Keeps a.machine b.machine = gate_keeps a.machine Or2 (a.net ∷ y ∷ []) front in
    onward a.machine b.machine (join b ys).machine first (join_keeps b ys first.front)

join_all_keeps : (m : MachineData) (nets : List ℕ) → IsFront m → Keeps m (join_all m nets).machine
join_all_keeps m [] front = stays m front
join_all_keeps m (y ∷ ys) front = join_keeps (record { machine = m; net = y }) ys front

literal_keeps : (m : MachineData) (net : ℕ) (inverted : Bool) → IsFront m → Keeps m (literal_net m (net, inverted)).machine
literal_keeps m net true front = gate_keeps m Inv (net ∷ []) front
literal_keeps m net false front = stays m front

own_keeps : (a : Added) (own : Option ℕ) → IsFront a.machine → Keeps a.machine (with_own a own).machine
own_keeps a None front = stays a.machine front
own_keeps a (Some own) front = gate_keeps a.machine And2 (own ∷ a.net ∷ []) front

net_keeps : (kind : StageKind) (m : MachineData) (s : Stage) → IsFront m → Keeps m (net_by kind m s).machine
net_keeps Hold m s front = literal_keeps m (first_literal s.enable).0 (first_literal s.enable).1 front
net_keeps Unseen m s front = join_all_keeps m (enable_nets s) front
net_keeps Stable m s front =
    let a : Added = join_all m (enable_nets s) in
    let first : Keeps m a.machine = join_all_keeps m (enable_nets s) front in
    let second : Keeps a.machine (delayed a).machine = delay_keeps a.machine a.net first.front in
    let third : Keeps (delayed a).machine (with_own (delayed a) s.own).machine = own_keeps (delayed a) s.own second.front in
    onward m a.machine (with_own (delayed a) s.own).machine first (onward a.machine (delayed a).machine (with_own (delayed a) s.own).machine second third)

pub effect_keeps : (m : MachineData) (s : Stage) → IsFront m → Keeps m (effect m s)
effect_keeps m s front = let k : Keeps m (net_by s.kind m s).machine = net_keeps s.kind m s front in record { front = record { cells = k.front.cells; registers = k.front.registers }; same = k.same; prefix = k.prefix; names = k.names }

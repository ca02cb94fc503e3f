-- Nets joined by or gates, and registers that get a net as their enable.
use Rattle.std.specs.Prelude.{ℕ, List, [], ◌∷◌, Option, None}
use Rattle.std.specs.Option.{option_or}
use Rattle.cg_cell.specs.declared.fit.FitKind.TheVariants.{Or2}
use Rattle.cg_limit.specs.declared.Limit.{Limit}
use Rattle.cg_machine.specs.Added.{Added, add_gate, gate_limit, give}
use Rattle.cg_machine.specs.Machine.{MachineData}
use Rattle.cg_machine.specs.Run.{with_enables}

-- a net and more nets joined from the left, the joined net as the first input of each gate
abbrev pub join : Added → List ℕ → Added
join a [] = a
join a (y ∷ ys) = join (add_gate a.machine Or2 (a.net ∷ y ∷ [])) ys

-- the nets of a list joined; of one net it is that net
abbrev pub join_all : MachineData → List ℕ → Added
join_all m [] = record { machine = m; net = 0 }
join_all m (y ∷ ys) = join (record { machine = m; net = y }) ys

-- the first limit that one of these gates passes
abbrev pub join_limit : Added → List ℕ → Option Limit
join_limit a [] = None
join_limit a (y ∷ ys) =
    option_or (gate_limit a.machine Or2 (a.net ∷ y ∷ [])) (join_limit (add_gate a.machine Or2 (a.net ∷ y ∷ [])) ys)

abbrev pub join_all_limit : MachineData → List ℕ → Option Limit
join_all_limit m [] = None
join_all_limit m (y ∷ ys) = join_limit (record { machine = m; net = y }) ys

-- registers get the net as their enable
abbrev pub enabled : Added → List ℕ → MachineData
enabled a regs = with_enables a.machine (give a.machine.enables regs a.net)

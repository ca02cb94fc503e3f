-- The turns of a plan one after another.
use Rattle.std.specs.Prelude.{◌≡◌, List, [], ◌∷◌}
use Rattle.cg_machine.specs.Machine.{MachineData}
use Rattle.cg_plan_laws.specs.Plan.{Turn, after_outcome}

-- from m the turns lead to n: each stage is tried on the machine so far, which it changes by its effect where it is inserted, and
-- else not at all
abbrev pub Lead : List Turn → MachineData → MachineData → Type 0
Lead [] m n = n ≡ m
Lead (turn ∷ turns) m n = (turn.machine ≡ m) × Lead turns (after_outcome m turn.stage turn.outcome) n

-- Lists of stages that may be tried one after another.
use Rattle.std.specs.Prelude.{◌≡◌, ℕ, true, false, List, [], ◌∷◌}
use Rattle.cg_net.specs.NetSets.{is_in}
use Rattle.cg_machine.specs.Machine.{MachineData}
use Rattle.cg_machine.specs.declared.stage.Stage.{Stage}
use Rattle.cg_stage_laws.specs.Stages.{Fits}

-- no stage of a list has one of these registers
abbrev pub AreApart : List ℕ → List Stage → Type 0
AreApart regs [] = Unit {0}
AreApart regs (s ∷ stages) = ((r : ℕ) → is_in s.regs r ≡ true → is_in regs r ≡ false) × AreApart regs stages

-- each stage fits the machine, and no two have a register in common
abbrev pub AllFit : MachineData → List Stage → Type 0
AllFit m [] = Unit {0}
AllFit m (s ∷ stages) = Fits m s × AreApart s.regs stages × AllFit m stages

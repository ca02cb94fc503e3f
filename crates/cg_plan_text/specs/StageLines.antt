-- The lines of a report on a plan: what was counted, how many registers have hold claims that are too wide, the hints that were tried
-- before it, and the stages.
use Rattle.std.specs.Prelude.{ℕ, ◌+◌, ◌-◌, List, [], ◌∷◌, ◌++◌, length, codes}
use Rattle.std.specs.Fmt.{decimal}
use Rattle.cg_hint_laws.specs.declared.hint.Hint.{Hint}
use Rattle.cg_hint_laws.specs.declared.outcome.HintOutcome.{HintOutcome}
use Rattle.cg_machine.specs.Machine.{MachineData}
use Rattle.cg_machine.specs.declared.stage.Stage.{Stage}
use Rattle.cg_plan_laws.specs.Reported.{ReportedPlan}
use Rattle.cg_plan_laws.specs.declared.outcome.Outcome.{Outcome}
use Rattle.cg_text.specs.Written.{line_text, text_of}
use Rattle.cg_plan_text.specs.HintWords.{hints_from}
use Rattle.cg_plan_text.specs.Words.{Word, stage_words}

-- the netlist's own registers, the delay registers, the added gates, and the gating cells of the written netlist
abbrev pub counts_words : MachineData → ℕ → List Word
counts_words m gates =
    codes "registers" ∷ decimal m.own_registers ∷ codes "delays" ∷ decimal (length m.circuit.registers - m.own_registers)
    ∷ codes "cells" ∷ decimal (length m.gates) ∷ codes "gates" ∷ decimal gates ∷ []

abbrev pub wide_words : ℕ → List Word
wide_words wide = codes "hold" ∷ codes "wide" ∷ decimal wide ∷ []

-- the stages, of which the first has this number
abbrev pub stages_from : MachineData → ℕ → List (Stage × Outcome) → List (List Word)
stages_from m number [] = []
stages_from m number (tried ∷ later) = stage_words m number tried ∷ stages_from m (number + 1) later

-- the lines from the counts to the last stage
abbrev pub stage_lines : ReportedPlan → ℕ → List ℕ
stage_lines plan gates = text_of (counts_words plan.machine gates ∷ wide_words plan.wide ∷ stages_from plan.machine 1 plan.stages)

-- and those of hints that were tried before it behind the second
abbrev pub plan_lines : ReportedPlan → List Hint → List HintOutcome → ℕ → List ℕ
plan_lines plan hints outcomes gates =
    line_text (counts_words plan.machine gates)
    ++ (line_text (wide_words plan.wide)
    ++ (text_of (hints_from plan.machine 1 hints outcomes) ++ text_of (stages_from plan.machine 1 plan.stages)))

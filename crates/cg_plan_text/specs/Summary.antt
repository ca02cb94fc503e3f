-- What is said of a plan, and the report on it.
use Rattle.std.specs.Prelude.{ℕ, ◌-◌, if◌then◌else◌, List, [], ◌∷◌, ◌++◌, length, codes, nat_le, Option, None, Some}
use Rattle.std.specs.Fmt.{decimal}
use Rattle.std.specs.List.{count_by}
use Rattle.cg_hint_laws.specs.declared.hint.Hint.{Hint}
use Rattle.cg_hint_laws.specs.declared.outcome.HintOutcome.{HintOutcome}
use Rattle.cg_machine.specs.declared.stage.Stage.{Stage}
use Rattle.cg_plan_laws.specs.Plan.{is_inserted}
use Rattle.cg_plan_laws.specs.Reported.{ReportedPlan}
use Rattle.cg_plan_laws.specs.declared.outcome.Outcome.{Outcome}
use Rattle.cg_text.specs.Written.{line_text}
use Rattle.cg_plan_text.specs.HintWords.{hints_line}
use Rattle.cg_plan_text.specs.StageLines.{counts_words, plan_lines}
use Rattle.cg_plan_text.specs.Words.{Word}
use Rattle.cg_plan_text.specs.declared.summary.Edges.{Edges}
use Rattle.cg_plan_text.specs.declared.summary.Played.{Played}

-- how many stages were tried, and how many were inserted
abbrev pub summary_of : List (Stage × Outcome) → List Word
summary_of stages =
    codes "stages" ∷ decimal (length stages) ∷ codes "inserted" ∷ decimal (count_by (λ tried. is_inserted tried.1) stages) ∷ []

abbrev pub summary_words : ReportedPlan → List Word
summary_words plan = summary_of plan.stages

-- the first number less the second, with a `-` where it is negative
abbrev pub difference_word : ℕ → ℕ → Word
difference_word a b = if nat_le b a then decimal (a - b) else 45 ∷ decimal (b - a)

abbrev pub edges_words : Edges → List Word
edges_words edges =
    codes "edges" ∷ codes "original" ∷ decimal edges.original ∷ codes "written" ∷ decimal edges.written ∷ codes "saved"
    ∷ difference_word edges.original edges.written ∷ []

-- what came of a stimulus: the line of the edges where there is a stimulus, and that of a watcher where one is asked for
abbrev pub edges_line : Option Edges → List ℕ
edges_line None = []
edges_line (Some edges) = line_text (edges_words edges)

abbrev pub watched_line : Option Word → List ℕ
watched_line None = []
watched_line (Some line) = line ++ 10 ∷ []

abbrev pub played_lines : Played → List ℕ
played_lines played = edges_line played.edges ++ watched_line played.watched

-- what `gate` says: of the hints, where they are asked for, of the stages, and of what came of the stimulus
abbrev pub said_text : ReportedPlan → Option (List HintOutcome) → Played → List ℕ
said_text plan hints played = hints_line hints ++ (line_text (summary_words plan) ++ played_lines played)

-- the report: the model's name, the hints and the plan with so many gating cells, and what came of the stimulus
abbrev pub report_text : ReportedPlan → List Hint → List HintOutcome → ℕ → Played → List ℕ
report_text plan hints outcomes gates played =
    line_text (codes "model" ∷ plan.machine.circuit.model ∷ []) ++ (plan_lines plan hints outcomes gates ++ played_lines played)

-- what `demo` says of a pipeline of this size
abbrev pub demo_text : ℕ → ReportedPlan → ℕ → Edges → List ℕ
demo_text size plan gates edges =
    line_text (codes "demo" ∷ decimal size ∷ [])
    ++ (line_text (counts_words plan.machine gates) ++ (line_text (summary_words plan) ++ line_text (edges_words edges)))

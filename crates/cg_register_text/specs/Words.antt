-- The lines of the registers of a netlist that was gated, and of their sums. Registers, nets and outputs have the names that the report
-- has for them.
use Rattle.std.specs.Prelude.{◌≡◌, ◌≤◌, ℕ, ◌-◌, Bool, true, false, List, [], ◌∷◌, ◌++◌, codes, length, map, slice_get, slice_index_or, sum, Option, None, Some}
use Rattle.std.specs.Fmt.{decimal}
use Rattle.std.specs.List.{count_by, range_with_len}
use Rattle.std.specs.Option.{option_map_or}
use Rattle.cg_hint_laws.specs.Answers.{without_bits as without_hint_bits}
use Rattle.cg_hint_laws.specs.declared.hint.Hint.{Hint}
use Rattle.cg_hint_laws.specs.declared.outcome.HintOutcome.{HintOutcome}
use Rattle.cg_machine.specs.Machine.{MachineData}
use Rattle.cg_net.specs.Names.{net_name}
use Rattle.cg_netlist.specs.Circuit.{Circuit}
use Rattle.cg_plan_laws.specs.Reported.{ReportedPlan, without_bits}
use Rattle.cg_plan_text.specs.HintWords.{hint_outcome_words}
use Rattle.cg_plan_text.specs.Words.{Word, outcome_words, register_word}
use Rattle.cg_text.specs.Written.{text_of}
use Rattle.cg_register_text.specs.Causes.{Tried, cause_of, causes_of}
use Rattle.cg_register_text.specs.Trials.{givers, hint_trials, stage_trials}
use Rattle.cg_register_text.specs.declared.cause.Cause.{Cause}
use Rattle.cg_register_text.specs.declared.cause.Cause.TheVariants as causes
use Rattle.cg_register_text.specs.declared.rises.BothRises.{BothRises}

-- a netlist that was gated, as far as its registers are told: the netlist that was read, and the written one; the machine with which the
-- plan began, and how wide a claim may be; the hints that were tried, what came of each, and the plan behind them. The plan's own machine,
-- the one at the end, may stand for the one with which it began: either gives the same text.
pub record GatedData : Type 0 where
  pub read : Circuit
  pub written : Circuit
  pub began : MachineData
  pub width : ℕ
  pub hints : List Hint
  pub outcomes : List HintOutcome
  pub plan : ReportedPlan

-- what the causes of its registers are found in, with hints and stages as they are told
abbrev pub tried_of : GatedData → Tried
tried_of g =
    record {
      read = g.read;
      began = g.began;
      width = g.width;
      hints = hint_trials g.hints g.outcomes;
      stages = stage_trials g.plan.stages;
    }

-- the clock net of a register of the written netlist
abbrev pub clock_word : Circuit → ℕ → Word
clock_word written r = option_map_or (λ cell. net_name written.names cell.clock) (slice_get written.registers r) []

-- numbers behind a word, where there are some
abbrev pub numbers_words : Word → List ℕ → List Word
numbers_words word [] = []
numbers_words word (number ∷ numbers) = word ∷ decimal number ∷ map decimal numbers

-- what came of the stage, of the hint of this number, without bits
abbrev pub stage_outcome : GatedData → ℕ → List Word
stage_outcome g number =
    option_map_or (λ tried. outcome_words g.plan.machine (without_bits tried.1)) (slice_get g.plan.stages (number - 1)) []

abbrev pub hint_outcome : GatedData → ℕ → List Word
hint_outcome g number =
    option_map_or (λ outcome. hint_outcome_words g.plan.machine (without_hint_bits outcome)) (slice_get g.outcomes (number - 1)) []

-- a cause; of a gated register the hint and the stages that gave it its enable
abbrev pub cause_words : GatedData → ℕ → Cause → List Word
cause_words g r causes.Gated =
    codes "gated"
    ∷ (numbers_words (codes "hint") (givers (tried_of g).hints r) ++ numbers_words (codes "stage") (givers (tried_of g).stages r))
cause_words g r causes.Given = codes "given" ∷ []
cause_words g r (causes.Stage number) = codes "tried" ∷ codes "stage" ∷ decimal number ∷ stage_outcome g number
cause_words g r (causes.Hint number) = codes "tried" ∷ codes "hint" ∷ decimal number ∷ hint_outcome g number
cause_words g r (causes.Wide width) = codes "wide" ∷ decimal width ∷ []
cause_words g r causes.Free = codes "free" ∷ []

-- rises in the netlist that was read and in the written one
abbrev pub edges_words : ℕ → ℕ → List Word
edges_words original written = codes "edges" ∷ decimal original ∷ decimal written ∷ []

-- those of a register, where a stimulus is played
abbrev pub register_edges : Option BothRises → ℕ → List Word
register_edges None r = []
register_edges (Some rises) r = edges_words (slice_index_or rises.original r 0) (slice_index_or rises.written r 0)

-- a register's line
abbrev pub line_words : GatedData → Option BothRises → ℕ → List Word
line_words g rises r =
    codes "register" ∷ register_word g.plan.machine r ∷ codes "clock" ∷ clock_word g.written r
    ∷ (cause_words g r (cause_of (tried_of g) r) ++ register_edges rises r)

-- kinds of causes
abbrev pub is_gated : Cause → Bool
is_gated causes.Gated = true
is_gated _ = false

abbrev pub is_given : Cause → Bool
is_given causes.Given = true
is_given _ = false

abbrev pub is_tried : Cause → Bool
is_tried (causes.Stage number) = true
is_tried (causes.Hint number) = true
is_tried _ = false

abbrev pub is_wide : Cause → Bool
is_wide (causes.Wide width) = true
is_wide _ = false

abbrev pub is_free : Cause → Bool
is_free causes.Free = true
is_free _ = false

-- all rises of all registers, those of delay registers among them
abbrev pub all_edges : Option BothRises → List Word
all_edges None = []
all_edges (Some rises) = edges_words (sum rises.original) (sum rises.written)

-- how many registers have a cause of each kind
abbrev pub kinds_words : List Cause → List Word
kinds_words found =
    codes "gated" ∷ decimal (count_by is_gated found) ∷ codes "given" ∷ decimal (count_by is_given found) ∷ codes "tried"
    ∷ decimal (count_by is_tried found) ∷ codes "wide" ∷ decimal (count_by is_wide found) ∷ codes "free"
    ∷ decimal (count_by is_free found) ∷ []

-- the line of the sums
abbrev pub sums_words : List Cause → Option BothRises → List Word
sums_words found rises = codes "registers" ∷ decimal (length found) ∷ (kinds_words found ++ all_edges rises)

-- the text: a line for each register of the netlist that was read, in register order, and one of the sums
abbrev pub registers_text : GatedData → Option BothRises → List ℕ
registers_text g rises =
    text_of (map (line_words g rises) (range_with_len 0 (length g.read.registers)) ++ sums_words (causes_of (tried_of g)) rises ∷ [])

-- The netlists and the plan's machine are of one netlist: its registers are registers of the machine and of the written netlist. There is
-- an outcome for each hint.
pub record IsToldOf (g : GatedData) : Type 0 where
  pub machine : length g.read.registers ≤ length g.plan.machine.circuit.registers
  pub written : length g.read.registers ≤ length g.written.registers
  pub hints : length g.hints ≡ length g.outcomes

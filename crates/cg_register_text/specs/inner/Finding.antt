-- How the causes of registers are found.
use Rattle.std.specs.Prelude.{ℕ, Bool, not, ◌||◌, if◌then◌else◌, length, nat_lt, List, Option, None, Some, is_none}
use Rattle.std.specs.List.{filter, range_with_len}
use Rattle.cg_register_text.specs.Causes.{Tried, is_given}
use Rattle.cg_stage_list_laws.specs.Rounds.{is_empty}
use Rattle.cg_register_text.specs.Trials.{hint_trials, stage_trials}
use Rattle.cg_register_text.specs.Words.{GatedData}
use Rattle.cg_register_text.specs.inner.Seeing.{AreSeen, seen_of}
use Rattle.cg_register_text.specs.declared.cause.Cause.{Cause}
use Rattle.cg_register_text.specs.declared.cause.Cause.TheVariants.{Free, Gated, Given, Hint, Stage, Wide}
use Rattle.cg_register_text.specs.declared.finding.Tables.{Tables}
use Rattle.cg_register_text.specs.declared.seen.Seen.{Seen}

-- what was tried for each register of the netlist that was read
pub record AreTables (g : GatedData) (tables : Tables) : Type 0 where
  pub hints : AreSeen (length g.read.registers) (hint_trials g.hints g.outcomes) tables.hints.items
  pub stages : AreSeen (length g.read.registers) (stage_trials g.plan.stages) tables.stages.items

-- the cause of a register for which this was tried, unless its hold claims have to be measured
abbrev pub or_given : Bool → Option ℕ → Option Cause
or_given given None = if given then Some Given else None
or_given given (Some number) = Some (Stage number)

abbrev pub cause_seen : Seen → Seen → Bool → Option Cause
cause_seen hints stages given =
    if not (is_empty hints.givers) || not (is_empty stages.givers) then Some Gated else or_given given stages.failed

-- the cause of any other: that its hold claims are too wide, or else the last hint that was tried for it, if there is one
abbrev pub or_free : Option ℕ → Cause
or_free None = Free
or_free (Some number) = Hint number

abbrev pub cause_by_width : ℕ → Option ℕ → ℕ → Cause
cause_by_width most failed width = if nat_lt most width then Wide width else or_free failed

-- the cause of a register, unless its hold claims have to be measured, and the registers whose hold claims are
abbrev pub seen_cause : Tried → ℕ → Option Cause
seen_cause t r = cause_seen (seen_of t.hints r) (seen_of t.stages r) (is_given t.read r)

abbrev pub is_measured : Tried → ℕ → Bool
is_measured t r = is_none (seen_cause t r)

abbrev pub measured_regs : Tried → List ℕ
measured_regs t = filter (is_measured t) (range_with_len 0 (length t.read.registers))

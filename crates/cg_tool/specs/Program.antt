-- What a run of the program does, by its words.
use Rattle.std.specs.Prelude.{◌≡◌, ℕ, Bool, if◌then◌else◌, IsTrue, List, codes, Option, None, Some, IfSome, ⊤}
use Rattle.cg_shelf.specs.World.{World}
use Rattle.cg_run.specs.Names.{file_of}
use Rattle.cg_run.specs.Promise.{EndsAs, FinishBy, KeepsOthers, UnlessFails, held_files}
use Rattle.cg_run.specs.Refusal.{complaint_line}
use Rattle.cg_run.specs.Run.{Complains, Runs}
use Rattle.cg_run.specs.Verdict.{Task}
use Rattle.cg_run.specs.declared.status.Status.{Status}
use Rattle.cg_run.specs.declared.status.Status.TheVariants as statuses
use Rattle.cg_command_line.specs.Jobs.{JobWords}
use Rattle.cg_command_line.specs.declared.job.Mode.{Mode}
use Rattle.cg_command_line.specs.declared.job.Mode.TheVariants.{Demo, Gate, Lrat, Sim}
use Rattle.cg_command_line.specs.declared.options.Options.{Options}
use Rattle.cg_source.specs.declared.stimulus.StimulusForm.{StimulusForm}
use Rattle.cg_tool.specs.Demo.{IsDemo, demo_task}
use Rattle.cg_tool.specs.Gate.{gate_task}
use Rattle.cg_tool.specs.Gated.{IsGated}
use Rattle.cg_tool.specs.JobLaws.{JobLaws}
use Rattle.cg_tool.specs.Lrat.{IsChecked, lrat_task}
use Rattle.cg_tool.specs.Sim.{IsSimulated, sim_task}
use Rattle.cg_tool.specs.Trials.{first_refusal}
use Rattle.cg_tool.specs.Watching.{Kind, kind_at}

-- what a mode does with what the options say, where watchers of these kinds may be asked for
abbrev pub task_in : List Kind → Mode → Options → Task
task_in kinds Gate options = gate_task options (kind_at kinds options.watch)
task_in kinds (Sim form) options = sim_task form options.netlist (kind_at kinds options.watch)
task_in kinds Lrat options = lrat_task
task_in kinds (Demo size) options = demo_task size

-- what a job does
abbrev pub task_by : List Kind → JobWords → Task
task_by kinds job = task_in kinds job.mode job.options

-- the same, with what its files are refused for as the first of what it tries, in its order, that refuses
abbrev pub job_task : List Kind → JobWords → Task
job_task kinds job = record (task_by kinds job) { refused = first_refusal job.mode job.options }

-- Words that ask for nothing are complained of, and nothing else is done. Want of memory may come in their place.
pub record RefusesWords (before after : World) (result : Status) : Type 0 where
  pub has_memory : Bool
  pub complains : Complains (complaint_line (if has_memory then codes "usage" else codes "no memory"))
      (if has_memory then statuses.Usage else statuses.NoMemory) before after result

-- What a run did that was asked for this job, if for any, where each job is this task.
abbrev pub RunsWords : (JobWords → Task) → Option JobWords → World → World → Status → Type 0
RunsWords task None before after result = RefusesWords before after result
RunsWords task (Some job) before after result = Runs (task job) (file_of job.files) before after result

-- the end is this one, or want of memory
abbrev pub IsOrNoMemory : Status → Status → Type 0
IsOrNoMemory expected statuses.NoMemory = ⊤
IsOrNoMemory expected result = result ≡ expected

-- names that the words do not give hold what they held, where the words ask for nothing
abbrev pub KeepsAll : Option JobWords → World → World → Type 0
KeepsAll None before after = after.held ≡ before.held
KeepsAll (Some job) before after = ⊤

-- What the program promises of a run over a shelf, where its words ask for this job, if for any, and watchers of these kinds are
-- there.
pub record Promises (kinds : List Kind) (asked : Option JobWords) (before after : World) (result : Status) : Type 0 where
  -- What the run did: what each load gave; the one output that it put out, or the first of what the job tries that refused;
  -- its calls in order, with what each answered; how it ended, and what it complained of; and what stands.
  pub runs : RunsWords (job_task kinds) asked before after result
  -- Usage comes exactly of words that are no job
  pub usage : result ≡ statuses.Usage → asked ≡ None
  pub usage_only : asked ≡ None → IsOrNoMemory statuses.Usage result
  pub usage_keeps : IsTrue before.tells → KeepsAll asked before after
  -- every name but that of a stored file holds what it held
  pub others : IsTrue before.tells → IfSome asked (λ job. KeepsOthers (job_task kinds job) (file_of job.files) before after)
  -- where no call of the shelf fails and memory is there, a job ends as its files come to
  pub comes : IsTrue before.tells
      → IfSome asked (λ job. UnlessFails (EndsAs (job_task kinds job) (held_files (file_of job.files) before)) result)
  -- `gate` writes a netlist that shows, from every state and for all time, what the one that it read shows
  pub gated : IsTrue before.tells
      → IfSome asked (λ job. job.mode ≡ Gate
      → FinishBy (IsGated job.options (kind_at kinds job.options.watch) (file_of job.files) before after) result)
  -- `sim` says the lines of the one history on which the stimulus is played, and what the watcher says of its moments
  pub simulated : IsTrue before.tells
      → IfSome asked (λ job. (form : StimulusForm) → job.mode ≡ Sim form
      → FinishBy (IsSimulated form job.options.netlist (kind_at kinds job.options.watch) (file_of job.files) before after) result)
  -- `demo` says the summary of the generated pipeline, gated as its stimulus and the defaults say
  pub shown : IsTrue before.tells
      → IfSome asked (λ job. (size : ℕ) → job.mode ≡ Demo size → FinishBy (IsDemo size before after) result)
  -- `lrat` checks the proof that it was given, and what it accepts has no satisfying assignment
  pub checked : IsTrue before.tells
      → IfSome asked (λ job. job.mode ≡ Lrat → FinishBy (IsChecked (file_of job.files) before after) result)
  -- and whatever became of the run
  pub laws : JobLaws asked

-- What every run of the program keeps, by its words.
use Rattle.std.proofs.Common.{◌≡◌, ℕ, Bool, if◌then◌else◌, true, false, IsTrue, List, [], ◌∷◌, codes, Option, None, Some, Result}
use Rattle.std.proofs.Common.{Ok, Err, refl, sym, subst, ◌∙◌}
use Rattle.std.specs.Prelude.{IfSome}
use Rattle.cg_shelf.specs.World.{World}
use Rattle.cg_shelf.specs.declared.faults.StoreFault.{StoreFault}
use Rattle.cg_shelf.specs.declared.faults.StoreFault.TheVariants as stores
use Rattle.cg_run.specs.Names.{file_of}
use Rattle.cg_run.specs.Promise.{EndsAs, EndsBy, FinishBy, KeepsOthers, UnlessFails, held_files}
use Rattle.cg_run.specs.Refusal.{complaint_line}
use Rattle.cg_run.specs.Run.{Cause, Complains, Runs, status_after}
use Rattle.cg_run.specs.declared.refusal.Refusal.{Refusal}
use Rattle.cg_run.specs.declared.writing.Output.{Output}
use Rattle.cg_run.specs.declared.writing.Finish.{Finish}
use Rattle.cg_run.specs.declared.role.Role.{Role}
use Rattle.cg_run.specs.declared.role.Role.TheVariants as roles
use Rattle.cg_run.specs.declared.status.Status.{Status}
use Rattle.cg_run.specs.declared.status.Status.TheVariants as statuses
use Rattle.cg_run.specs.Verdict.{ComesTo, Given, Task}
use Rattle.cg_run.proofs.Completes.{completes}
use Rattle.cg_run.proofs.Finished.{Finishes, finish_map, finished_so}
use Rattle.cg_run.proofs.Others.{others}
use Rattle.cg_run.proofs.Unbegun.{never_usage, runs_unbegun}
use Rattle.clap.specs.Words.{Text}
use Rattle.cg_command_line.specs.Jobs.{JobWords, job_of}
use Rattle.cg_command_line.proofs.NamedClock.{clock_is_named}
use Rattle.cg_command_line.specs.declared.job.Mode.{Mode}
use Rattle.cg_command_line.specs.declared.job.Mode.TheVariants.{Demo, Gate, Lrat, Sim}
use Rattle.cg_command_line.specs.declared.options.Options.{Options}
use Rattle.cg_tool.specs.Demo.{IsDemo, demo_gives, demo_stops, demo_takes, demo_task}
use Rattle.cg_source.specs.Stimulus.{has_file, is_loaded}
use Rattle.cg_source.specs.Design.{design_loads}
use Rattle.cg_source.specs.Netlist.{IsNamedClock, RefusesForFirstFaults}
use Rattle.cg_source.proofs.NetlistTexts.{refused_for_first}
use Rattle.cg_source.specs.declared.stimulus.StimulusForm.{StimulusForm}
use Rattle.cg_tool.specs.Gate.{gate_gives, gate_start, gate_stops, gate_takes, gate_task}
use Rattle.cg_tool.specs.Gated.{IsGated}
use Rattle.cg_tool.specs.Lrat.{IsChecked, lrat_gives, lrat_start, lrat_stops, lrat_takes, lrat_task}
use Rattle.cg_tool.specs.Program.{IsOrNoMemory, KeepsAll, RefusesWords, RunsWords, job_task, task_by, task_in}
use Rattle.cg_tool.specs.Sim.{IsSimulated, sim_gives, sim_start, sim_stops, sim_takes, sim_task}
use Rattle.cg_tool.specs.Trials.{first_refusal}
use Rattle.cg_tool.specs.Watching.{Kind, kind_at}
use Rattle.cg_tool.proofs.DemoMeans.{demo_means}
use Rattle.cg_tool.proofs.FirstRefused.{job_first}
use Rattle.cg_tool.proofs.GateMeans.{gated_means}
use Rattle.cg_tool.proofs.LratMeans.{checked}
use Rattle.cg_tool.proofs.SimMeans.{simulated_means}

-- words that are no job end with Usage, or want of memory
usage_answered : (answer : Result (Unit {0}) StoreFault) → IsOrNoMemory statuses.Usage (status_after statuses.Usage answer)
usage_answered (Ok x) = refl
usage_answered (Err stores.Failed) = refl
usage_answered (Err stores.NoMemory) = tt

memory_answered : (answer : Result (Unit {0}) StoreFault) → IsOrNoMemory statuses.Usage (status_after statuses.NoMemory answer)
memory_answered (Ok x) = tt
memory_answered (Err stores.Failed) = tt
memory_answered (Err stores.NoMemory) = tt

pub refused_words : (before after : World) (result : Status) → Complains (complaint_line (codes "usage")) statuses.Usage before after result → RefusesWords before after result
refused_words before after result complains = record { has_memory = true; complains = complains }

unread_words : (before after : World) (result : Status) → Complains (complaint_line (codes "no memory")) statuses.NoMemory before after result → RefusesWords before after result
unread_words before after result complains = record { has_memory = false; complains = complains }

words_answered : (has : Bool) (before after : World) (result : Status) → Complains (complaint_line (if has then codes "usage" else codes "no memory")) (if has then statuses.Usage else statuses.NoMemory) before after result → IsOrNoMemory statuses.Usage result
words_answered true before after result complains = let P : Status → Type 0 = λ s. IsOrNoMemory statuses.Usage s in subst P (sym complains.ends) (usage_answered complains.answer)
words_answered false before after result complains = let P : Status → Type 0 = λ s. IsOrNoMemory statuses.Usage s in subst P (sym complains.ends) (memory_answered complains.answer)

module _ (kinds : List Kind) where
  -- memory was wanting for the words
  mode_unread : (mode : Mode) (options : Options) (names : Role → List ℕ) (before after : World) (result : Status)
      → Complains (complaint_line (codes "no memory")) statuses.NoMemory before after result → Runs (task_in kinds mode options) names before after result
  mode_unread Gate options names before after result complains = runs_unbegun gate_takes gate_stops (gate_gives (kind_at kinds options.watch)) names (gate_start options) (design_loads (is_loaded options.asked.stimulus) options.asked.hints) before after result complains
  mode_unread (Sim form) options names before after result complains =
      runs_unbegun sim_takes sim_stops (sim_gives (kind_at kinds options.watch)) names (sim_start form options.netlist) (design_loads (has_file form) false) before after result complains
  mode_unread Lrat options names before after result complains = runs_unbegun lrat_takes lrat_stops lrat_gives names lrat_start (roles.Formula ∷ roles.Log ∷ []) before after result complains
  mode_unread (Demo size) options names before after result complains = runs_unbegun demo_takes demo_stops demo_gives names (record { size = size }) [] before after result complains

  pub runs_unread : (job : Option JobWords) (before after : World) (result : Status) → Complains (complaint_line (codes "no memory")) statuses.NoMemory before after result → RunsWords (task_by kinds) job before after result
  runs_unread None before after result complains = unread_words before after result complains
  runs_unread (Some job) before after result complains = mode_unread job.mode job.options (file_of job.files) before after result complains

  pub usage_only : (job : Option JobWords) (before after : World) (result : Status) → RunsWords (task_by kinds) job before after result → job ≡ None → IsOrNoMemory statuses.Usage result
  usage_only None before after result runs none = words_answered runs.has_memory before after result runs.complains
  usage_only (Some job) before after result runs none = cc

  pub usage : (job : Option JobWords) (before after : World) (result : Status) → RunsWords (task_by kinds) job before after result → result ≡ statuses.Usage → job ≡ None
  usage None before after result runs used = refl
  usage (Some job) before after result runs used =
      absurd (never_usage (task_by kinds job) (file_of job.files) before after result runs used)

  pub usage_keeps : (job : Option JobWords) (before after : World) (result : Status) → RunsWords (task_by kinds) job before after result → IsTrue before.tells → KeepsAll job before after
  usage_keeps None before after result runs t = (runs.complains).same_held t
  usage_keeps (Some job) before after result runs t = tt

  -- a run of a task is one of the same task that says otherwise for what its files are refused
  comes_as : (task : Task) (refused : Given → Option Refusal) (given : Given) (out : Option Output) → task.refused given ≡ refused given → IfSome out (ComesTo task given) → IfSome out (ComesTo (record task { refused = refused }) given)
  comes_as task refused given (Some output) same comes = record { unrefused = sym same ∙ comes.unrefused; comes = comes.comes }
  comes_as task refused given None same comes = tt

  runs_as : (task : Task) (refused : Given → Option Refusal) (names : Role → List ℕ) (before after : World) (result : Status) → ((given : Given) → task.refused given ≡ refused given) → Runs task names before after result
      → Runs (record task { refused = refused }) names before after result
  runs_as task refused names before after result same runs =
      let C : Option Refusal → Type 0 = λ r. Cause r runs.out runs.outcome in
      record {
        given = runs.given;
        out = runs.out;
        outcome = runs.outcome;
        complaint = runs.complaint;
        told = runs.told;
        comes = comes_as task refused runs.given runs.out (same runs.given) runs.comes;
        cause = subst C (same runs.given) runs.cause;
        unloaded = runs.unloaded;
        calls = runs.calls;
        ends = runs.ends;
        leaves = runs.leaves;
        tells = runs.tells;
        stands = runs.stands;
        fails = runs.fails;
      }

  job_run : (job : JobWords) (before after : World) (result : Status) → Runs (task_by kinds job) (file_of job.files) before after result → Runs (job_task kinds job) (file_of job.files) before after result
  job_run job before after result runs = runs_as (task_by kinds job) (first_refusal job.mode job.options) (file_of job.files) before after result (job_first kinds (Some job)) runs

  pub job_runs : (job : Option JobWords) (before after : World) (result : Status) → RunsWords (task_by kinds) job before after result → RunsWords (job_task kinds) job before after result
  job_runs None before after result runs = runs
  job_runs (Some job) before after result runs = job_run job before after result runs

  pub job_others : (job : Option JobWords) (before after : World) (result : Status) → RunsWords (task_by kinds) job before after result → IsTrue before.tells → IfSome job (λ j. KeepsOthers (job_task kinds j) (file_of j.files) before after)
  job_others None before after result runs t = tt
  job_others (Some job) before after result runs t = others (job_task kinds job) (file_of job.files) before after result (job_run job before after result runs) t

  mode_comes : (mode : Mode) (options : Options) (names : Role → List ℕ) (before after : World) (result : Status)
      → Runs (task_in kinds mode options) names before after result → IsTrue before.tells → UnlessFails (EndsAs (task_in kinds mode options) (held_files names before)) result
  mode_comes Gate options names before after result runs t = completes gate_takes gate_stops (gate_gives (kind_at kinds options.watch)) (gate_start options) (design_loads (is_loaded options.asked.stimulus) options.asked.hints) names before after result runs t
  mode_comes (Sim form) options names before after result runs t =
      completes sim_takes sim_stops (sim_gives (kind_at kinds options.watch)) (sim_start form options.netlist) (design_loads (has_file form) false) names before after result runs t
  mode_comes Lrat options names before after result runs t = completes lrat_takes lrat_stops lrat_gives lrat_start (roles.Formula ∷ roles.Log ∷ []) names before after result runs t
  mode_comes (Demo size) options names before after result runs t = completes demo_takes demo_stops demo_gives (record { size = size }) [] names before after result runs t

  -- what ends a run by what its files are refused for
  ends_as : (task : Task) (refused : Given → Option Refusal) (given : Given) (result : Status) → task.refused given ≡ refused given → UnlessFails (EndsAs task given) result → UnlessFails (EndsAs (record task { refused = refused }) given) result
  ends_as task refused given result same ends = let E : Option Refusal → Type 0 = λ r. UnlessFails (EndsBy r (task.comes given)) result in subst E same ends

  pub job_comes : (job : Option JobWords) (before after : World) (result : Status) → RunsWords (task_by kinds) job before after result → IsTrue before.tells
      → IfSome job (λ j. UnlessFails (EndsAs (job_task kinds j) (held_files (file_of j.files) before)) result)
  job_comes None before after result runs t = tt
  job_comes (Some job) before after result runs t =
      let given = held_files (file_of job.files) before in
      ends_as (task_by kinds job) (first_refusal job.mode job.options) given result (job_first kinds (Some job) given) (mode_comes job.mode job.options (file_of job.files) before after result runs t)

  -- what a finished run means, mode by mode
  finished_means : (task : Task) (names : Role → List ℕ) (before after : World) (P : Finish → Type 0) (result : Status) → ((finish : Finish) → Finishes task names before after finish → P finish)
      → Runs task names before after result → IsTrue before.tells → FinishBy P result
  finished_means task names before after P result means runs t =
      finish_map (λ finish. Finishes task names before after finish) P result means (finished_so task names before after result runs t)

  mode_gated : (mode : Mode) (options : Options) (names : Role → List ℕ) (before after : World) (result : Status) → mode ≡ Gate → Runs (task_in kinds mode options) names before after result → IsTrue before.tells
      → FinishBy (IsGated options (kind_at kinds options.watch) names before after) result
  mode_gated Gate options names before after result is runs t = let kind = kind_at kinds options.watch in
      finished_means (gate_task options kind) names before after (IsGated options kind names before after) result (gated_means options kind names before after) runs t
  mode_gated (Sim form) options names before after result is runs t = cc
  mode_gated Lrat options names before after result is runs t = cc
  mode_gated (Demo size) options names before after result is runs t = cc

  pub job_gated : (job : Option JobWords) (before after : World) (result : Status) → RunsWords (task_by kinds) job before after result → IsTrue before.tells
      → IfSome job (λ j. j.mode ≡ Gate → FinishBy (IsGated j.options (kind_at kinds j.options.watch) (file_of j.files) before after) result)
  job_gated None before after result runs t = tt
  job_gated (Some job) before after result runs t = λ is. mode_gated job.mode job.options (file_of job.files) before after result is runs t

  mode_simulated : (mode : Mode) (options : Options) (names : Role → List ℕ) (form : StimulusForm) (before after : World) (result : Status) → mode ≡ Sim form → Runs (task_in kinds mode options) names before after result → IsTrue before.tells
      → FinishBy (IsSimulated form options.netlist (kind_at kinds options.watch) names before after) result
  mode_simulated Gate options names form before after result is runs t = cc
  mode_simulated (Sim other) options names form before after result is runs t =
      let kind = kind_at kinds options.watch in
      let same : other ≡ form = cc in
      let P : StimulusForm → Type 0 = λ form. FinishBy (IsSimulated form options.netlist kind names before after) result in
      subst P same (finished_means (sim_task other options.netlist kind) names before after (IsSimulated other options.netlist kind names before after) result (simulated_means other options.netlist kind names before after) runs t)
  mode_simulated Lrat options names form before after result is runs t = cc
  mode_simulated (Demo size) options names form before after result is runs t = cc

  pub job_simulated : (job : Option JobWords) (before after : World) (result : Status) → RunsWords (task_by kinds) job before after result → IsTrue before.tells
      → IfSome job (λ j. (form : StimulusForm) → j.mode ≡ Sim form → FinishBy (IsSimulated form j.options.netlist (kind_at kinds j.options.watch) (file_of j.files) before after) result)
  job_simulated None before after result runs t = tt
  job_simulated (Some job) before after result runs t = λ form is. mode_simulated job.mode job.options (file_of job.files) form before after result is runs t

  mode_checked : (mode : Mode) (options : Options) (names : Role → List ℕ) (before after : World) (result : Status) → mode ≡ Lrat → Runs (task_in kinds mode options) names before after result → IsTrue before.tells
      → FinishBy (IsChecked names before after) result
  mode_checked Gate options names before after result is runs t = cc
  mode_checked (Sim form) options names before after result is runs t = cc
  mode_checked Lrat options names before after result is runs t = finished_means lrat_task names before after (IsChecked names before after) result (checked names before after) runs t
  mode_checked (Demo size) options names before after result is runs t = cc

  pub job_checked : (job : Option JobWords) (before after : World) (result : Status) → RunsWords (task_by kinds) job before after result → IsTrue before.tells
      → IfSome job (λ j. j.mode ≡ Lrat → FinishBy (IsChecked (file_of j.files) before after) result)
  job_checked None before after result runs t = tt
  job_checked (Some job) before after result runs t = λ is. mode_checked job.mode job.options (file_of job.files) before after result is runs t

  mode_shown : (mode : Mode) (options : Options) (names : Role → List ℕ) (size : ℕ) (before after : World) (result : Status) → mode ≡ Demo size → Runs (task_in kinds mode options) names before after result → IsTrue before.tells
      → FinishBy (IsDemo size before after) result
  mode_shown Gate options names size before after result is runs t = cc
  mode_shown (Sim form) options names size before after result is runs t = cc
  mode_shown Lrat options names size before after result is runs t = cc
  mode_shown (Demo other) options names size before after result is runs t =
      let same : other ≡ size = cc in
      let P : ℕ → Type 0 = λ n. FinishBy (IsDemo n before after) result in
      subst P same (finished_means (demo_task other) names before after (IsDemo other before after) result (demo_means other names before after) runs t)

  pub job_shown : (job : Option JobWords) (before after : World) (result : Status) → RunsWords (task_by kinds) job before after result → IsTrue before.tells
      → IfSome job (λ j. (size : ℕ) → j.mode ≡ Demo size → FinishBy (IsDemo size before after) result)
  job_shown None before after result runs t = tt
  job_shown (Some job) before after result runs t = λ size is. mode_shown job.mode job.options (file_of job.files) size before after result is runs t

-- netlists of a job are refused for first faults, since its clock has a name
refused_so : (job : Option JobWords) → IfSome job (λ j. IsNamedClock (j.options.netlist).clock) → IfSome job (λ j. RefusesForFirstFaults j.options.netlist)
refused_so None named = tt
refused_so (Some job) named = refused_for_first job.options.netlist named

pub job_refused : (watchers words : List Text) → IfSome (job_of watchers words) (λ j. RefusesForFirstFaults j.options.netlist)
job_refused watchers words = refused_so (job_of watchers words) (clock_is_named watchers words)

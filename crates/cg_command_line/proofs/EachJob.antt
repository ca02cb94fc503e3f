-- What holds of each job that `gate`, `sim`, `lrat` and `demo` are, holds of the job of any words.
use Rattle.std.proofs.Common.{◌≡◌, ℕ, Bool, true, false, List, [], ◌∷◌, Option, None, Some, refl}
use Rattle.std.specs.Prelude.{◌||◌, if◌then◌else◌, codes, is_some, unwrap_or, IfSome}
use Rattle.std.specs.Option.{option_and_then, option_to_list}
use Rattle.std.specs.Str.{bytes_eq}
use Rattle.clap.specs.Words.{Kinds, Text, all_of, fault_of, first_of, matches_of}
use Rattle.cg_limit.specs.declared.TheConstants.{LEAST_DEMO_SIZE, MOST_DEMO_SIZE}
use Rattle.cg_run.specs.Names.{Files}
use Rattle.cg_run.specs.declared.role.Role.TheVariants as roles
use Rattle.cg_source.specs.declared.stimulus.StimulusForm.{StimulusForm}
use Rattle.cg_source.specs.declared.stimulus.StimulusForm.TheVariants as forms
use Rattle.cg_command_line.specs.CommandLine.{Values, command_line, values_in}
use Rattle.cg_command_line.specs.Jobs.{JobWords, demo_job, gate_files, gate_job, job_in, job_of, job_of_options, job_with, job_without}
use Rattle.cg_command_line.specs.Jobs.{lrat_job, named, sim_by_option, sim_files, sim_job, sim_with}
use Rattle.cg_command_line.specs.Options.{are_different, gate_options, has_options, no_options, number_in, option_files, sim_options, stimulus_in}
use Rattle.cg_command_line.specs.declared.job.Mode.{Mode}
use Rattle.cg_command_line.specs.declared.job.Mode.TheVariants.{Demo, Gate, Lrat, Sim}
use Rattle.cg_command_line.specs.declared.options.Options.{Options}

-- what is taken where a test holds
pub if_taken : {A : Type 0} (P : A → Type 0) (test : Bool) (o : Option A) → (test ≡ true → IfSome o P) → IfSome (if test then o else None) P
if_taken P true o taken = taken refl
if_taken P false o taken = tt

unless_taken : {A : Type 0} (P : A → Type 0) (test : Bool) (o : Option A) → IfSome o P → IfSome (if test then None else o) P
unless_taken P true o taken = tt
unless_taken P false o taken = taken

one_of : {A : Type 0} (P : A → Type 0) (test : Bool) (first rest : Option A) → IfSome first P → IfSome rest P → IfSome (if test then first else rest) P
one_of P true first rest here there = here
one_of P false first rest here there = there

module _ (P : JobWords → Type 0) (watchers : List Text)
    (gate : (library netlist out : Text) (values : Values) → are_different (library ∷ netlist ∷ out ∷ option_files values) ≡ true
    → IfSome (gate_options watchers netlist values) (λ o. P (record { mode = Gate; files = gate_files library netlist out values; options = o })))
    (sim : (form : StimulusForm) (library netlist : Text) (stimulus : Option Text) (values : Values) → IfSome (sim_options watchers netlist values) (λ o. P (record { mode = Sim form; files = sim_files library netlist stimulus; options = o })))
    (lrat : (formula log : Text) → P (record { mode = Lrat; files = named roles.Formula formula ∷ named roles.Log log ∷ []; options = no_options }))
    (demo : (size : ℕ) → P (record { mode = Demo size; files = []; options = no_options })) where
  of_options : (mode : Mode) (files : Files) (options : Option Options) → IfSome options (λ o. P (record { mode = mode; files = files; options = o })) → IfSome (job_of_options mode files options) P
  of_options mode files (Some options) each = each
  of_options mode files None each = tt

  each_gate : (files : List Text) (values : Values) → IfSome (gate_job watchers files values) P
  each_gate (library ∷ netlist ∷ out ∷ []) values =
      if_taken P (are_different (library ∷ netlist ∷ out ∷ option_files values)) (job_of_options Gate (gate_files library netlist out values) (gate_options watchers netlist values))
      (λ taken. of_options Gate (gate_files library netlist out values) (gate_options watchers netlist values) (gate library netlist out values taken))
  each_gate [] values = tt
  each_gate (library ∷ []) values = tt
  each_gate (library ∷ netlist ∷ []) values = tt
  each_gate (library ∷ netlist ∷ out ∷ other ∷ files) values = tt

  each_sim_with : (form : StimulusForm) (library netlist : Text) (stimulus : Option Text) (values : Values) → IfSome (sim_with watchers form library netlist stimulus values) P
  each_sim_with form library netlist stimulus values =
      if_taken P (are_different (library ∷ netlist ∷ option_to_list stimulus)) (job_of_options (Sim form) (sim_files library netlist stimulus) (sim_options watchers netlist values))
      (λ taken. of_options (Sim form) (sim_files library netlist stimulus) (sim_options watchers netlist values) (sim form library netlist stimulus values))

  each_by_option : (library netlist : Text) (values : Values) (stimulus : Option StimulusForm) → IfSome (sim_by_option watchers library netlist values stimulus) P
  each_by_option library netlist values None = tt
  each_by_option library netlist values (Some forms.Rows) = tt
  each_by_option library netlist values (Some forms.Dump) = each_sim_with forms.Dump library netlist values.vcd values
  each_by_option library netlist values (Some (forms.Random n)) = each_sim_with (forms.Random n) library netlist None values

  each_asked : (library netlist : Text) (values : Values) (asked : Option (Option StimulusForm)) → IfSome (option_and_then (sim_by_option watchers library netlist values) asked) P
  each_asked library netlist values (Some stimulus) = each_by_option library netlist values stimulus
  each_asked library netlist values None = tt

  each_sim : (files : List Text) (values : Values) → IfSome (sim_job watchers files values) P
  each_sim (library ∷ netlist ∷ []) values = each_asked library netlist values (stimulus_in values)
  each_sim (library ∷ netlist ∷ stimulus ∷ []) values =
      unless_taken P (is_some values.vcd || is_some values.random) (sim_with watchers forms.Rows library netlist (Some stimulus) values) (each_sim_with forms.Rows library netlist (Some stimulus) values)
  each_sim [] values = tt
  each_sim (library ∷ []) values = tt
  each_sim (library ∷ netlist ∷ stimulus ∷ other ∷ files) values = tt

  each_plain : (mode : Mode) (files : Files) (values : Values) → P (record { mode = mode; files = files; options = no_options }) → IfSome (job_of_options mode files (if has_options values then None else Some no_options)) P
  each_plain mode files values is = of_options mode files (if has_options values then None else Some no_options) (unless_taken (λ o. P (record { mode = mode; files = files; options = o })) (has_options values) (Some no_options) is)

  each_lrat : (files : List Text) (values : Values) → IfSome (lrat_job files values) P
  each_lrat (formula ∷ log ∷ []) values =
      let names : Files = named roles.Formula formula ∷ named roles.Log log ∷ [] in
      if_taken P (are_different (formula ∷ log ∷ [])) (job_of_options Lrat names (if has_options values then None else Some no_options)) (λ taken. each_plain Lrat names values (lrat formula log))
  each_lrat [] values = tt
  each_lrat (formula ∷ []) values = tt
  each_lrat (formula ∷ log ∷ other ∷ files) values = tt

  each_sized : (size : Option ℕ) (values : Values) → IfSome (option_and_then (λ size. job_of_options (Demo size) [] (if has_options values then None else Some no_options)) size) P
  each_sized (Some size) values = each_plain (Demo size) [] values (demo size)
  each_sized None values = tt

  each_demo : (files : List Text) (values : Values) → IfSome (demo_job files values) P
  each_demo (size ∷ []) values = each_sized (number_in LEAST_DEMO_SIZE MOST_DEMO_SIZE size) values
  each_demo [] values = tt
  each_demo (size ∷ other ∷ files) values = tt

  each_with : (files : List Text) (values : Values) (word : Text) → IfSome (job_with watchers files values word) P
  each_with files values word =
      one_of P (bytes_eq word (codes "gate")) (gate_job watchers files values) _ (each_gate files values)
      (one_of P (bytes_eq word (codes "sim")) (sim_job watchers files values) _ (each_sim files values)
      (one_of P (bytes_eq word (codes "lrat")) (lrat_job files values) _ (each_lrat files values)
      (one_of P (bytes_eq word (codes "demo")) (demo_job files values) None (each_demo files values) tt)))

  each_mode : (files : List Text) (values : Values) (mode : Option Text) → IfSome (option_and_then (job_with watchers files values) mode) P
  each_mode files values (Some word) = each_with files values word
  each_mode files values None = tt

  each_without : (kinds : Kinds) (job : Option JobWords) → IfSome job P → IfSome (job_without kinds job) P
  each_without [] job is = is
  each_without (kind ∷ kinds) job is = tt

  pub each_job : (words : List Text) → IfSome (job_of watchers words) P
  each_job words =
      let rows = matches_of command_line words in
      each_without (fault_of command_line words) (job_in watchers rows) (each_mode (unwrap_or (all_of (codes "FILES") rows) []) (values_in rows) (first_of (codes "MODE") rows))

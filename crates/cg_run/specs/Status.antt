-- How a run ends, as a number.
use Rattle.std.specs.Prelude.{ℕ}
use Rattle.cg_run.specs.declared.writing.Finish.{Finish}
use Rattle.cg_run.specs.declared.writing.Finish.TheVariants as finishes
use Rattle.cg_run.specs.declared.status.Status.{Status}
use Rattle.cg_run.specs.declared.status.Status.TheVariants as statuses

-- the exit status of the program
abbrev pub status_number : Status → ℕ
status_number statuses.Done = 0
status_number statuses.Rejected = 1
status_number statuses.Usage = 2
status_number statuses.Netlist = 3
status_number statuses.Library = 4
status_number statuses.Stimulus = 5
status_number statuses.ReadFault = 6
status_number statuses.WriteFault = 7
status_number statuses.Limit = 8
status_number statuses.NoMemory = 9

-- how a run ends whose job ended so
abbrev pub finish_status : Finish → Status
finish_status finishes.Done = statuses.Done
finish_status finishes.Rejected = statuses.Rejected

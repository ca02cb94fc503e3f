-- The log that an LRAT text says, or why the text is refused, as its complaint says it.
use Rattle.std.specs.Prelude.{ℕ, List, ◌++◌, codes, decimal, Result}
use Rattle.cg_lrat.specs.LratReading.{lrat}
use Rattle.cg_lrat.specs.declared.log.Log.{Log}
use Rattle.cg_lrat.specs.declared.lrat.LratFault.{LratFault}
use Rattle.cg_lrat.specs.declared.lrat.LratFault.TheVariants as lrat_faults
use Rattle.cg_run.specs.declared.refusal.Owner.TheVariants as owners
use Rattle.cg_run.specs.declared.refusal.Trouble.{Trouble}
use Rattle.cg_run.specs.declared.refusal.Trouble.TheVariants as troubles
use Rattle.cg_source.specs.Refused.{refused_as, refused_for}

abbrev pub log_trouble : LratFault → Trouble
log_trouble (lrat_faults.BadLine line) = refused_for owners.Stimulus (codes "proof: bad line " ++ decimal line)
log_trouble lrat_faults.NoMemory = troubles.NoMemory

abbrev pub log_found : List ℕ → Result Log Trouble
log_found text = refused_as log_trouble (lrat text)

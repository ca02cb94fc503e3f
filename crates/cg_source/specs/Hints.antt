-- The hints that a text says for a netlist, or why it is refused, as its complaint says it.
use Rattle.std.specs.Prelude.{ℕ, List, ◌++◌, codes, decimal, Result}
use Rattle.cg_hint_laws.specs.declared.hint.Hint.{Hint}
use Rattle.cg_hint_text.specs.Reading.{hints}
use Rattle.cg_hint_text.specs.declared.fault.HintFault.{HintFault}
use Rattle.cg_hint_text.specs.declared.fault.HintFault.TheVariants as hint_faults
use Rattle.cg_netlist.specs.Circuit.{Circuit}
use Rattle.cg_run.specs.declared.refusal.Owner.TheVariants as owners
use Rattle.cg_run.specs.declared.refusal.Trouble.{Trouble}
use Rattle.cg_run.specs.declared.refusal.Trouble.TheVariants as troubles
use Rattle.cg_source.specs.Refused.{refused_as, refused_for}

abbrev pub hints_trouble : HintFault → Trouble
hints_trouble (hint_faults.BadLine line) = refused_for owners.Stimulus (codes "hints: bad line " ++ decimal line)
hints_trouble (hint_faults.UnknownName line) = refused_for owners.Stimulus (codes "hints: unknown name " ++ decimal line)
hints_trouble hint_faults.NoMemory = troubles.NoMemory

abbrev pub hints_found : Circuit → List ℕ → Result (List Hint) Trouble
hints_found c text = refused_as hints_trouble (hints c text)

-- The formula that a DIMACS text says, or why the text is refused, as its complaint says it.
use Rattle.std.specs.Prelude.{ℕ, List, ◌++◌, codes, decimal, Result}
use Rattle.cg_formula.specs.DimacsReading.{dimacs}
use Rattle.cg_formula.specs.declared.dimacs.DimacsFault.{DimacsFault}
use Rattle.cg_formula.specs.declared.dimacs.DimacsFault.TheVariants as dimacs_faults
use Rattle.cg_formula.specs.declared.formula.Formula.{Formula}
use Rattle.cg_run.specs.declared.refusal.Owner.TheVariants as owners
use Rattle.cg_run.specs.declared.refusal.Trouble.{Trouble}
use Rattle.cg_run.specs.declared.refusal.Trouble.TheVariants as troubles
use Rattle.cg_source.specs.Refused.{refused_as, refused_for}

abbrev pub formula_trouble : DimacsFault → Trouble
formula_trouble dimacs_faults.BadHeader = refused_for owners.Stimulus (codes "cnf: bad header")
formula_trouble (dimacs_faults.BadClause line) = refused_for owners.Stimulus (codes "cnf: bad clause " ++ decimal line)
formula_trouble (dimacs_faults.Limit limit) = troubles.Limit limit
formula_trouble dimacs_faults.NoMemory = troubles.NoMemory

abbrev pub formula_found : List ℕ → Result Formula Trouble
formula_found text = refused_as formula_trouble (dimacs text)

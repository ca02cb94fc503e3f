-- A fault of a text, as what it means to a run.
use Rattle.std.specs.Prelude.{ℕ, List, Result, Ok, Err}
use Rattle.cg_run.specs.declared.refusal.Owner.{Owner}
use Rattle.cg_run.specs.declared.refusal.Trouble.{Trouble}
use Rattle.cg_run.specs.declared.refusal.Trouble.TheVariants as troubles

-- a file's content is refused for this
abbrev pub refused_for : Owner → List ℕ → Trouble
refused_for owner text = troubles.Content (record { owner = owner; text = text })

-- what a text says, or why it is refused
abbrev pub refused_as : {T E : Type 0} → (E → Trouble) → Result T E → Result T Trouble
refused_as trouble (Ok found) = Ok found
refused_as trouble (Err fault) = Err (trouble fault)

-- what comes of what was found, unless that is refused already
abbrev pub then_found : {A B : Type 0} → Result A Trouble → (A → Result B Trouble) → Result B Trouble
then_found (Ok found) next = next found
then_found (Err trouble) next = Err trouble

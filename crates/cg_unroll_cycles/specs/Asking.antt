-- The question that the program holds as data.
use Rattle.std.specs.Prelude.{◌≡◌, ◌<◌, ℕ, true, length}
use Rattle.cg_net.specs.NetSets.{is_in}
use Rattle.cg_machine.specs.Machine.{MachineData}
use Rattle.cg_hint_laws.specs.Hints.{condition_nets}
use Rattle.cg_hint_laws.specs.Question.{Question}
use Rattle.cg_hint_laws.specs.Violates.{IsAsked}
use Rattle.cg_unroll_cycles.specs.declared.question.Question.{Question as AskedQuestion}

abbrev pub question_of : AskedQuestion → Question
question_of asked = record { terms = asked.terms.now; after = asked.after; register = asked.register }

-- its register and the nets of its condition are there, and each of its terms has a literal
pub record AsksThere (m : MachineData) (q : Question) : Type 0 where
  pub asked : IsAsked m q
  pub nets : (y : ℕ) → is_in (condition_nets q.terms) y ≡ true → y < length m.circuit.names

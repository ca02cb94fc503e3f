-- The registers whose states the program looks for, and numbers without repetition.
use Rattle.std.specs.Prelude.{ℕ, if◌then◌else◌, List, [], ◌∷◌, ◌++◌, Option, Some, None}
use Rattle.cg_machine.specs.Machine.{MachineData}
use Rattle.cg_claim.specs.Question.{Copy, CopyPart, Net, Next, State, Enable, Side}
use Rattle.cg_claim.specs.Reach.{next_asks_own, same_copy}
use Rattle.cg_net.specs.NetSets.{is_in}

-- the registers whose states a part asks for in its copy, a side, both sides ask for in a copy
abbrev pub part_states : MachineData → CopyPart → List ℕ
part_states m (Net y) = []
part_states m (Next r) = if next_asks_own m r then r ∷ [] else []
part_states m (State r) = r ∷ []
part_states m Enable = []

abbrev pub side_states : MachineData → Copy → Side → List ℕ
side_states m copy side = if same_copy side.copy copy then part_states m side.part else []

abbrev pub sides_states : MachineData → Copy → Option (Side × Side) → List ℕ
sides_states m copy None = []
sides_states m copy (Some s) = side_states m copy s.0 ++ side_states m copy s.1

-- numbers with one more, and with more of them, each once
abbrev pub with_number : List ℕ → ℕ → List ℕ
with_number found x = if is_in found x then found else found ++ x ∷ []

abbrev pub with_numbers : List ℕ → List ℕ → List ℕ
with_numbers found [] = found
with_numbers found (x ∷ xs) = with_numbers (with_number found x) xs

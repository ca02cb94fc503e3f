-- What the writes of a run do: the stores in order, then the say; the first that is refused ends them.
use Rattle.std.specs.Prelude.{◌≡◌, ◌≢◌, ℕ, Bool, IsTrue, if◌then◌else◌, List, [], ◌∷◌, ◌++◌, map, Option, Some, Result, Ok}
use Rattle.std.specs.Prelude.{Err, IfErr, ⊤}
use Rattle.std.specs.Str.{bytes_eq}
use Rattle.cg_shelf.specs.World.{World}
use Rattle.cg_shelf.specs.Asked.{Calls}
use Rattle.cg_shelf.specs.Asked as shelf
use Rattle.cg_shelf.specs.Shelf.{AppendsFront}
use Rattle.cg_shelf.specs.declared.faults.StoreFault.{StoreFault}
use Rattle.cg_run.specs.declared.writing.Output.{Output}
use Rattle.cg_run.specs.declared.writing.Text.{Text}
use Rattle.cg_run.specs.declared.refusal.Refusal.{Refusal}
use Rattle.cg_run.specs.declared.refusal.Step.{Step}
use Rattle.cg_run.specs.declared.refusal.Step.TheVariants as steps
use Rattle.cg_run.specs.declared.role.Role.{Role}
use Rattle.cg_run.specs.Refusal.{outcome_faults, step_of, write_fault}
use Rattle.cg_run.specs.Roles.{is_among}
use Rattle.cg_run.specs.Reads.{Untouched}

-- what is held once bytes are put under a name, and once texts are put under their roles' names in order
abbrev pub put_under : (List ℕ → Option (List ℕ)) → List ℕ → List ℕ → List ℕ → Option (List ℕ)
put_under held name bytes other = if bytes_eq other name then Some bytes else held other

abbrev pub puts : (Role → List ℕ) → List Text → (List ℕ → Option (List ℕ)) → List ℕ → Option (List ℕ)
puts names [] held = held
puts names (text ∷ rest) held = puts names rest (put_under held (names text.role) text.bytes)

-- the calls that store these texts, each of which was made
abbrev pub store_calls : (Role → List ℕ) → List Text → Calls
store_calls names texts = map (λ text. shelf.Stored (names text.role) text.bytes (Ok tt)) texts

-- a text of this role is among those to be stored
abbrev pub is_stored : Role → List Text → Bool
is_stored role texts = is_among role (map (λ text. text.role) texts)

-- all is written
pub record Written (names : Role → List ℕ) (output : Output) (before after : World) : Type 0 where
  pub held : (name : List ℕ) → after.held name ≡ puts names output.stores before.held name
  pub said : after.said ≡ before.said ++ output.said

-- The store of this role was refused: the texts before it stand, what stands under its name is open, and every other
-- name holds what it held. Nothing was said.
pub record OpenAt (names : Role → List ℕ) (texts : List Text) (role : Role) (before after : World) : Type 0 where
  pub done : List Text
  pub here : Text
  pub rest : List Text
  pub parts : texts ≡ done ++ here ∷ rest
  pub is : here.role ≡ role
  pub held : (name : List ℕ) → name ≢ names role → after.held name ≡ puts names done before.held name
  pub said : after.said ≡ before.said

-- the say was refused: all texts stand, and a front part was said
pub record SaidInPart (names : Role → List ℕ) (output : Output) (before after : World) : Type 0 where
  pub held : (name : List ℕ) → after.held name ≡ puts names output.stores before.held name
  pub said : AppendsFront before.said after.said output.said

-- what stands after a refusal, by how far the run had come
abbrev pub LeavesAt : (Role → List ℕ) → Output → Step → World → World → Type 0
LeavesAt names output steps.Reading before after = Untouched before after
LeavesAt names output (steps.Storing role) before after = OpenAt names output.stores role before after
LeavesAt names output steps.Saying before after = SaidInPart names output before after

-- the texts before that of this role were stored, each once and in order, and then this one was refused
pub record StoresUpTo (names : Role → List ℕ) (texts : List Text) (role : Role) (fault : StoreFault) (made : Calls) : Type 0 where
  pub done : List Text
  pub here : Text
  pub rest : List Text
  pub parts : texts ≡ done ++ here ∷ rest
  pub is : here.role ≡ role
  pub calls : made ≡ store_calls names done ++ shelf.Stored (names role) here.bytes (Err fault) ∷ []

-- The calls of the writes of an output, by how far they came: the texts are stored in order, each once, and then the text
-- is said once. The last of them is the one that the shelf refused, with its answer.
abbrev pub CallsAt : (Role → List ℕ) → Output → Step → StoreFault → Calls → Type 0
CallsAt names output steps.Reading fault made = made ≡ []
CallsAt names output (steps.Storing role) fault made = StoresUpTo names output.stores role fault made
CallsAt names output steps.Saying fault made = made ≡ store_calls names output.stores ++ shelf.Said output.said (Err fault) ∷ []

abbrev pub WriteCalls : {T : Type 0} → (Role → List ℕ) → Output → Result T Refusal → Calls → Type 0
WriteCalls names output (Ok x) made = made ≡ store_calls names output.stores ++ shelf.Said output.said (Ok tt) ∷ []
WriteCalls names output (Err refusal) made = CallsAt names output (step_of refusal) (write_fault refusal) made

-- the writes of an output come to this step
abbrev pub HasStep : Output → Step → Type 0
HasStep output steps.Reading = ⊥
HasStep output (steps.Storing role) = IsTrue (is_stored role output.stores)
HasStep output steps.Saying = ⊤

abbrev pub WriteLeaves : {T : Type 0} → (Role → List ℕ) → Output → World → World → Result T Refusal → Type 0
WriteLeaves names output before after (Ok x) = Written names output before after
WriteLeaves names output before after (Err refusal) = LeavesAt names output (step_of refusal) before after

-- the writes of an output
pub record Writes {T : Type 0} (names : Role → List ℕ) (output : Output) (before after : World)
    (answer : Result T Refusal) : Type 0 where
  pub refused : IfErr answer (λ refusal. HasStep output (step_of refusal))
  pub leaves : IsTrue before.tells → WriteLeaves names output before after answer
  pub made : Calls
  pub by : WriteCalls names output answer made
  pub listed : after.calls ≡ before.calls ++ made
  pub quiet : IsTrue before.tells → after.complained ≡ before.complained
  pub tells : after.tells ≡ before.tells
  pub failed : after.faults ≡ before.faults ++ outcome_faults names answer

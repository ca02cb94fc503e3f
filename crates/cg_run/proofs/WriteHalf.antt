-- The writes of a run, from its stores and its say.
use Rattle.std.proofs.Common.{◌≡◌, ◌≢◌, ℕ, Bool, true, false, ◌||◌, IsTrue, List, [], ◌∷◌, ◌++◌, Option}
use Rattle.std.proofs.Common.{Some, Result, Ok, Err, refl, sym, ◌∙◌, ap, subst, if◌then◌else◌}
use Rattle.std.specs.Prelude.{IfErr, OnOk}
use Rattle.std.specs.Str.{bytes_eq}
use Rattle.std.proofs.lemmas.List.{append-nil}
use Rattle.std.proofs.lemmas.Slice.Eq.{bytes_eq-Decides}
use Rattle.cg_shelf.specs.World.{World}
use Rattle.cg_shelf.specs.Asked.{Asked, Calls}
use Rattle.cg_shelf.specs.Asked as shelf
use Rattle.cg_shelf.specs.Shelf.{Appends, AppendsFront, SameBut, call_faults}
use Rattle.cg_shelf.specs.declared.faults.Call.TheVariants as calls
use Rattle.cg_shelf.specs.declared.faults.StoreFault.{StoreFault}
use Rattle.cg_shelf.specs.declared.faults.StoreFault.TheVariants as stores
use Rattle.cg_run.specs.declared.writing.Output.{Output}
use Rattle.cg_run.specs.declared.writing.Text.{Text}
use Rattle.cg_run.specs.declared.refusal.Refusal.{Refusal}
use Rattle.cg_run.specs.declared.refusal.Refusal.TheVariants as refusals
use Rattle.cg_run.specs.declared.refusal.Step.{Step}
use Rattle.cg_run.specs.declared.refusal.Step.TheVariants as steps
use Rattle.cg_run.specs.declared.role.Role.{Role}
use Rattle.cg_run.specs.Refusal.{outcome_faults, step_of, write_answer, write_fault}
use Rattle.cg_run.specs.Roles.{is_role}
use Rattle.cg_run.specs.Writes.{CallsAt, HasStep, LeavesAt, WriteCalls, WriteLeaves, Writes, is_stored, put_under, puts}
use Rattle.cg_run.specs.Writes.{store_calls}
use Rattle.cg_run.specs.inner.Steps.{Holds, OpenStep, SaidBy, SaysAll, StoreCalls, StoreLeaves, StoredAll, StoresAll}
use Rattle.cg_run.specs.inner.Steps.{StoresAt, StoresOne, StoresStep}
use Rattle.cg_run.proofs.RoleLaws.{is_its_role}
use Rattle.cg_run.proofs.ReadHalf.{faults_join, joined, tells_on}

-- what is held by name decides what is held once texts are put
put_same : (f g : List ℕ → Option (List ℕ)) (name bytes : List ℕ) → ((n : List ℕ) → f n ≡ g n) → (n : List ℕ) → put_under f name bytes n ≡ put_under g name bytes n
put_same f g name bytes same n = rw (same n) refl

pub puts_same : (names : Role → List ℕ) (texts : List Text) (f g : List ℕ → Option (List ℕ)) → ((n : List ℕ) → f n ≡ g n) → (n : List ℕ) → puts names texts f n ≡ puts names texts g n
puts_same names [] f g same n = same n
puts_same names (text ∷ rest) f g same n = puts_same names rest (put_under f (names text.role) text.bytes) (put_under g (names text.role) text.bytes) (put_same f g (names text.role) text.bytes same) n

-- one store, name by name
put_case : (held after : List ℕ → Option (List ℕ)) (name bytes n : List ℕ) (same : Bool) → bytes_eq n name ≡ same → after name ≡ Some bytes → (n ≢ name → after n ≡ held n) → after n ≡ (if same then Some bytes else held n)
put_case held after name bytes n true is stands others = ap after ((bytes_eq-Decides n name).0 is) ∙ stands
put_case held after name bytes n false is stands others = others (λ e. let t : bytes_eq n name ≡ true = (bytes_eq-Decides n name).1 e in cc)

put_stands : (held after : List ℕ → Option (List ℕ)) (name bytes : List ℕ) → after name ≡ Some bytes → SameBut name held after → (n : List ℕ) → after n ≡ put_under held name bytes n
put_stands held after name bytes stands others n = put_case held after name bytes n (bytes_eq n name) refl stands (others n)

-- what a store answers, as part of a run
abbrev pub as_store : {T : Type 0} → Role → Result T StoreFault → Result T Refusal
as_store role (Ok x) = Ok x
as_store role (Err stores.Failed) = Err (refusals.Store role)
as_store role (Err stores.NoMemory) = Err (refusals.NoMemory (steps.Storing role))

store_called : (role : Role) (answer : Result (Unit {0}) StoreFault) → answer ≡ write_answer (as_store role answer)
store_called role (Ok x) = refl
store_called role (Err stores.Failed) = refl
store_called role (Err stores.NoMemory) = refl

store_refused : {T : Type 0} (role : Role) (answer : Result T StoreFault) → IfErr (as_store role answer) (λ refusal. step_of refusal ≡ steps.Storing role)
store_refused role (Ok x) = tt
store_refused role (Err stores.Failed) = refl
store_refused role (Err stores.NoMemory) = refl

store_holds : {T : Type 0} (role : Role) (held : Option (List ℕ)) (bytes : List ℕ) (answer : Result T StoreFault) → OnOk answer (held ≡ Some bytes) → Holds held bytes (as_store role answer)
store_holds role held bytes (Ok x) h = h
store_holds role held bytes (Err stores.Failed) h = tt
store_holds role held bytes (Err stores.NoMemory) h = tt

store_faults : {T : Type 0} (names : Role → List ℕ) (role : Role) (answer : Result T StoreFault) → call_faults calls.Store (names role) answer ≡ outcome_faults names (as_store role answer)
store_faults names role (Ok x) = refl
store_faults names role (Err stores.Failed) = refl
store_faults names role (Err stores.NoMemory) = refl

-- what the shelf says of a store
pub record StoreDid (name bytes : List ℕ) (before after : World) (answer : Result (Unit {0}) StoreFault) : Type 0 where
  pub stored : IsTrue before.tells → OnOk answer (after.held name ≡ Some bytes)
  pub others : IsTrue before.tells → SameBut name before.held after.held
  pub said : IsTrue before.tells → after.said ≡ before.said
  pub complained : IsTrue before.tells → after.complained ≡ before.complained
  pub tells : after.tells ≡ before.tells
  pub listed : after.calls ≡ before.calls ++ shelf.Stored name bytes answer ∷ []
  pub failed : after.faults ≡ before.faults ++ call_faults calls.Store name answer

stores_did : (names : Role → List ℕ) (text : Text) (before after : World) (answer : Result (Unit {0}) StoreFault) → StoreDid (names text.role) text.bytes before after answer → StoresOne names text before after (as_store text.role answer)
stores_did names text before after answer did = record {
  refused = store_refused text.role answer;
  listed = did.listed ∙ ap (λ a. before.calls ++ shelf.Stored (names text.role) text.bytes a ∷ []) (store_called text.role answer);
  stored = λ t. store_holds text.role (after.held (names text.role)) text.bytes answer (did.stored t);
  others = did.others;
  said = did.said;
  complained = did.complained;
  tells = did.tells;
  failed = did.failed ∙ ap (λ f. before.faults ++ f) (store_faults names text.role answer);
}

pub stores_one : (names : Role → List ℕ) (text : Text) (name bytes : List ℕ) (before after : World) (answer : Result (Unit {0}) StoreFault) → name ≡ names text.role → bytes ≡ text.bytes → StoreDid name bytes before after answer → StoresOne names text before after (as_store text.role answer)
stores_one names text name bytes before after answer name_is bytes_is did =
    let P : List ℕ → Type 0 = λ n. StoreDid n bytes before after answer in
    let Q : List ℕ → Type 0 = λ b. StoreDid (names text.role) b before after answer in
    stores_did names text before after answer (subst Q bytes_is (subst P name_is did))

-- what the say answers, as part of a run
abbrev pub as_say : {T : Type 0} → Result T StoreFault → Result T Refusal
as_say (Ok x) = Ok x
as_say (Err stores.Failed) = Err refusals.Say
as_say (Err stores.NoMemory) = Err (refusals.NoMemory steps.Saying)

say_called : (answer : Result (Unit {0}) StoreFault) → answer ≡ write_answer (as_say answer)
say_called (Ok x) = refl
say_called (Err stores.Failed) = refl
say_called (Err stores.NoMemory) = refl

say_steps : {T : Type 0} (answer : Result T StoreFault) → IfErr (as_say answer) (λ refusal. step_of refusal ≡ steps.Saying)
say_steps (Ok x) = tt
say_steps (Err stores.Failed) = refl
say_steps (Err stores.NoMemory) = refl

say_appends : {T : Type 0} (text before after : List ℕ) (answer : Result T StoreFault) → Appends before after text answer → SaidBy text before after (as_say answer)
say_appends text before after (Ok x) h = h
say_appends text before after (Err stores.Failed) h = h
say_appends text before after (Err stores.NoMemory) h = h

say_faults : {T : Type 0} (names : Role → List ℕ) (answer : Result T StoreFault) → call_faults calls.Say [] answer ≡ outcome_faults names (as_say answer)
say_faults names (Ok x) = refl
say_faults names (Err stores.Failed) = refl
say_faults names (Err stores.NoMemory) = refl

pub says_one : (names : Role → List ℕ) (text bytes : List ℕ) (before after : World) (answer : Result (Unit {0}) StoreFault) → bytes ≡ text
    → (IsTrue before.tells → Appends before.said after.said bytes answer) → (IsTrue before.tells → after.held ≡ before.held) → (IsTrue before.tells → after.complained ≡ before.complained)
    → after.tells ≡ before.tells → after.calls ≡ before.calls ++ shelf.Said bytes answer ∷ [] → after.faults ≡ before.faults ++ call_faults calls.Say [] answer
    → SaysAll names text before after (as_say answer)
says_one names text bytes before after answer same said held complained tells listed failed = record {
  refused = say_steps answer;
  listed = listed ∙ ap (λ b. before.calls ++ shelf.Said b answer ∷ []) same ∙ ap (λ a. before.calls ++ shelf.Said text a ∷ []) (say_called answer);
  said = λ t. let P : List ℕ → Type 0 = λ b. Appends before.said after.said b answer in say_appends text before.said after.said answer (subst P same (said t));
  held = held;
  complained = complained;
  tells = tells;
  failed = failed ∙ ap (λ f. before.faults ++ f) (say_faults names answer);
}

-- no store
pub stores_none : {T : Type 0} (names : Role → List ℕ) (world : World) (x : T) → StoresAll names [] world world (Ok x)
stores_none names world x = record {
  refused = tt;
  leaves = λ t. record { held = λ name. refl; said = refl };
  made = [];
  by = refl;
  listed = sym (append-nil world.calls);
  quiet = λ t. refl;
  tells = refl;
  failed = sym (append-nil world.faults);
}

pub or_left : (a b : Bool) → a ≡ true → IsTrue (a || b)
or_left a b h = rw h refl

pub or_right : (a b : Bool) → IsTrue b → IsTrue (a || b)
or_right true b h = refl
or_right false b h = h

-- the first store was refused
refused_step : (text : Text) (rest : List Text) (step : Step) → step ≡ steps.Storing text.role → StoresStep (text ∷ rest) step
refused_step text rest step is = let P : Step → Type 0 = λ s. StoresStep (text ∷ rest) s in
    subst P (sym is) (or_left (is_role text.role text.role) (is_stored text.role rest) (is_its_role text.role))

pub stores_refused : {T U : Type 0} (names : Role → List ℕ) (text : Text) (rest : List Text) (before after : World) (refusal : Refusal)
    → StoresOne {T = T} names text before after (Err refusal) → StoresAll {T = U} names (text ∷ rest) before after (Err refusal)
stores_refused names text rest before after refusal one =
    let P : Step → Type 0 = λ s. OpenStep names (text ∷ rest) s before after in
    let made : Calls = shelf.Stored (names text.role) text.bytes (Err (write_fault refusal)) ∷ [] in
    let C : Step → Type 0 = λ s. StoresAt names (text ∷ rest) s (write_fault refusal) made in
    record {
      refused = refused_step text rest (step_of refusal) one.refused;
      made = made;
      by = subst C (sym one.refused) (record { done = []; here = text; rest = rest; parts = refl; is = refl; calls = refl });
      listed = one.listed;
      leaves = λ t. subst P (sym one.refused) (record {
        done = [];
        here = text;
        rest = rest;
        parts = refl;
        is = refl;
        held = λ name apart. one.others t name apart;
        said = one.said t;
      });
      quiet = one.complained;
      tells = one.tells;
      failed = one.failed;
    }

-- the first store was made, and the others followed
later_step : (text : Text) (rest : List Text) (step : Step) → StoresStep rest step → StoresStep (text ∷ rest) step
later_step text rest steps.Reading h = h
later_step text rest (steps.Storing role) h = or_right (is_role text.role role) (is_stored role rest) h
later_step text rest steps.Saying h = h

later_open : (names : Role → List ℕ) (text : Text) (rest : List Text) (before middle after : World) (step : Step)
    → ((n : List ℕ) → middle.held n ≡ put_under before.held (names text.role) text.bytes n) → middle.said ≡ before.said
    → OpenStep names rest step middle after → OpenStep names (text ∷ rest) step before after
later_open names text rest before middle after steps.Reading held said open_there = open_there
later_open names text rest before middle after steps.Saying held said open_there = open_there
later_open names text rest before middle after (steps.Storing role) held said there = record {
  done = text ∷ there.done;
  here = there.here;
  rest = there.rest;
  parts = ap (λ l. text ∷ l) there.parts;
  is = there.is;
  held = λ name apart. there.held name apart ∙ puts_same names there.done middle.held (put_under before.held (names text.role) text.bytes) held name;
  said = there.said ∙ said;
}

later_leaves : {U : Type 0} (names : Role → List ℕ) (text : Text) (rest : List Text) (before middle after : World) (answer : Result U Refusal)
    → ((n : List ℕ) → middle.held n ≡ put_under before.held (names text.role) text.bytes n) → middle.said ≡ before.said
    → StoreLeaves names rest middle after answer → StoreLeaves names (text ∷ rest) before after answer
later_leaves names text rest before middle after (Ok x) held said there = record {
  held = λ name. there.held name ∙ puts_same names rest middle.held (put_under before.held (names text.role) text.bytes) held name;
  said = there.said ∙ said;
}
later_leaves names text rest before middle after (Err refusal) held said there = later_open names text rest before middle after (step_of refusal) held said there

later_refused : {U : Type 0} (text : Text) (rest : List Text) (answer : Result U Refusal) → IfErr answer (λ refusal. StoresStep rest (step_of refusal)) → IfErr answer (λ refusal. StoresStep (text ∷ rest) (step_of refusal))
later_refused text rest (Ok x) h = tt
later_refused text rest (Err refusal) h = later_step text rest (step_of refusal) h

-- the call of a store that was made
abbrev store_call : (Role → List ℕ) → Text → Asked
store_call names text = shelf.Stored (names text.role) text.bytes (Ok tt)

later_at : (names : Role → List ℕ) (text : Text) (rest : List Text) (step : Step) (fault : StoreFault) (made : Calls) → StoresAt names rest step fault made → StoresAt names (text ∷ rest) step fault (store_call names text ∷ made)
later_at names text rest steps.Reading fault made there = there
later_at names text rest steps.Saying fault made there = there
later_at names text rest (steps.Storing role) fault made there = record {
  done = text ∷ there.done;
  here = there.here;
  rest = there.rest;
  parts = ap (λ l. text ∷ l) there.parts;
  is = there.is;
  calls = ap (λ l. store_call names text ∷ l) there.calls;
}

later_calls : {U : Type 0} (names : Role → List ℕ) (text : Text) (rest : List Text) (answer : Result U Refusal) (made : Calls) → StoreCalls names rest answer made → StoreCalls names (text ∷ rest) answer (store_call names text ∷ made)
later_calls names text rest (Ok x) made by = ap (λ l. store_call names text ∷ l) by
later_calls names text rest (Err refusal) made by = later_at names text rest (step_of refusal) (write_fault refusal) made by

pub stores_on : {T U : Type 0} (names : Role → List ℕ) (text : Text) (rest : List Text) (before middle after : World) (x : T) (answer : Result U Refusal)
    → StoresOne names text before middle (Ok x) → StoresAll names rest middle after answer → StoresAll names (text ∷ rest) before after answer
stores_on names text rest before middle after x answer one all = record {
  refused = later_refused text rest answer all.refused;
  leaves = λ t. later_leaves names text rest before middle after answer (put_stands before.held middle.held (names text.role) text.bytes (one.stored t) (one.others t)) (one.said t) (all.leaves (tells_on before.tells middle.tells one.tells t));
  made = store_call names text ∷ all.made;
  by = later_calls names text rest answer all.made all.by;
  listed = joined before.calls middle.calls after.calls (store_call names text ∷ []) all.made one.listed all.listed;
  quiet = λ t. all.quiet (tells_on before.tells middle.tells one.tells t) ∙ one.complained t;
  tells = all.tells ∙ one.tells;
  failed = faults_join before.faults middle.faults after.faults (outcome_faults names answer) one.failed all.failed;
}

-- a store was refused, and nothing was said
store_step : (output : Output) (step : Step) → StoresStep output.stores step → HasStep output step
store_step output steps.Reading h = h
store_step output (steps.Storing role) h = h
store_step output steps.Saying h = absurd h

store_leaves : (names : Role → List ℕ) (output : Output) (before after : World) (step : Step) → OpenStep names output.stores step before after → LeavesAt names output step before after
store_leaves names output before after steps.Reading h = absurd h
store_leaves names output before after (steps.Storing role) h = h
store_leaves names output before after steps.Saying h = absurd h

store_calls_at : (names : Role → List ℕ) (output : Output) (step : Step) (fault : StoreFault) (made : Calls) → StoresAt names output.stores step fault made → CallsAt names output step fault made
store_calls_at names output steps.Reading fault made h = absurd h
store_calls_at names output (steps.Storing role) fault made h = h
store_calls_at names output steps.Saying fault made h = absurd h

pub writes_refused : {T U : Type 0} (names : Role → List ℕ) (output : Output) (before after : World) (refusal : Refusal) → StoresAll {T = T} names output.stores before after (Err refusal) → Writes {T = U} names output before after (Err refusal)
writes_refused names output before after refusal all = record {
  refused = store_step output (step_of refusal) all.refused;
  leaves = λ t. store_leaves names output before after (step_of refusal) (all.leaves t);
  made = all.made;
  by = store_calls_at names output (step_of refusal) (write_fault refusal) all.made all.by;
  listed = all.listed;
  quiet = all.quiet;
  tells = all.tells;
  failed = all.failed;
}

-- all was stored, and the say was made
say_refused : {U : Type 0} (output : Output) (answer : Result U Refusal) → IfErr answer (λ refusal. step_of refusal ≡ steps.Saying) → IfErr answer (λ refusal. HasStep output (step_of refusal))
say_refused output (Ok x) h = tt
say_refused output (Err refusal) h = let P : Step → Type 0 = λ s. HasStep output s in subst P (sym h) tt

say_leaves : {U : Type 0} (names : Role → List ℕ) (output : Output) (before middle after : World) (answer : Result U Refusal) → StoredAll names output.stores before middle
    → IfErr answer (λ refusal. step_of refusal ≡ steps.Saying) → SaidBy output.said middle.said after.said answer → after.held ≡ middle.held → WriteLeaves names output before after answer
say_leaves names output before middle after (Ok x) all step said held = record {
  held = λ name. ap (λ h. h name) held ∙ all.held name;
  said = said ∙ ap (λ s. s ++ output.said) all.said;
}
say_leaves names output before middle after (Err refusal) all step said held =
    let P : Step → Type 0 = λ s. LeavesAt names output s before after in
    let Q : List ℕ → Type 0 = λ s. AppendsFront s after.said output.said in
    subst P (sym step) (record {
      held = λ name. ap (λ h. h name) held ∙ all.held name;
      said = subst Q all.said said;
    })

abbrev wrote_calls : {U : Type 0} → (Role → List ℕ) → Output → Result U Refusal → Calls
wrote_calls names output answer = store_calls names output.stores ++ shelf.Said output.said (write_answer answer) ∷ []

say_calls : {U : Type 0} (names : Role → List ℕ) (output : Output) (answer : Result U Refusal) → IfErr answer (λ refusal. step_of refusal ≡ steps.Saying) → WriteCalls names output answer (wrote_calls names output answer)
say_calls names output (Ok x) step = refl
say_calls names output (Err refusal) step =
    let P : Step → Type 0 = λ s. CallsAt names output s (write_fault refusal) (store_calls names output.stores ++ shelf.Said output.said (Err (write_fault refusal)) ∷ []) in
    subst P (sym step) refl

pub writes_said : {T U : Type 0} (names : Role → List ℕ) (output : Output) (before middle after : World) (x : T) (answer : Result U Refusal) → StoresAll names output.stores before middle (Ok x) → SaysAll names output.said middle after answer → Writes names output before after answer
writes_said names output before middle after x answer all say = record {
  refused = say_refused output answer say.refused;
  leaves = λ t. let u = tells_on before.tells middle.tells all.tells t in say_leaves names output before middle after answer (all.leaves t) say.refused (say.said u) (say.held u);
  made = wrote_calls names output answer;
  by = say_calls names output answer say.refused;
  listed = joined before.calls middle.calls after.calls (store_calls names output.stores) (shelf.Said output.said (write_answer answer) ∷ []) (all.listed ∙ ap (λ l. before.calls ++ l) all.by) say.listed;
  quiet = λ t. say.complained (tells_on before.tells middle.tells all.tells t) ∙ all.quiet t;
  tells = say.tells ∙ all.tells;
  failed = faults_join before.faults middle.faults after.faults (outcome_faults names answer) all.failed say.failed;
}

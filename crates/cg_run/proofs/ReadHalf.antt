-- The reading half of a run, from its loads and what the mode made of them.
use Rattle.std.proofs.Common.{◌≡◌, ℕ, Bool, not, IsTrue, List, [], ◌∷◌, ◌++◌, Option, None, Some, Result, Ok, Err, refl}
use Rattle.std.proofs.Common.{sym, ◌∙◌, ap, subst, append_assoc, append-nil}
use Rattle.std.specs.Prelude.{IfErr, IsOkAnd, ⊤}
use Rattle.cg_limit.specs.declared.TheConstants.{MOST_FILE_BYTES}
use Rattle.cg_shelf.specs.World.{World}
use Rattle.cg_shelf.specs.Asked as shelf
use Rattle.cg_shelf.specs.Shelf.{load_faults}
use Rattle.cg_shelf.specs.declared.faults.Fault.{Fault}
use Rattle.cg_shelf.specs.declared.faults.LoadFault.{LoadFault}
use Rattle.cg_shelf.specs.declared.faults.LoadFault.TheVariants as loads
use Rattle.cg_run.specs.declared.refusal.Refusal.{Refusal}
use Rattle.cg_run.specs.declared.refusal.Refusal.TheVariants as refusals
use Rattle.cg_run.specs.declared.refusal.Trouble.{Trouble}
use Rattle.cg_run.specs.declared.refusal.Trouble.TheVariants as troubles
use Rattle.cg_run.specs.declared.role.Role.{Role}
use Rattle.cg_run.specs.Reads.{Agrees, Reads, Untouched, load_calls}
use Rattle.cg_run.specs.inner.Steps.{Loads}
use Rattle.cg_run.specs.Refusal.{outcome_faults, refusal_of}
use Rattle.cg_run.specs.Roles.{are_distinct, is_among}
use Rattle.cg_run.specs.Verdict.{Answers, Comes, EndAtFaults, FileLoaded, Given, Halts, Loaded, asked, asked_from, brought, onward, reached, refusal_in}
use Rattle.cg_run.specs.Verdict.{IsRefused, stopped, taken, troubled, unloaded, ◌>>=◌}
use Rattle.cg_run.proofs.RoleLaws.{and_parts, asked_none, asked_same, asked_with, bind_same, given_each, given_here, given_with}
use Rattle.cg_run.proofs.RoleLaws.{none_given, reached_with}

-- a shelf that told before tells on
pub tells_on : (before after : Bool) → after ≡ before → IsTrue before → IsTrue after
tells_on before after same tells = rw same tells

pub untouched_twice : (before middle after : World) → Untouched before middle → Untouched middle after → Untouched before after
untouched_twice before middle after first second = record {
  held = second.held ∙ first.held;
  said = second.said ∙ first.said;
}

pub faults_join : (before middle after faults : List Fault) → middle ≡ before ++ [] → after ≡ middle ++ faults → after ≡ before ++ faults
faults_join before middle after faults first second = let same : middle ≡ before = first ∙ append-nil before in rw same at second

-- a list that grew twice
pub joined : {A : Type 0} (before middle after first second : List A) → middle ≡ before ++ first → after ≡ middle ++ second → after ≡ before ++ (first ++ second)
joined before middle after first second one two = two ∙ ap (λ l. l ++ second) one ∙ append_assoc before first second

-- what a load gave, as what it answers and adds to the failed calls
given_faults : (names : Role → List ℕ) (role : Role) (gave : Result (List ℕ) LoadFault) → load_faults (names role) gave ≡ outcome_faults names (brought role (Some gave))
given_faults names role (Ok bytes) = refl
given_faults names role (Err loads.Failed) = refl
given_faults names role (Err loads.TooLong) = refl
given_faults names role (Err loads.NoMemory) = refl

-- one load, by what the shelf says of it
pub loads_so : (names : Role → List ℕ) (role : Role) (name : List ℕ) (before after : World) (gave : Result (List ℕ) LoadFault) → name ≡ names role
    → (IsTrue before.tells → Agrees (before.held name) (Some gave)) → after.calls ≡ before.calls ++ shelf.Loaded name MOST_FILE_BYTES gave ∷ []
    → (IsTrue before.tells → after.held ≡ before.held) → (IsTrue before.tells → after.said ≡ before.said) → (IsTrue before.tells → after.complained ≡ before.complained)
    → after.tells ≡ before.tells → after.faults ≡ before.faults ++ load_faults name gave
    → Loads names role before after (brought role (Some gave))
loads_so names role name before after gave same told listed held said complained tells failed = record {
  gave = gave;
  told = λ t. let P : List ℕ → Type 0 = λ n. Agrees (before.held n) (Some gave) in subst P same (told t);
  is = refl;
  listed = listed ∙ ap (λ n. before.calls ++ shelf.Loaded n MOST_FILE_BYTES gave ∷ []) same;
  untouched = λ t. record { held = held t; said = said t };
  quiet = complained;
  tells = tells;
  failed = failed ∙ ap (λ faults. before.faults ++ faults) (ap (λ n. load_faults n gave) same ∙ given_faults names role gave);
}

-- one that was refused, as the shelf says it of its answer
pub loads_err : (T : Type 0) (names : Role → List ℕ) (role : Role) (name : List ℕ) (before after : World) (fault : LoadFault) → name ≡ names role
    → (IsTrue before.tells → Agrees (before.held name) (Some (Err fault))) → after.calls ≡ before.calls ++ shelf.Loaded name MOST_FILE_BYTES (Err fault) ∷ []
    → (IsTrue before.tells → after.held ≡ before.held) → (IsTrue before.tells → after.said ≡ before.said) → (IsTrue before.tells → after.complained ≡ before.complained)
    → after.tells ≡ before.tells → after.faults ≡ before.faults ++ load_faults {T = T} name (Err fault)
    → Loads names role before after (brought role (Some (Err fault)))
loads_err T names role name before after loads.Failed same = loads_so names role name before after (Err loads.Failed) same
loads_err T names role name before after loads.TooLong same = loads_so names role name before after (Err loads.TooLong) same
loads_err T names role name before after loads.NoMemory same = loads_so names role name before after (Err loads.NoMemory) same

-- what code answers without a call is why the reading half is refused, and it adds no failed call
abbrev pub Quits : {T U : Type 0} → Result T Refusal → Result U Refusal → Type 0
Quits v (Ok found) = ⊤
Quits v (Err refusal) = Halts (refusal_in v) refusal

answers_quit : {T : Type 0} (v answer : Result T Trouble) → Answers v answer → Quits (troubled v) (troubled answer)
answers_quit v (Ok found) h = tt
answers_quit v (Err (troubles.Content content)) h = ap (λ w. refusal_in (troubled w)) h
answers_quit v (Err (troubles.Limit limit)) h = ap (λ w. refusal_in (troubled w)) h
answers_quit v (Err troubles.NoMemory) h = refl

pub trouble_faults : {T : Type 0} (names : Role → List ℕ) (answer : Result T Trouble) → outcome_faults names (troubled answer) ≡ []
trouble_faults names (Ok found) = refl
trouble_faults names (Err (troubles.Content content)) = refl
trouble_faults names (Err (troubles.Limit limit)) = refl
trouble_faults names (Err troubles.NoMemory) = refl

-- a refusal in the middle carries over to what comes after
pub halts_bind : {A B : Type 0} (v : Result A Refusal) (next : A → Result B Refusal) (refusal : Refusal) → Halts (refusal_in v) refusal → Halts (refusal_in (v >>= next)) refusal
halts_bind (Err first) next refusal halts = halts
halts_bind (Ok x) next (refusals.Content content) halts = cc
halts_bind (Ok x) next (refusals.Limit limit) halts = cc
halts_bind (Ok x) next (refusals.Load role) halts = cc
halts_bind (Ok x) next (refusals.Store role) halts = absurd halts
halts_bind (Ok x) next refusals.Say halts = absurd halts
halts_bind (Ok x) next (refusals.NoMemory step) halts = halts

brought_quits : (role : Role) (given : Loaded) → Quits (brought role given) (brought role given)
brought_quits role None = refl
brought_quits role (Some (Ok bytes)) = tt
brought_quits role (Some (Err loads.Failed)) = refl
brought_quits role (Some (Err loads.TooLong)) = refl
brought_quits role (Some (Err loads.NoMemory)) = refl

pub brought_ok : (role : Role) (given : Loaded) (bytes : List ℕ) → brought role given ≡ Ok bytes → given ≡ Some (Ok bytes)
brought_ok role None bytes h = cc
brought_ok role (Some (Ok found)) bytes h = cc
brought_ok role (Some (Err loads.Failed)) bytes h = cc
brought_ok role (Some (Err loads.TooLong)) bytes h = cc
brought_ok role (Some (Err loads.NoMemory)) bytes h = cc

-- after a load that was refused nothing is asked for
refused_asked : {M : Type 0} (takes : M → Role → List ℕ → Result M Trouble) (state : M) (role : Role) (gave : Result (List ℕ) LoadFault) (refusal : Refusal) (more : M → List FileLoaded)
    → brought role (Some gave) ≡ Err refusal → asked_from role (Some gave) (taken takes state role (Some gave)) more ≡ record { role = role; gave = gave } ∷ []
refused_asked takes state role (Ok found) refusal more h = cc
refused_asked takes state role (Err loads.Failed) refusal more h = refl
refused_asked takes state role (Err loads.TooLong) refusal more h = refl
refused_asked takes state role (Err loads.NoMemory) refusal more h = refl

onward_none : {M : Type 0} (v : Result M Refusal) (more : M → List FileLoaded) → ((next : M) → more next ≡ []) → onward v more ≡ []
onward_none (Ok next) more each = each next
onward_none (Err refusal) more each = refl

-- a load that gave no bytes is what the answer is refused for
pub end_as : (T : Type 0) (answer : Result T Refusal) {files other : List FileLoaded} → files ≡ other → EndAtFaults files answer → EndAtFaults other answer
end_as T answer same ends = let E : List FileLoaded → Type 0 = λ l. EndAtFaults {T = T} l answer in subst E same ends

refused_is : (role : Role) (gave : Result (List ℕ) LoadFault) (refusal : Refusal) → Err refusal ≡ brought role (Some gave) → IfErr gave (λ fault. refusal ≡ unloaded role fault)
refused_is role (Ok bytes) refusal is = tt
refused_is role (Err loads.Failed) refusal is = cc
refused_is role (Err loads.TooLong) refusal is = cc
refused_is role (Err loads.NoMemory) refusal is = cc

one_end : (T : Type 0) (role : Role) (gave : Result (List ℕ) LoadFault) (refusal : Refusal) → Err refusal ≡ brought role (Some gave) → EndAtFaults {T = T} (record { role = role; gave = gave } ∷ []) (Err refusal)
one_end T role gave refusal is = (refused_is role gave refusal is, tt)

given_end : {T : Type 0} (role : Role) (gave : Result (List ℕ) LoadFault) (bytes : List ℕ) (rest : List FileLoaded) (answer : Result T Refusal) → Some gave ≡ Some (Ok bytes) → EndAtFaults rest answer → EndAtFaults (record { role = role; gave = gave } ∷ rest) answer
given_end role (Ok found) bytes rest answer is others = (tt, others)
given_end role (Err fault) bytes rest answer is others = cc

-- and so where the answer is refused for the same, or nothing is loaded in vain
pub ends_through : {T U : Type 0} (files : List FileLoaded) (answer : Result T Refusal) (other : Result U Refusal) → ((refusal : Refusal) → IsRefused refusal answer → IsRefused refusal other) → EndAtFaults files answer → EndAtFaults files other
ends_through [] answer other through ends = tt
ends_through (file ∷ files) answer other through ends = (if_err file.gave ends.0, ends_through files answer other through ends.1)
  where
    if_err : (gave : Result (List ℕ) LoadFault) → IfErr gave (λ fault. IsRefused (unloaded file.role fault) answer) → IfErr gave (λ fault. IsRefused (unloaded file.role fault) other)
    if_err (Ok bytes) h = tt
    if_err (Err fault) h = through (unloaded file.role fault) h

module _ {M T : Type 0} (takes : M → Role → List ℕ → Result M Trouble) (stops : M → Option Trouble) (gives : M → T → Type 0) (names : Role → List ℕ) where
  -- all files are taken
  pub reads_end : (state : M) (world : World) (answer : T) → IsOkAnd (stopped (stops state) state) (λ found. gives found answer) → Reads takes stops gives names state [] world world (Ok answer)
  reads_end state world answer comes = record {
    given = none_given;
    told = λ t role. tt;
    cause = comes;
    unloaded = tt;
    listed = sym (append-nil world.calls);
    untouched = λ t. record { held = refl; said = refl };
    quiet = λ t. refl;
    tells = refl;
    failed = sym (append-nil world.faults);
  }

  told_with : (before middle : World) (role : Role) (here : Loaded) (given : Given)
      → Agrees (before.held (names role)) here → middle.held ≡ before.held → ((other : Role) → Agrees (middle.held (names other)) (given other))
      → (other : Role) → Agrees (before.held (names other)) (given_with role here given other)
  told_with before middle role here given agrees same others =
      let P : (List ℕ → Option (List ℕ)) → Type 0 = λ held. (other : Role) → Agrees (held (names other)) (given other) in
      given_each (λ r g. Agrees (before.held (names r)) g) role here given agrees (subst P same others)

  -- what is reached, and the loads, begin with the first file
  reached_first : (state : M) (role : Role) (rest : List Role) (here : Loaded) (given : Given) → IsTrue (not (is_among role rest))
      → reached takes stops state (role ∷ rest) (given_with role here given) ≡ (taken takes state role here >>= λ next. reached takes stops next rest given)
  reached_first state role rest here given apart =
      rw (given_here role here given)
      (bind_same (taken takes state role here) (λ next. reached takes stops next rest (given_with role here given)) (λ next. reached takes stops next rest given)
      (λ next. reached_with takes stops next rest role here given apart))

  asked_first : (state : M) (role : Role) (rest : List Role) (here : Loaded) (given : Given) → IsTrue (not (is_among role rest))
      → asked takes state (role ∷ rest) (given_with role here given) ≡ asked_from role here (taken takes state role here) (λ next. asked takes next rest given)
  asked_first state role rest here given apart =
      rw (given_here role here given)
      (asked_same role here (taken takes state role here) (λ next. asked takes next rest (given_with role here given)) (λ next. asked takes next rest given)
      (λ next. asked_with takes next rest role here given apart))

  -- the first load was refused
  pub reads_unloaded : (state : M) (role : Role) (rest : List Role) (before after : World) (refusal : Refusal)
      → IsTrue (are_distinct (role ∷ rest)) → Loads names role before after (Err refusal) → Reads takes stops gives names state (role ∷ rest) before after (Err refusal)
  reads_unloaded state role rest before after refusal distinct load =
      let apart = (and_parts (not (is_among role rest)) (are_distinct rest) distinct).0 in
      let here : Loaded = Some load.gave in
      let C : Result (List ℕ) Refusal → Type 0 = λ a. Quits (brought role here) a in
      let quit : Halts (refusal_in (brought role here)) refusal = subst C (sym load.is) (brought_quits role here) in
      let V : Result M Refusal → Type 0 = λ v. Halts (refusal_in v) refusal in
      let more : M → List FileLoaded = λ next. asked takes next rest none_given in
      let asks = asked_first state role rest here none_given apart ∙ refused_asked takes state role load.gave refusal more (sym load.is) in
      record {
        given = given_with role here none_given;
        told = λ t. told_with before before role here none_given (load.told t) refl (λ other. tt);
        cause = subst V (sym (reached_first state role rest here none_given apart))
            (halts_bind (taken takes state role here) (λ next. reached takes stops next rest none_given) refusal (halts_bind (brought role here) (λ bytes. troubled (takes state role bytes)) refusal quit));
        unloaded = end_as T (Err refusal) (sym asks) (one_end T role load.gave refusal load.is);
        listed = load.listed ∙ ap (λ l. before.calls ++ load_calls names l) (sym asks);
        untouched = load.untouched;
        quiet = load.quiet;
        tells = load.tells;
        failed = load.failed;
      }

  -- the mode refused the first file, or found no memory for it
  pub reads_untaken : (state : M) (role : Role) (rest : List Role) (before after : World) (bytes : List ℕ) (trouble : Trouble)
      → IsTrue (are_distinct (role ∷ rest)) → Loads names role before after (Ok bytes) → Answers (takes state role bytes) (Err trouble) → Reads takes stops gives names state (role ∷ rest) before after (troubled (Err trouble))
  reads_untaken state role rest before after bytes trouble distinct load took =
      let apart = (and_parts (not (is_among role rest)) (are_distinct rest) distinct).0 in
      let here : Loaded = Some load.gave in
      let is : here ≡ Some (Ok bytes) = brought_ok role here bytes (sym load.is) in
      let V : Result M Refusal → Type 0 = λ v. Halts (refusal_in v) (refusal_of trouble) in
      let W : Loaded → Type 0 = λ g. Halts (refusal_in (taken takes state role g)) (refusal_of trouble) in
      let more : M → List FileLoaded = λ next. asked takes next rest none_given in
      let first : FileLoaded = record { role = role; gave = load.gave } in
      let none : onward (taken takes state role here) more ≡ [] = onward_none (taken takes state role here) more (λ next. asked_none takes next rest) in
      let asks = asked_first state role rest here none_given apart ∙ ap (λ l. first ∷ l) none in
      record {
        given = given_with role here none_given;
        told = λ t. told_with before before role here none_given (load.told t) refl (λ other. tt);
        cause = subst V (sym (reached_first state role rest here none_given apart))
            (halts_bind (taken takes state role here) (λ next. reached takes stops next rest none_given) (refusal_of trouble) (subst W (sym is) (answers_quit (takes state role bytes) (Err trouble) took)));
        unloaded = end_as T (troubled (Err trouble)) (sym asks) (given_end {T = T} role load.gave bytes [] (troubled (Err trouble)) is tt);
        listed = load.listed ∙ ap (λ l. before.calls ++ load_calls names l) (sym asks);
        untouched = load.untouched;
        quiet = load.quiet;
        tells = load.tells;
        failed = load.failed ∙ ap (λ faults. before.faults ++ faults) (sym (trouble_faults {T = M} names (Err trouble)));
      }

  -- the mode took the first file, and the rest followed
  pub reads_on : (state next : M) (role : Role) (rest : List Role) (before middle after : World) (bytes : List ℕ) (answer : Result T Refusal)
      → IsTrue (are_distinct (role ∷ rest)) → Loads names role before middle (Ok bytes) → takes state role bytes ≡ Ok next → Reads takes stops gives names next rest middle after answer → Reads takes stops gives names state (role ∷ rest) before after answer
  reads_on state next role rest before middle after bytes answer distinct load took reads =
      let apart = (and_parts (not (is_among role rest)) (are_distinct rest) distinct).0 in
      let here : Loaded = Some load.gave in
      let is : here ≡ Some (Ok bytes) = brought_ok role here bytes (sym load.is) in
      let V : Result M Refusal → Type 0 = λ v. Comes gives v answer in
      let first : taken takes state role here ≡ Ok next = ap (taken takes state role) is ∙ ap troubled took in
      let whole = reached_first state role rest here reads.given apart ∙ ap (λ v. v >>= λ n. reached takes stops n rest reads.given) first in
      let more : M → List FileLoaded = λ n. asked takes n rest reads.given in
      let file : FileLoaded = record { role = role; gave = load.gave } in
      let asks = asked_first state role rest here reads.given apart ∙ ap (λ v. file ∷ onward v more) first in
      record {
        given = given_with role here reads.given;
        told = λ t. told_with before middle role here reads.given (load.told t) (load.untouched t).held (reads.told (tells_on before.tells middle.tells load.tells t));
        cause = subst V (sym whole) reads.cause;
        unloaded = end_as T answer (sym asks) (given_end {T = T} role load.gave bytes (more next) answer is reads.unloaded);
        listed = joined before.calls middle.calls after.calls (shelf.Loaded (names role) MOST_FILE_BYTES load.gave ∷ []) (load_calls names (more next)) load.listed reads.listed
            ∙ ap (λ l. before.calls ++ load_calls names l) (sym asks);
        untouched = λ t. untouched_twice before middle after (load.untouched t) (reads.untouched (tells_on before.tells middle.tells load.tells t));
        quiet = λ t. reads.quiet (tells_on before.tells middle.tells load.tells t) ∙ load.quiet t;
        tells = reads.tells ∙ load.tells;
        failed = faults_join before.faults middle.faults after.faults (outcome_faults names answer) load.failed reads.failed;
      }

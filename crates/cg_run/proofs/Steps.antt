-- What files come to, step by step: where a mode comes to an output, each file was loaded and taken.
use Rattle.std.specs.Str.{bytes_eq}
use Rattle.std.proofs.lemmas.Slice.Eq.{bytes_eq-Decides}
use Rattle.std.specs.Prelude.{IsOkAnd}
use Rattle.std.proofs.Common.{◌≡◌, ℕ, true, List, [], ◌∷◌, Option, None, Some, Result, Ok, Err, refl, subst}
use Rattle.cg_shelf.specs.declared.faults.LoadFault.TheVariants as loads
use Rattle.cg_run.specs.declared.writing.Output.{Output}
use Rattle.cg_run.specs.declared.refusal.Refusal.{Refusal}
use Rattle.cg_run.specs.declared.refusal.Trouble.{Trouble}
use Rattle.cg_run.specs.declared.role.Role.{Role}
use Rattle.cg_run.specs.Reads.{Agrees}
use Rattle.cg_run.specs.Writes.{put_under}
use Rattle.cg_run.specs.Verdict.{ComesTo, Given, Loaded, found_as, reached, stopped, taken, task_of, troubled, ◌>>=◌}

ok_bind : {A B : Type 0} (v : Result A Refusal) (next : A → Result B Refusal) (y : B) → (v >>= next) ≡ Ok y → (x : A) × (v ≡ Ok x) × (next x ≡ Ok y)
ok_bind (Ok x) next y h = (x, refl, h)
ok_bind (Err refusal) next y h = cc

troubled_ok : {T : Type 0} (r : Result T Trouble) (x : T) → troubled r ≡ Ok x → r ≡ Ok x
troubled_ok (Ok found) x h = cc
troubled_ok (Err trouble) x h = cc

taken_ok : {M : Type 0} (takes : M → Role → List ℕ → Result M Trouble) (state : M) (role : Role) (loaded : Loaded) (next : M) → taken takes state role loaded ≡ Ok next → (bytes : List ℕ) × (loaded ≡ Some (Ok bytes)) × (takes state role bytes ≡ Ok next)
taken_ok takes state role None next h = cc
taken_ok takes state role (Some (Ok bytes)) next h = (bytes, refl, troubled_ok (takes state role bytes) next h)
taken_ok takes state role (Some (Err loads.Failed)) next h = cc
taken_ok takes state role (Some (Err loads.TooLong)) next h = cc
taken_ok takes state role (Some (Err loads.NoMemory)) next h = cc

-- a file was taken, and the rest followed
pub record Step {M : Type 0} (takes : M → Role → List ℕ → Result M Trouble) (stops : M → Option Trouble) (state : M) (role : Role) (rest : List Role) (given : Given) (end : M) : Type 0 where
  pub bytes : List ℕ
  pub next : M
  pub loaded : given role ≡ Some (Ok bytes)
  pub takes_it : takes state role bytes ≡ Ok next
  pub later : reached takes stops next rest given ≡ Ok end

pub step_of : {M : Type 0} (takes : M → Role → List ℕ → Result M Trouble) (stops : M → Option Trouble) (state : M) (role : Role) (rest : List Role) (given : Given) (end : M)
    → reached takes stops state (role ∷ rest) given ≡ Ok end → Step takes stops state role rest given end
step_of takes stops state role rest given end h =
    let f = ok_bind (taken takes state role (given role)) (λ next. reached takes stops next rest given) end h in
    let t = taken_ok takes state role (given role) f.0 f.1 in
    record { bytes = t.0; next = f.0; loaded = t.1; takes_it = t.2; later = f.2 }

stopped_ok : {M : Type 0} (stops : Option Trouble) (state end : M) → stopped stops state ≡ Ok end → (stops ≡ None) × (state ≡ end)
stopped_ok None state end h = (refl, cc)
stopped_ok (Some trouble) state end h = cc

pub step_end : {M : Type 0} (takes : M → Role → List ℕ → Result M Trouble) (stops : M → Option Trouble) (state : M) (given : Given) (end : M) → reached takes stops state [] given ≡ Ok end → (stops state ≡ None) × (state ≡ end)
step_end takes stops state given end h = stopped_ok (stops state) state end h

-- where files come to an output, all were taken, nothing stopped what was found, and it may give the output
ok_and : {M : Type 0} (v : Result M Refusal) (P : M → Type 0) → IsOkAnd v P → (end : M) × (v ≡ Ok end) × P end
ok_and (Ok end) P h = (end, refl, h)
ok_and (Err refusal) P h = absurd h

pub came : {M : Type 0} (takes : M → Role → List ℕ → Result M Trouble) (stops : M → Option Trouble) (gives : M → Output → Type 0) (state : M) (files : List Role) (given : Given) (output : Output)
    → ComesTo (task_of takes stops gives state files) given output → (end : M) × (reached takes stops state files given ≡ Ok end) × gives end output
came takes stops gives state files given output comes = ok_and (reached takes stops state files given) (λ end. gives end output) comes.comes

-- the bytes that were loaded are those that were held
pub held_so : (held : Option (List ℕ)) (loaded : Loaded) (bytes : List ℕ) → Agrees held loaded → loaded ≡ Some (Ok bytes) → held ≡ Some bytes
held_so held loaded bytes agrees is = let A : Loaded → Type 0 = λ g. Agrees held g in (subst A is agrees).0

pub found_ok : {A B E : Type 0} (make : A → B) (r : Result A E) (y : B) → found_as make r ≡ Ok y → (x : A) × (r ≡ Ok x) × (make x ≡ y)
found_ok make (Ok found) y h = (found, refl, cc)
found_ok make (Err fault) y h = cc

-- what is put under a name stands there
pub put_here : (held : List ℕ → Option (List ℕ)) (name bytes : List ℕ) → put_under held name bytes name ≡ Some bytes
put_here held name bytes = let same : bytes_eq name name ≡ true = (bytes_eq-Decides name name).1 refl in rw same refl

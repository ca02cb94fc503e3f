-- What was found where nothing is refused.
use Rattle.std.proofs.Common.{◌≡◌, Result, Ok, Err, refl}
use Rattle.cg_run.specs.declared.refusal.Trouble.{Trouble}
use Rattle.cg_source.specs.Refused.{refused_as, then_found}

pub refused_ok : {T E : Type 0} (trouble : E → Trouble) (r : Result T E) (x : T) → refused_as trouble r ≡ Ok x → r ≡ Ok x
refused_ok trouble (Ok found) x h = cc
refused_ok trouble (Err fault) x h = cc

pub then_ok : {A B : Type 0} (r : Result A Trouble) (next : A → Result B Trouble) (y : B) → then_found r next ≡ Ok y → (x : A) × (r ≡ Ok x) × (next x ≡ Ok y)
then_ok (Ok found) next y is = (found, refl, is)
then_ok (Err trouble) next y is = absurd (cc)

-- and where it is refused
pub refused_err : {T E : Type 0} (trouble : E → Trouble) (r : Result T E) (t : Trouble) → refused_as trouble r ≡ Err t → (fault : E) × (r ≡ Err fault) × (t ≡ trouble fault)
refused_err trouble (Ok found) t h = absurd (cc)
refused_err trouble (Err fault) t h = (fault, refl, cc)

-- Counting goes on with the next place, and with the next moment.
use Rattle.std.proofs.Common.{◌≡◌, ℕ, ◌+◌, ◌∷◌, ◌++◌, [], List, Bool, Option, Some, None, drop, slice_get, refl, sym, ap}
use Rattle.std.proofs.Common.{◌∙◌, arith}
use Rattle.cg_report.specs.Counts.{capped, differs, differing, toggled, toggles, toggles_from, last_from, last_nets}
use Rattle.cg_report.specs.Shown.{Shown}
use Rattle.cg_stimulus.proofs.ReadingOn.{next_at}

pub differing_on : (before now : List Bool) (i : ℕ) (b n : Bool) → slice_get before i ≡ Some b → slice_get now i ≡ Some n
    → differing (drop i before) (drop i now) ≡ differs b n + differing (drop (i + 1) before) (drop (i + 1) now)
differing_on before now i b n at now_at = rw (next_at before i b at, next_at now i n now_at) refl

pub toggles_on : (before : Option (List Bool)) (moments : List Shown) (now : Shown)
    → toggles_from before (moments ++ now ∷ []) ≡ toggles_from before moments + toggled (last_from before moments) now.nets
toggles_on before [] now = omega arith
toggles_on before (m ∷ moments) now = ap (λ n. toggled before m.nets + n) (toggles_on (Some m.nets) moments now) ∙ omega arith

pub last_on : (before : Option (List Bool)) (moments : List Shown) (now : Shown) → last_from before (moments ++ now ∷ []) ≡ Some now.nets
last_on before [] now = refl
last_on before (m ∷ moments) now = last_on (Some m.nets) moments now

capped_sum : (a b : ℕ) → capped (capped a + b) ≡ capped (a + b)
capped_sum a b = omega arith

-- the number of toggles goes on with a moment, and stops at the end of its type
pub capped_toggles_on : (moments : List Shown) (now : Shown) (old new more : ℕ) (last : Option (List Bool)) → old ≡ capped (toggles moments) → last_nets moments ≡ last
    → more ≡ toggled last now.nets → new ≡ capped (old + more) → new ≡ capped (toggles (moments ++ now ∷ []))
capped_toggles_on moments now old new more last was is by sum =
    let on : toggles (moments ++ now ∷ []) ≡ toggles moments + more = toggles_on None moments now ∙ ap (λ n. toggles moments + n) (ap (λ l. toggled l now.nets) is ∙ sym by) in
    sum ∙ (ap (λ n. capped (n + more)) was ∙ (capped_sum (toggles moments) more ∙ ap capped (sym on)))

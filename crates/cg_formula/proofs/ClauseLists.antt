-- Clauses in one list of literals.
use Rattle.std.proofs.Common.{◌≡◌, ℕ, ◌+◌, ◌-◌, zero, suc, ◌<◌, ◌≤◌, List, [], ◌∷◌, ◌++◌, Some, refl, ap, ◌∙◌, length, take}
use Rattle.std.proofs.Common.{drop, arith}
use Rattle.std.specs.List.{slice_range, slice_get, slice_index_or}
use Rattle.std.proofs.Math.Seq.{drop-append_seam, take-length}
use Rattle.std.proofs.Math.ListN.{length-drop}
use Rattle.std.proofs.lemmas.List.{take-append-le, drop-append-le}
use Rattle.cg_formula.specs.declared.formula.Lit.{Lit}
use Rattle.cg_formula.specs.declared.formula.Clause.{Clause}
use Rattle.cg_formula.specs.inner.ClauseList.{clauses_of, AreEnds, start_at}

abbrev clause : List Lit → Clause
clause lits = record { lits = lits }

pub count_of : (from : ℕ) (lits : List Lit) (ends : List ℕ) → length (clauses_of from lits ends) ≡ length ends
count_of from lits [] = refl
count_of from lits (to ∷ ends) = ap suc (count_of to lits ends)

pub begins_within : (from count : ℕ) (ends : List ℕ) → AreEnds from count ends → from ≤ count
begins_within from count [] all = omega (arith, all)
begins_within from count (to ∷ ends) all = let first = all.0 in let later = begins_within to count ends all.1 in omega arith

-- one more clause

range_longer : (lits more : List Lit) (from to : ℕ) → from ≤ to → to ≤ length lits → slice_range (lits ++ more) from to ≡ slice_range lits from to
range_longer lits more from to ordered within =
    let long : length (drop from lits) ≡ length lits - from = length-drop from lits in
    ap (take (to - from)) (drop-append-le from lits more (omega arith)) ∙ take-append-le (to - from) (drop from lits) more (omega (arith, long))

range_last : (lits more : List Lit) (to : ℕ) → to ≡ length lits + length more → slice_range (lits ++ more) (length lits) to ≡ more
range_last lits more to e =
    let long : to - length lits ≡ length more = omega (arith, e) in
    ap (take (to - length lits)) (drop-append_seam lits more) ∙ ap (λ n. take n more) long ∙ take-length more

pub ends_pushed : (from count to : ℕ) (ends : List ℕ) → AreEnds from count ends → count ≤ to → AreEnds from to (ends ++ to ∷ [])
ends_pushed from count to [] all le = (omega (arith, all), refl)
ends_pushed from count to (e ∷ ends) all le = (all.0, ends_pushed e count to ends all.1 le)

pub clauses_pushed : (from : ℕ) (lits more : List Lit) (to : ℕ) (ends : List ℕ) → AreEnds from (length lits) ends → to ≡ length lits + length more
    → clauses_of from (lits ++ more) (ends ++ to ∷ []) ≡ clauses_of from lits ends ++ clause more ∷ []
clauses_pushed from lits more to [] all e = rw all (ap (λ own. clause own ∷ []) (range_last lits more to e))
clauses_pushed from lits more to (first ∷ ends) all e =
    let within = begins_within first (length lits) ends all.1 in
    rw (range_longer lits more from first all.0 within) (ap (λ cs. clause (slice_range lits from first) ∷ cs) (clauses_pushed first lits more to ends all.1 e))

-- the clause at a place

-- where the clause at a place stands, and what is there
pub record StandsAt (from count : ℕ) (ends : List ℕ) (place : ℕ) : Type 0 where
  pub ordered : start_at from ends place ≤ slice_index_or ends place 0
  pub within : slice_index_or ends place 0 ≤ count
  pub is : (lits : List Lit) → slice_get (clauses_of from lits ends) place ≡ Some (clause (slice_range lits (start_at from ends place) (slice_index_or ends place 0)))

pub stands_at : (from count : ℕ) (ends : List ℕ) (place : ℕ) → AreEnds from count ends → place < length ends → StandsAt from count ends place
stands_at from count [] place all less = absurd (omega arith)
stands_at from count (first ∷ ends) zero all less =
    record { ordered = all.0; within = begins_within first count ends all.1; is = λ lits. refl }
stands_at from count (first ∷ ends) (suc place) all less =
    let later = stands_at first count ends place all.1 (omega arith) in
    record { ordered = later.ordered; within = later.within; is = later.is }

pub starts_first : (from : ℕ) (ends : List ℕ) → from ≡ start_at from ends 0
starts_first from [] = refl
starts_first from (first ∷ ends) = refl

starts_behind : (from : ℕ) (ends : List ℕ) (place : ℕ) → suc place < length ends → slice_index_or ends place 0 ≡ start_at from ends (suc place)
starts_behind from [] place less = absurd (omega arith)
starts_behind from (first ∷ []) place less = absurd (omega arith)
starts_behind from (first ∷ next ∷ ends) zero less = refl
starts_behind from (first ∷ next ∷ ends) (suc place) less = starts_behind first (next ∷ ends) place (omega arith)

pub starts_later : (from : ℕ) (ends : List ℕ) (place : ℕ) → 0 < place → place < length ends → slice_index_or ends (place - 1) 0 ≡ start_at from ends place
starts_later from ends zero some less = absurd (omega arith)
starts_later from ends (suc place) some less = let before : suc place - 1 ≡ place = omega arith in rw before (starts_behind from ends place less)

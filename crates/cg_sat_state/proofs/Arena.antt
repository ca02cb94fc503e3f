-- Clauses in one list of literals.
use Rattle.std.proofs.Common.{◌≡◌, ◌≢◌, ℕ, ◌+◌, ◌-◌, zero, suc, ◌<◌, ◌≤◌, Bool, true, false, List, [], ◌∷◌, ◌++◌, Option, Some}
use Rattle.std.proofs.Common.{None, refl, sym, ap, ◌∙◌, subst, length, take, drop, set, get_or, arith, nat_le}
use Rattle.std.specs.Prelude.{Result, Ok, Err, OnErr}
use Rattle.std.specs.List.{slice_range, AllByRecursion, slice_get}
use Rattle.std.proofs.lemmas.Option.{slice_get-get_or}
use Rattle.std.proofs.Math.Seq.{drop-append_seam, take-length}
use Rattle.std.proofs.Math.ListN.{length-drop}
use Rattle.std.proofs.lemmas.Bool.Decides.{nat_tests}
use Rattle.std.proofs.lemmas.List.{take-append-le, drop-append-le, map-set}
use Rattle.cg_formula.specs.declared.formula.Lit.{Lit}
use Rattle.cg_sat_state.specs.declared.clauses.Span.{Span}
use Rattle.cg_sat_state.specs.Store.{Store, clause_at, IsWithout}
use Rattle.cg_sat_state.specs.inner.Arena.{held, store_of, IsWithin}

pub in_order : (from to : ℕ) → nat_le from to ≡ true → from ≤ to
in_order from to e = grind (arith, nat_tests)

pub out_of_order : (from to : ℕ) → to < from → nat_le from to ≡ false
out_of_order from to less = grind (arith, nat_tests)

pub ordered : (from to : ℕ) → from ≤ to → nat_le from to ≡ true
ordered from to le = grind (arith, nat_tests)

range_longer : (lits more : List Lit) (from to : ℕ) → from ≤ to → to ≤ length lits → slice_range (lits ++ more) from to ≡ slice_range lits from to
range_longer lits more from to ordered within =
    let long : length (drop from lits) ≡ length lits - from = length-drop from lits in
    ap (take (to - from)) (drop-append-le from lits more (omega arith)) ∙ take-append-le (to - from) (drop from lits) more (omega (arith, long))

pub range_last : (lits clause : List Lit) (to : ℕ) → to ≡ length lits + length clause → slice_range (lits ++ clause) (length lits) to ≡ clause
range_last lits clause to e =
    let long : to - length lits ≡ length clause = omega (arith, e) in
    ap (take (to - length lits)) (drop-append_seam lits clause) ∙ ap (λ n. take n clause) long ∙ take-length clause

held_longer : (lits more : List Lit) (span : Span) → IsWithin (length lits) span → held (lits ++ more) span ≡ held lits span
held_longer lits more span within = pick (nat_le span.from span.to) refl where
  pick : (b : Bool) → nat_le span.from span.to ≡ b → held (lits ++ more) span ≡ held lits span
  pick true e = rw e (ap Some (range_longer lits more span.from span.to (in_order span.from span.to e) within.within))
  pick false e = rw e refl

pub store_longer : (lits more : List Lit) (spans : List Span) → AllByRecursion (IsWithin (length lits)) spans → store_of (lits ++ more) spans ≡ store_of lits spans
store_longer lits more [] all = refl
store_longer lits more (s ∷ ss) all = rw (held_longer lits more s all.0, store_longer lits more ss all.1) refl

pub within_longer : (m n : ℕ) (spans : List Span) → m ≤ n → AllByRecursion (IsWithin m) spans → AllByRecursion (IsWithin n) spans
within_longer m n [] le all = tt
within_longer m n (s ∷ ss) le all = (record { within = let high = all.0.within in omega arith }, within_longer m n ss le all.1)

pub within_pushed : (n : ℕ) (spans : List Span) (span : Span) → AllByRecursion (IsWithin n) spans → IsWithin n span → AllByRecursion (IsWithin n) (spans ++ span ∷ [])
within_pushed n [] span all p = (p, tt)
within_pushed n (s ∷ ss) span all p = (all.0, within_pushed n ss span all.1 p)

pub store_pushed : (lits : List Lit) (spans : List Span) (span : Span) → store_of lits (spans ++ span ∷ []) ≡ store_of lits spans ++ held lits span ∷ []
store_pushed lits [] span = refl
store_pushed lits (s ∷ ss) span = ap (λ cs. held lits s ∷ cs) (store_pushed lits ss span)

-- what the code reads

pub span_within : (n : ℕ) (spans : List Span) (k : ℕ) (span : Span) → AllByRecursion (IsWithin n) spans → slice_get spans k ≡ Some span → IsWithin n span
span_within n [] k span all e = absurd (cc)
span_within n (s ∷ ss) zero span all e = let same : s ≡ span = cc in subst (IsWithin n) same all.0
span_within n (s ∷ ss) (suc k) span all e = span_within n ss k span all.1 e

pub store_at : (lits : List Lit) (spans : List Span) (k : ℕ) (span : Span) → slice_get spans k ≡ Some span → clause_at (store_of lits spans) k ≡ held lits span
store_at lits [] k span e = absurd (cc)
store_at lits (s ∷ ss) zero span e = let same : s ≡ span = cc in ap (held lits) same
store_at lits (s ∷ ss) (suc k) span e = store_at lits ss k span e

pub store_past : (lits : List Lit) (spans : List Span) (k : ℕ) → length spans ≤ k → clause_at (store_of lits spans) k ≡ None
store_past lits [] k past = refl
store_past lits (s ∷ ss) zero past = absurd (omega arith)
store_past lits (s ∷ ss) (suc k) past = store_past lits ss k (omega arith)

pub read_at : {X : Type 0} (xs : List X) (k : ℕ) (x : X) → k < length xs → x ≡ get_or xs k x → slice_get xs k ≡ Some x
read_at xs k x within e = slice_get-get_or xs k x within ∙ ap Some (sym e)

-- a clause less

pub within_set : (n : ℕ) (spans : List Span) (k : ℕ) (span : Span) → AllByRecursion (IsWithin n) spans → IsWithin n span → AllByRecursion (IsWithin n) (set spans k span)
within_set n [] k span all p = tt
within_set n (s ∷ ss) zero span all p = (p, all.1)
within_set n (s ∷ ss) (suc k) span all p = (all.0, within_set n ss k span all.1 p)

other_at : (clauses : Store) (place k : ℕ) (c : Option (List Lit)) → k ≢ place → clause_at (set clauses place c) k ≡ clause_at clauses k
other_at [] place k c other = refl
other_at (d ∷ ds) zero zero c other = absurd (other refl)
other_at (d ∷ ds) zero (suc k) c other = refl
other_at (d ∷ ds) (suc place) zero c other = refl
other_at (d ∷ ds) (suc place) (suc k) c other = other_at ds place k c (λ e. other (ap suc e))

gone_at : (clauses : Store) (place : ℕ) → clause_at (set clauses place None) place ≡ None
gone_at [] place = refl
gone_at (d ∷ ds) zero = refl
gone_at (d ∷ ds) (suc place) = gone_at ds place

long_set : (clauses : Store) (place : ℕ) (c : Option (List Lit)) → length (set clauses place c) ≡ length clauses
long_set [] place c = refl
long_set (d ∷ ds) zero c = refl
long_set (d ∷ ds) (suc place) c = ap suc (long_set ds place c)

pub store_same : (lits : List Lit) (spans : List Span) (place : ℕ) → length spans ≤ place → IsWithout (store_of lits spans) place (store_of lits spans)
store_same lits spans place past = record { others = λ k other. refl; gone = store_past lits spans place past; long = refl }

pub store_without : (lits : List Lit) (spans : List Span) (place : ℕ) (span : Span) → nat_le span.from span.to ≡ false → IsWithout (store_of lits spans) place (store_of lits (set spans place span))
store_without lits spans place span off =
    let none : held lits span ≡ None = rw off refl in
    let whole : store_of lits (set spans place span) ≡ set (store_of lits spans) place None = map-set (held lits) spans place span ∙ ap (set (store_of lits spans) place) none in
    let less : IsWithout (store_of lits spans) place (set (store_of lits spans) place None) = record {
      others = λ k other. other_at (store_of lits spans) place k None other;
      gone = gone_at (store_of lits spans) place;
      long = long_set (store_of lits spans) place None;
    } in
    subst (IsWithout (store_of lits spans) place) (sym whole) less

-- where memory was wanting
pub on_err : {X Y : Type 0} (r : Result X Y) (P : Type 0) → P → OnErr r P
on_err (Ok x) P p = tt
on_err (Err e) P p = p

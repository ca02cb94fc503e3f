-- What was read before the rest of a text, put before what the rest gives.
use Rattle.std.proofs.Common.{◌≡◌, ℕ, zero, suc, ◌+◌, Bool, List, [], ◌∷◌, ◌++◌, drop, slice_get, Result, Ok, Err, Some, None, refl}
use Rattle.std.proofs.Common.{sym, ap, ◌∙◌, append_assoc, arith}
use Rattle.cg_stimulus.specs.declared.fault.StimulusFault.{StimulusFault}
use Rattle.cg_stimulus.specs.declared.fault.StimulusFault.TheVariants as faults
use Rattle.cg_stimulus.specs.Fault.{◌>>=◌}
use Rattle.cg_stimulus.specs.Reading.{columns_of, column_of}

-- columns

abbrev pub columns_before : List ℕ → Result (List ℕ) StimulusFault → Result (List ℕ) StimulusFault
columns_before front (Ok columns) = Ok (front ++ columns)
columns_before front (Err e) = Err e

column_after : (front : List ℕ) (column : ℕ) (r : Result (List ℕ) StimulusFault)
    → columns_before front (◌>>=◌ {B = List ℕ} r (λ columns. Ok (column ∷ columns))) ≡ columns_before (front ++ column ∷ []) r
column_after front column (Ok columns) = ap Ok (sym (append_assoc front (column ∷ []) columns))
column_after front column (Err e) = refl

pub columns_go : (names : List (List ℕ)) (front new : List ℕ) (left : List (List ℕ)) (input : List ℕ) (later : List (List ℕ)) (column : ℕ) (whole : Result (List ℕ) StimulusFault)
    → new ≡ front ++ column ∷ [] → left ≡ input ∷ later → column_of names input ≡ Some column → columns_before front (columns_of names left) ≡ whole
    → columns_before new (columns_of names later) ≡ whole
columns_go names front new left input later column whole pushed split place so_far =
    ap (λ columns. columns_before columns (columns_of names later)) pushed
    ∙ (sym (column_after front column (columns_of names later)) ∙ (sym (rw (split, place) refl) ∙ so_far))

pub columns_end : (names : List (List ℕ)) (front : List ℕ) (left : List (List ℕ)) (input : List ℕ) (later : List (List ℕ)) (whole : Result (List ℕ) StimulusFault)
    → left ≡ input ∷ later → column_of names input ≡ None → columns_before front (columns_of names left) ≡ whole → whole ≡ Err (faults.MissingInput input)
columns_end names front left input later whole split place so_far = sym so_far ∙ rw (split, place) refl

-- rows

abbrev pub rows_before : List (List Bool) → Result (List (List Bool)) StimulusFault → Result (List (List Bool)) StimulusFault
rows_before front (Ok rows) = Ok (front ++ rows)
rows_before front (Err e) = Err e

-- the item at a place, and what stands behind it
pub next_at : {X : Type 0} (xs : List X) (i : ℕ) (x : X) → slice_get xs i ≡ Some x → drop i xs ≡ x ∷ drop (i + 1) xs
next_at [] i x at = absurd (cc)
next_at (y ∷ ys) zero x at = let same : y ≡ x = cc in ap (λ z. z ∷ ys) same
next_at (y ∷ ys) (suc i) x at = let e : suc i + 1 ≡ suc (i + 1) = omega arith in next_at ys i x at ∙ ap (λ k. x ∷ drop k (y ∷ ys)) (sym e)

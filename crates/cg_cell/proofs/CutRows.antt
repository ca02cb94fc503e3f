-- Places that are cut into rows: each row of them, and one row more.
use Rattle.std.proofs.Common.{◌≡◌, ◌<◌, ◌≤◌, ℕ, zero, suc, ◌+◌, ◌*◌, ◌-◌, Bool, List, [], ◌∷◌, ◌++◌, refl, sym, ◌∙◌, ap, subst, arith, length, Option}
use Rattle.std.specs.Prelude.{take, drop, get_or}
use Rattle.std.specs.List.{AllByRecursion}
use Rattle.std.proofs.lemmas.List.{length-append, length-drop, length-take-le, take-append-le, drop-append-le, take_all, drop-drop}
use Rattle.cg_cell.specs.Cover.{HaveOneLength}
use Rattle.cg_cell.specs.inner.CutRows.{cut_rows}
use Rattle.cg_cell.proofs.Covers.{have_one_length}
use Rattle.std.proofs.Math.Nat.{mul-le-mul_right, suc-mul, zero-mul}

pub cut_rows-length : (width count : ℕ) (places : List (Option Bool)) → length (cut_rows width count places) ≡ count
cut_rows-length width zero places = refl
cut_rows-length width (suc count) places = ap suc (cut_rows-length width count (drop width places))

-- a row ends where the places do, or before
pub row_within : (width count i : ℕ) → i < count → i * width + width ≤ count * width
row_within width count i below =
    let e : suc i * width ≡ i * width + width = suc-mul i width in
    let h : suc i * width ≤ count * width = mul-le-mul_right width (omega arith) in
    omega (arith, e, h)

room_for_first : (width count : ℕ) (places : List (Option Bool)) → length places ≡ suc count * width → width ≤ length places
room_for_first width count places long = omega (arith, long, suc-mul count width)

behind_first : (width count : ℕ) (places : List (Option Bool)) → length places ≡ suc count * width → length (drop width places) ≡ count * width
behind_first width count places long = omega (arith, length-drop width places, long, suc-mul count width)

-- what stands at a row's place
pub cut_rows-row : (width count i : ℕ) (places : List (Option Bool)) → i < count → get_or (cut_rows width count places) i [] ≡ take width (drop (i * width) places)
cut_rows-row width zero i places below = absurd (omega arith)
cut_rows-row width (suc count) zero places below = ap (λ n. take width (drop n places)) (sym (zero-mul width))
cut_rows-row width (suc count) (suc i) places below =
    let e : width + i * width ≡ suc i * width = omega (arith, suc-mul i width) in
    cut_rows-row width count i (drop width places) (omega arith)
    ∙ (ap (take width) (drop-drop (i * width) width places) ∙ ap (λ n. take width (drop n places)) e)

cut_rows-each : (width count : ℕ) (places : List (Option Bool)) → length places ≡ count * width → AllByRecursion (λ row. length row ≡ width) (cut_rows width count places)
cut_rows-each width zero places long = tt
cut_rows-each width (suc count) places long =
    (length-take-le width places (room_for_first width count places long), cut_rows-each width count (drop width places) (behind_first width count places long))

-- rows that were cut have one length
pub cut_rows-even : (width count : ℕ) (places : List (Option Bool)) → length places ≡ count * width → HaveOneLength (cut_rows width count places)
cut_rows-even width count places long = have_one_length width (cut_rows width count places) (cut_rows-each width count places long)

no_places : (places : List (Option Bool)) → length places ≡ 0 → places ≡ []
no_places [] none = refl
no_places (place ∷ places) none = absurd (omega (arith, none))

one_more : (width count : ℕ) (places row : List (Option Bool)) → length places ≡ count * width → length row ≡ width → cut_rows width (suc count) (places ++ row) ≡ cut_rows width count places ++ row ∷ []
one_more width zero places row long wide =
    let none = no_places places (omega (arith, long, zero-mul width)) in
    ap (λ front. take width (front ++ row) ∷ []) none ∙ ap (λ r. r ∷ []) (take_all width row (omega (arith, wide)))
one_more width (suc count) places row long wide =
    let room = room_for_first width count places long in
    ap (λ first. first ∷ cut_rows width (suc count) (drop width (places ++ row))) (take-append-le width places row room)
    ∙ (ap (λ rest. take width places ∷ cut_rows width (suc count) rest) (drop-append-le width places row room)
    ∙ ap (λ rest. take width places ∷ rest) (one_more width count (drop width places) row (behind_first width count places long) wide))

last_of : (P : List (Option Bool) → Type 0) (rows : List (List (Option Bool))) (row : List (Option Bool)) → AllByRecursion P (rows ++ row ∷ []) → P row
last_of P [] row all = all.0
last_of P (first ∷ rows) row all = last_of P rows row all.1

-- a row that may stand behind the others is as wide as they are
as_wide : (width count : ℕ) (places row : List (Option Bool)) → length places ≡ suc count * width → HaveOneLength (cut_rows width (suc count) places ++ row ∷ []) → length row ≡ width
as_wide width count places row long even =
    last_of (λ other. length other ≡ length (take width places)) (cut_rows width count (drop width places)) row even
    ∙ length-take-le width places (room_for_first width count places long)

-- one row more, with the width that it has
cut_rows-push : (width count : ℕ) (places row : List (Option Bool)) → length places ≡ count * width → HaveOneLength (cut_rows width count places ++ row ∷ []) → cut_rows (length row) (suc count) (places ++ row) ≡ cut_rows width count places ++ row ∷ []
cut_rows-push width zero places row long even =
    let none = no_places places (omega (arith, long, zero-mul width)) in
    one_more (length row) 0 places row (ap length none ∙ sym (zero-mul (length row))) refl
cut_rows-push width (suc count) places row long even =
    let wide = as_wide width count places row long even in
    ap (λ n. cut_rows n (suc (suc count)) (places ++ row)) wide ∙ one_more width (suc count) places row long wide

-- and so many places
push-long : (width count : ℕ) (places row : List (Option Bool)) → length places ≡ count * width → HaveOneLength (cut_rows width count places ++ row ∷ []) → length (places ++ row) ≡ suc count * length row
push-long width zero places row long even = omega (arith, length-append places row, long, zero-mul width, suc-mul 0 (length row), zero-mul (length row))
push-long width (suc count) places row long even =
    let wide = as_wide width count places row long even in
    let e : suc (suc count) * length row ≡ suc (suc count) * width = ap (λ n. suc (suc count) * n) wide in
    omega (arith, e, length-append places row, long, wide, suc-mul (suc count) width)

pub pushed : (width count more : ℕ) (places row : List (Option Bool)) (rows : List (List (Option Bool))) → more ≡ count + 1 → cut_rows width count places ≡ rows → length places ≡ count * width → HaveOneLength (rows ++ row ∷ []) → cut_rows (length row) more (places ++ row) ≡ rows ++ row ∷ []
pushed width count more places row rows one view long even =
    let even-2 = subst (λ rs. HaveOneLength (rs ++ row ∷ [])) (sym view) even in
    let e : more ≡ suc count = omega (arith, one) in
    ap (λ n. cut_rows (length row) n (places ++ row)) e ∙ (cut_rows-push width count places row long even-2 ∙ ap (λ rs. rs ++ row ∷ []) view)

pub pushed-long : (width count more : ℕ) (places row : List (Option Bool)) (rows : List (List (Option Bool))) → more ≡ count + 1 → cut_rows width count places ≡ rows → length places ≡ count * width → HaveOneLength (rows ++ row ∷ []) → length (places ++ row) ≡ more * length row
pushed-long width count more places row rows one view long even =
    let even-2 = subst (λ rs. HaveOneLength (rs ++ row ∷ [])) (sym view) even in
    let e : more ≡ suc count = omega (arith, one) in
    push-long width count places row long even-2 ∙ sym (ap (λ n. n * length row) e)

-- there is room for a row that is asked for
pub row_room : (width count i : ℕ) (places : List (Option Bool)) (rows : List (List (Option Bool))) → cut_rows width count places ≡ rows → length places ≡ count * width → i < length rows → i * width + width ≤ length places
row_room width count i places rows view long below =
    let n : length rows ≡ count = sym (ap length view) ∙ cut_rows-length width count places in
    let room = row_within width count i (omega (arith, n, below)) in
    omega (arith, room, long)

-- the row that stands there
pub row_is : (width count i : ℕ) (places : List (Option Bool)) (rows : List (List (Option Bool))) → cut_rows width count places ≡ rows → i < length rows → take (i * width + width - i * width) (drop (i * width) places) ≡ get_or rows i []
row_is width count i places rows view below =
    let n : length rows ≡ count = sym (ap length view) ∙ cut_rows-length width count places in
    let e : i * width + width - i * width ≡ width = omega arith in
    ap (λ k. take k (drop (i * width) places)) e ∙ (sym (cut_rows-row width count i places (omega (arith, n, below))) ∙ ap (λ rs. get_or rs i []) view)

-- Bits that are cut into rows: each row of them, and one row more.
use Rattle.std.proofs.Common.{◌≡◌, ◌<◌, ◌≤◌, ℕ, zero, suc, ◌+◌, ◌*◌, ◌-◌, Bool, List, [], ◌∷◌, ◌++◌, refl, sym, ◌∙◌, ap, subst, arith, length}
use Rattle.std.specs.Prelude.{take, drop, get_or, slice_get, Some}
use Rattle.std.proofs.lemmas.Option.{slice_get-get_or}
use Rattle.std.specs.List.{AllByRecursion}
use Rattle.std.proofs.lemmas.List.{length-append, length-drop, length-take-le, take-append-le, drop-append-le, take_all, drop-drop}
use Rattle.cg_stimulus.specs.inner.CutRows.{cut_rows}
use Rattle.std.proofs.Math.Nat.{mul-le-mul_right, suc-mul, zero-mul}

pub cut_rows-length : (width count : ℕ) (bits : List Bool) → length (cut_rows width count bits) ≡ count
cut_rows-length width zero bits = refl
cut_rows-length width (suc count) bits = ap suc (cut_rows-length width count (drop width bits))

-- a row ends where the bits do, or before
pub row_within : (width count i : ℕ) → i < count → i * width + width ≤ count * width
row_within width count i below =
    let e : suc i * width ≡ i * width + width = suc-mul i width in
    let h : suc i * width ≤ count * width = mul-le-mul_right width (omega arith) in
    omega (arith, e, h)

room_for_first : (width count : ℕ) (bits : List Bool) → length bits ≡ suc count * width → width ≤ length bits
room_for_first width count bits long = omega (arith, long, suc-mul count width)

behind_first : (width count : ℕ) (bits : List Bool) → length bits ≡ suc count * width → length (drop width bits) ≡ count * width
behind_first width count bits long = omega (arith, length-drop width bits, long, suc-mul count width)

-- what stands at a row's place
pub cut_rows-row : (width count i : ℕ) (bits : List Bool) → i < count → get_or (cut_rows width count bits) i [] ≡ take width (drop (i * width) bits)
cut_rows-row width zero i bits below = absurd (omega arith)
cut_rows-row width (suc count) zero bits below = ap (λ n. take width (drop n bits)) (sym (zero-mul width))
cut_rows-row width (suc count) (suc i) bits below =
    let e : width + i * width ≡ suc i * width = omega (arith, suc-mul i width) in
    cut_rows-row width count i (drop width bits) (omega arith)
    ∙ (ap (take width) (drop-drop (i * width) width bits) ∙ ap (λ n. take width (drop n bits)) e)

no_bits : (bits : List Bool) → length bits ≡ 0 → bits ≡ []
no_bits [] none = refl
no_bits (bit ∷ bits) none = absurd (omega (arith, none))

one_more : (width count : ℕ) (bits row : List Bool) → length bits ≡ count * width → length row ≡ width → cut_rows width (suc count) (bits ++ row) ≡ cut_rows width count bits ++ row ∷ []
one_more width zero bits row long wide =
    let none = no_bits bits (omega (arith, long, zero-mul width)) in
    ap (λ front. take width (front ++ row) ∷ []) none ∙ ap (λ r. r ∷ []) (take_all width row (omega (arith, wide)))
one_more width (suc count) bits row long wide =
    let room = room_for_first width count bits long in
    ap (λ first. first ∷ cut_rows width (suc count) (drop width (bits ++ row))) (take-append-le width bits row room)
    ∙ (ap (λ rest. take width bits ∷ cut_rows width (suc count) rest) (drop-append-le width bits row room)
    ∙ ap (λ rest. take width bits ∷ rest) (one_more width count (drop width bits) row (behind_first width count bits long) wide))

-- a row that may stand behind the others is as wide as they are
as_wide : (width count : ℕ) (bits row : List Bool) → length bits ≡ suc count * width → AllByRecursion (λ other. length other ≡ length row) (cut_rows width (suc count) bits) → length row ≡ width
as_wide width count bits row long all = sym all.0 ∙ length-take-le width bits (room_for_first width count bits long)

-- one row more, with the width that it has
cut_rows-push : (width count : ℕ) (bits row : List Bool) → length bits ≡ count * width → AllByRecursion (λ other. length other ≡ length row) (cut_rows width count bits) → cut_rows (length row) (suc count) (bits ++ row) ≡ cut_rows width count bits ++ row ∷ []
cut_rows-push width zero bits row long all =
    let none = no_bits bits (omega (arith, long, zero-mul width)) in
    one_more (length row) 0 bits row (ap length none ∙ sym (zero-mul (length row))) refl
cut_rows-push width (suc count) bits row long all =
    let wide = as_wide width count bits row long all in
    ap (λ n. cut_rows n (suc (suc count)) (bits ++ row)) wide ∙ one_more width (suc count) bits row long wide

-- and so many bits
push-long : (width count : ℕ) (bits row : List Bool) → length bits ≡ count * width → AllByRecursion (λ other. length other ≡ length row) (cut_rows width count bits) → length (bits ++ row) ≡ suc count * length row
push-long width zero bits row long all = omega (arith, length-append bits row, long, zero-mul width, suc-mul 0 (length row), zero-mul (length row))
push-long width (suc count) bits row long all =
    let wide = as_wide width count bits row long all in
    let e : suc (suc count) * length row ≡ suc (suc count) * width = ap (λ n. suc (suc count) * n) wide in
    omega (arith, e, length-append bits row, long, wide, suc-mul (suc count) width)

pub pushed : (width count : ℕ) (bits row : List Bool) (rows : List (List Bool)) → cut_rows width count bits ≡ rows → length bits ≡ count * width → AllByRecursion (λ other. length other ≡ length row) rows → cut_rows (length row) (count + 1) (bits ++ row) ≡ rows ++ row ∷ []
pushed width count bits row rows view long all =
    let each = subst (AllByRecursion (λ other. length other ≡ length row)) (sym view) all in
    let e : count + 1 ≡ suc count = omega arith in
    ap (λ n. cut_rows (length row) n (bits ++ row)) e ∙ (cut_rows-push width count bits row long each ∙ ap (λ rs. rs ++ row ∷ []) view)

pub pushed-long : (width count : ℕ) (bits row : List Bool) (rows : List (List Bool)) → cut_rows width count bits ≡ rows → length bits ≡ count * width → AllByRecursion (λ other. length other ≡ length row) rows → length (bits ++ row) ≡ (count + 1) * length row
pushed-long width count bits row rows view long all =
    let each = subst (AllByRecursion (λ other. length other ≡ length row)) (sym view) all in
    let e : count + 1 ≡ suc count = omega arith in
    push-long width count bits row long each ∙ sym (ap (λ n. n * length row) e)

-- there is room for a row that is asked for
pub row_room : (width count i : ℕ) (bits : List Bool) (rows : List (List Bool)) → cut_rows width count bits ≡ rows → length bits ≡ count * width → i < length rows → i * width + width ≤ length bits
row_room width count i bits rows view long below =
    let n : length rows ≡ count = sym (ap length view) ∙ cut_rows-length width count bits in
    let room = row_within width count i (omega (arith, n, below)) in
    omega (arith, room, long)

-- the row that stands there
row_is : (width count i : ℕ) (bits : List Bool) (rows : List (List Bool)) → cut_rows width count bits ≡ rows → i < length rows → take (i * width + width - i * width) (drop (i * width) bits) ≡ get_or rows i []
row_is width count i bits rows view below =
    let n : length rows ≡ count = sym (ap length view) ∙ cut_rows-length width count bits in
    let e : i * width + width - i * width ≡ width = omega arith in
    ap (λ k. take k (drop (i * width) bits)) e ∙ (sym (cut_rows-row width count i bits (omega (arith, n, below))) ∙ ap (λ rs. get_or rs i []) view)

pub row_at : (width count i : ℕ) (bits row : List Bool) (rows : List (List Bool)) → cut_rows width count bits ≡ rows → i < length rows → row ≡ take (i * width + width - i * width) (drop (i * width) bits) → slice_get rows i ≡ Some row
row_at width count i bits row rows view below is = slice_get-get_or rows i [] below ∙ ap (λ r. Some r) (sym (is ∙ row_is width count i bits rows view below))

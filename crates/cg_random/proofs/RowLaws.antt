-- Rows by chance are rows of a stimulus: as many as were asked for, each with a bit for each data input.
use Rattle.std.proofs.Common.{◌≡◌, ◌≤◌, ℕ, zero, suc, Bool, true, false, if◌then◌else◌, List, [], ◌∷◌, length, Ok, Err, refl, sym, ◌∙◌, ap, subst, nat_le, arith}
use Rattle.std.specs.List.{AllByRecursion}
use Rattle.std.proofs.lemmas.Bool.{leb-true}
use Rattle.cg_limit.specs.declared.Limit.TheVariants as limits
use Rattle.cg_limit.specs.declared.TheConstants.{MOST_ROWS}
use Rattle.cg_netlist.specs.declared.fault.AddFault.{AddFault}
use Rattle.cg_netlist.specs.declared.fault.AddFault.TheVariants.{Limit as LimitFault}
use Rattle.cg_stimulus.specs.Inputs.{IsStimulus}
use Rattle.rand_pcg.specs.Lcg.{Lcg}
use Rattle.cg_random.specs.RandomRows.{behind, behind_word, first_generator, first_row, next_row, random_found, random_rows, rows_from}

pub first_long : (width : ℕ) (g : Lcg) → length (first_row width g) ≡ width
first_long zero g = refl
first_long (suc n) g = ap suc (first_long n (behind_word g))

pub next_long : (row : List Bool) (g : Lcg) → length (next_row row g) ≡ length row
next_long [] g = refl
next_long (bit ∷ row) g = ap suc (next_long row (behind_word g))

rows_long : (n : ℕ) (row : List Bool) (g : Lcg) → length (rows_from n row g) ≡ n
rows_long zero row g = refl
rows_long (suc n) row g = ap suc (rows_long n (next_row row g) (behind (length row) g))

rows_wide : (width n : ℕ) (row : List Bool) (g : Lcg) → length row ≡ width → AllByRecursion (λ r. length r ≡ width) (rows_from n row g)
rows_wide width zero row g is = tt
rows_wide width (suc n) row g is = (is, rows_wide width n (next_row row g) (behind (length row) g) (next_long row g ∙ is))

pub random_stimulus : (inputs : List (List ℕ)) (count : ℕ) (rows : List (List Bool)) → count ≤ MOST_ROWS → rows ≡ random_rows count (length inputs) → IsStimulus (record { inputs = inputs; rows = rows })
random_stimulus inputs count rows few is =
    let g = behind (length inputs) first_generator in
    let row = first_row (length inputs) first_generator in
    let P : List (List Bool) → Type 0 = λ r. AllByRecursion (λ row. length row ≡ length inputs) r in
    record {
      wide = subst P (sym is) (rows_wide (length inputs) count row g (first_long (length inputs) first_generator));
      few = subst (λ n. n ≤ MOST_ROWS) (sym (ap length is ∙ rows_long count row g)) few;
    }

pub random_is : (count width : ℕ) (rows : List (List Bool)) → random_found count width ≡ Ok rows → (count ≤ MOST_ROWS) × (rows ≡ random_rows count width)
random_is count width rows is = go (nat_le count MOST_ROWS) refl is
  where
    go : (within : Bool) → nat_le count MOST_ROWS ≡ within → (if within then Ok (random_rows count width) else Err (LimitFault limits.Rows)) ≡ Ok rows → (count ≤ MOST_ROWS) × (rows ≡ random_rows count width)
    go true within is = (leb-true count MOST_ROWS within, cc)
    go false within is = absurd (cc)

-- The mask of a load, and the first byte that passes a test.
use Rattle.std.proofs.Common.{◌≡◌, ℕ, ◌+◌, ◌%◌, ◌^◌, ◌<◌, ◌≤◌, Bool, false, not, cond, List, map, length, get_or, replicate, w8, ap}
use Rattle.std.proofs.Common.{◌∙◌, arith, inl, inr}
use Rattle.std.proofs.lemmas.Bool.{cases_lt}
use Rattle.std.proofs.lemmas.Simd.{bitmask_splat, first_set_mask_l, length-chunk, run_in_chunk_fails, run_in_chunk_le}
use Rattle.std.proofs.lemmas.Simd.{run_in_chunk_stops}
use Rattle.std.specs.List.{prefix_len}
use lib.Lanes.{chunk, zip2, mask_l, top}
use Rattle.cg_scan.specs.Runs.{IsRun, first_set}

-- the lanes of a load, compared with one value
module _ (t : ℕ → ℕ → Bool) (text : List ℕ) (from y r : ℕ) (room : from + 16 ≤ length text)
    (found : r ≡ first_set (mask_l (map (top 7) (zip2 (λ a b. cond (t a b) 255 0) (chunk from 16 text) (replicate 16 y))) % 2 ^ 64) 16) where
  passes : ℕ → Bool
  passes x = t x y

  counted : r ≡ prefix_len (λ x. not (t x y)) (chunk from 16 text)
  counted =
      let long = length-chunk from 16 text room in
      found ∙ (ap (λ m. first_set m 16) (bitmask_splat w8 t (chunk from 16 text) 16 y long (omega arith))
      ∙ first_set_mask_l (λ x. t x y) (chunk from 16 text) 16 long (omega arith))

  pub run : IsRun (λ x. t x y) text from 16 r
  run = record {
    within = run_in_chunk_le (λ x. t x y) text from 16 r 0 room counted;
    before = run_in_chunk_fails (λ x. t x y) text from 16 r 0 room counted;
    ends = run_in_chunk_stops (λ x. t x y) text from 16 r 0 room counted;
  }

-- no byte up to a place passes, and none of the run behind it does
pub none_on : (test : ℕ → Bool) (text : List ℕ) (seen next : ℕ) → ((k : ℕ) → k < seen → test (get_or text k 0) ≡ false)
    → ((k : ℕ) → seen ≤ k → k < next → test (get_or text k 0) ≡ false) → (k : ℕ) → k < next → test (get_or text k 0) ≡ false
none_on test text seen next front back k below = elim (cases_lt k seen) [ inl early ↦ front k early | inr late ↦ back k (omega arith) below ]

-- Counts that are carried to the nets that come from others.
use Rattle.std.proofs.Common.{◌≡◌, ℕ, ◌<◌, ◌≤◌, List, [], ◌∷◌, map, length, slice_get, slice_index_or, Option, None, Some, IfSome}
use Rattle.std.proofs.Common.{Result, Ok, Err, IfOk, refl, ◌∙◌, ap, arith}
use Rattle.std.specs.List.{All, AllByRecursion}
use Rattle.std.proofs.lemmas.List.Elements.{All-get_or}
use Rattle.std.proofs.lemmas.Option.{get_or_from_slice_get}
use Rattle.cg_netlist.proofs.Each.{by_recursion, from_recursion}
use Rattle.cg_netlist.specs.Circuit.{Circuit}
use Rattle.cg_netlist.specs.History.{Moment}
use Rattle.cg_report.specs.Zeros.{CountZeros, low_moments, zeros_of}
use Rattle.cg_gate.specs.ZeroCounting.{zeros_by}

-- nets below a number
abbrev pub Below : ℕ → Option ℕ → Type 0
Below n o = IfSome o (λ net. net < n)

module _ (zeros : List ℕ) where
  abbrev at : ℕ → ℕ
  at net = slice_index_or zeros net 0

  few_each : (origins : List (Option ℕ)) (most : ℕ) → AllByRecursion (Below (length zeros)) origins → All (λ n. n ≤ most) zeros → AllByRecursion (λ n. n ≤ most) (map (zeros_by at) origins)
  few_each [] most within few = tt
  few_each (None ∷ origins) most within few = (omega arith, few_each origins most within.1 few)
  few_each (Some net ∷ origins) most within few = (All-get_or (λ n. n ≤ most) zeros net 0 within.0 few, few_each origins most within.1 few)

  pub few_carried : (origins : List (Option ℕ)) (most : ℕ) → All (Below (length zeros)) origins → All (λ n. n ≤ most) zeros → All (λ n. n ≤ most) (map (zeros_by (λ net. slice_index_or zeros net 0)) origins)
  few_carried origins most within few = from_recursion (λ n. n ≤ most) (map (zeros_by at) origins) (few_each origins most (by_recursion (Below (length zeros)) origins within) few)

  same_each : (g : ℕ → ℕ) (n : ℕ) (origins : List (Option ℕ)) → AllByRecursion (Below n) origins → ((net : ℕ) → net < n → slice_get zeros net ≡ Some (g net)) → map (zeros_by at) origins ≡ map (zeros_by g) origins
  same_each g n [] within each = refl
  same_each g n (None ∷ origins) within each = ap (λ l. 0 ∷ l) (same_each g n origins within.1 each)
  same_each g n (Some net ∷ origins) within each =
      ap (λ k. k ∷ map (zeros_by at) origins) (get_or_from_slice_get zeros net (g net) 0 (each net within.0))
      ∙ ap (λ l. g net ∷ l) (same_each g n origins within.1 each)

  pub counts_carried : (c : Circuit) (history : List Moment) → CountZeros c history zeros → (origins : List (Option ℕ)) → All (Below (length c.names)) origins
      → map (zeros_by (λ net. slice_index_or zeros net 0)) origins ≡ map (zeros_by (λ net. zeros_of net (low_moments history))) origins
  counts_carried c history counted origins within = same_each (λ net. zeros_of net (low_moments history)) (length c.names) origins (by_recursion (Below (length c.names)) origins within) counted.each

pub if_made : {A E : Type 0} (P Q : A → Type 0) (r : Result A E) → ((x : A) → P x → Q x) → IfOk r P → IfOk r Q
if_made P Q (Ok x) all is = all x is
if_made P Q (Err fault) all is = tt

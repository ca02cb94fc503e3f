-- The literals of leaves, put at their places one after another.
use Rattle.std.proofs.Common.{◌≡◌, ℕ, ◌+◌, ◌*◌, ◌<◌, List, [], length, slice_get, slice_index_or, slice_set, Option, Some, None}
use Rattle.std.proofs.Common.{sym, ◌∙◌, ap, subst, arith, inl, inr}
use Rattle.std.proofs.lemmas.Option.{none-some, same_Some}
use Rattle.cg_claim.specs.declared.leaf.Leaf.{Leaf}
use Rattle.cg_netlist.proofs.RisingPlaces.{in_head}
use Rattle.cg_machine.proofs.Lists.{below_or}
use Rattle.cg_unroll.specs.Placing.{FillsLeaves}
use Rattle.cg_unroll.specs.Sparse.{AreZero}
use Rattle.cg_unroll.proofs.Filling.{fills_set}

module _ (place : Leaf → Option ℕ) (leaves : List Leaf) where
  pub leaves_none : (values : List ℕ) → AreZero values → FillsLeaves place leaves 0 values
  leaves_none values zeros = record { keeps = λ g agree y is. zeros y ∙ is; fills = λ g agree j y l below at is. absurd (omega (arith, below)) }

  module _ (k : ℕ) (l : Leaf) (at : slice_get leaves k ≡ Some l) (values : List ℕ) (so_far : FillsLeaves place leaves k values) where
    pub leaves_skip : place l ≡ None → FillsLeaves place leaves (k + 1) values
    leaves_skip none = record {
      keeps = so_far.keeps;
      fills = λ g agree j x r before here is. elim (below_or k j) [
        | inl early ↦ so_far.fills g agree j x r early here is
        | inr late ↦
            let e : j ≡ k = omega (arith, before, late) in
            let f : r ≡ l = same_Some r l (sym here ∙ (ap (slice_get leaves) e ∙ at)) in
            absurd (none-some x (sym none ∙ (ap place (sym f) ∙ is)))
      ];
    }

    pub leaves_on : (y v : ℕ) → place l ≡ Some y → y < length values → v ≡ 2 * (k + 1) → FillsLeaves place leaves (k + 1) (slice_set values y v)
    leaves_on y v placed below is = record {
      keeps = λ g agree x zero_is. (fills_set g values y v below (is ∙ agree k y l at placed)).keeps x (so_far.keeps g agree x zero_is);
      fills = λ g agree j x r before here by. elim (below_or k j) [
        | inl early ↦ (fills_set g values y v below (is ∙ agree k y l at placed)).keeps x (so_far.fills g agree j x r early here by)
        | inr late ↦
            let e : j ≡ k = omega (arith, before, late) in
            let f : r ≡ l = same_Some r l (sym here ∙ (ap (slice_get leaves) e ∙ at)) in
            let h : y ≡ x = same_Some y x (sym placed ∙ (ap place (sym f) ∙ by)) in
            subst (λ z. slice_index_or (slice_set values y v) z 0 ≡ g z) h ((fills_set g values y v below (is ∙ agree k y l at placed)).fills y (in_head y []))
      ];
    }

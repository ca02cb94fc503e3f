-- The numbers from 0 on, with one more.
use Rattle.std.proofs.Common.{◌≡◌, ℕ, suc, ◌+◌, false, [], ◌∷◌, ◌++◌, ◌∙◌, ap, arith, inl, inr}
use Rattle.std.specs.List.{range_with_len}
use Rattle.std.proofs.lemmas.Bool.{cases_Bool}
use Rattle.cg_net.specs.NetSets.{is_in}
use Rattle.cg_netlist.proofs.ByRank.{range_more as range_push}
use Rattle.cg_netlist.proofs.Driven.{in_range}

-- one more register
pub range_more : (n : ℕ) → range_with_len 0 (n + 1) ≡ range_with_len 0 n ++ n ∷ []
range_more n =
    let e : n + 1 ≡ suc n = omega arith in
    let f : 0 + n ≡ n = omega arith in
    ap (range_with_len 0) e ∙ (range_push n 0 ∙ ap (λ m. range_with_len 0 n ++ m ∷ []) f)

pub range_new : (n : ℕ) → is_in (range_with_len 0 n) n ≡ false
range_new n = elim (cases_Bool (is_in (range_with_len 0 n) n)) [
  | inl among ↦ let h = in_range n 0 n among in absurd (let high = h.1 in omega (arith, high))
  | inr none ↦ none
]

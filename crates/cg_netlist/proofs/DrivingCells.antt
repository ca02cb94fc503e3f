-- A table of the cells that drive nets, with one more cell.
use Rattle.std.proofs.Common.{[], ℕ, suc, ◌+◌, ◌<◌, ◌≤◌, ◌≡◌, inl, inr, Bool, true, false, cond, ◌==◌, List, ◌∷◌, ◌++◌, Option}
use Rattle.std.proofs.Common.{Some, None, length, take, set, unwrap_or, refl, sym, ap, ◌∙◌, subst, arith}
use Rattle.std.specs.List.{position_from}
use Rattle.std.specs.Option.{option_or}
use Rattle.std.proofs.lemmas.Bool.{cases_Bool, eqb-true, eq-eqb}
use Rattle.std.proofs.lemmas.Bool.Decides.{eqb_tells}
use Rattle.std.proofs.lemmas.List.{length-set}
use Rattle.cg_netlist.specs.Circuit.{LogicCell}
use Rattle.cg_netlist.specs.inner.Ranking.{entry}
use Rattle.cg_netlist.specs.Ranks.{driving_cell}
use Rattle.cg_netlist.proofs.EntryLemmas.{entry-set_other, entry-set_same}

-- the first cell that drives a net, with one more cell
first_push : (test : LogicCell ℕ → Bool) (a : ℕ) (cells : List (LogicCell ℕ)) (cell : LogicCell ℕ) → position_from test a (cells ++ cell ∷ []) ≡ option_or (position_from test a cells) (cond (test cell) (Some (a + length cells)) None)
first_push test a [] cell = let e : a ≡ a + 0 = omega arith in ap (λ n. cond (test cell) (Some n) None) e
first_push test a (c ∷ cells) cell = go (test c) (first_push test (a + 1) cells cell)
  where
    go : (b : Bool) → position_from test (a + 1) (cells ++ cell ∷ []) ≡ option_or (position_from test (a + 1) cells) (cond (test cell) (Some (a + 1 + length cells)) None)
        → cond b (Some a) (position_from test (a + 1) (cells ++ cell ∷ [])) ≡ option_or (cond b (Some a) (position_from test (a + 1) cells)) (cond (test cell) (Some (a + suc (length cells))) None)
    go true rest = refl
    go false rest = let e : a + 1 + length cells ≡ a + suc (length cells) = omega arith in rest ∙ ap (λ n. option_or (position_from test (a + 1) cells) (cond (test cell) (Some n) None)) e

or_now : (o : Option ℕ) (n : ℕ) → Some (unwrap_or o n) ≡ option_or o (Some n)
or_now None n = refl
or_now (Some m) n = refl

or_none : (o : Option ℕ) → option_or o None ≡ o
or_none None = refl
or_none (Some m) = refl

pub driver_more : (drivers : List (Option ℕ)) (n : ℕ) (cells : List (LogicCell ℕ)) (i : ℕ) (cell : LogicCell ℕ) (now : Option ℕ) → length drivers ≡ n → i ≤ length cells
    → ((net : ℕ) → net < n → entry drivers net ≡ driving_cell (take i cells) net) → length (take i cells) ≡ i → cell.output < n → take (i + 1) cells ≡ take i cells ++ cell ∷ []
    → now ≡ Some (unwrap_or (entry drivers cell.output) i)
    → (length (set drivers cell.output now) ≡ n) × ((net : ℕ) → net < n → entry (set drivers cell.output now) net ≡ driving_cell (take (i + 1) cells) net)
driver_more drivers n cells i cell now fits le tells long within next is = (
  length-set drivers cell.output now ∙ fits,
  λ net lt.
      let pushed : driving_cell (take (i + 1) cells) net ≡ option_or (driving_cell (take i cells) net) (cond (cell.output == net) (Some (0 + length (take i cells))) None) =
      ap (λ ks. driving_cell ks net) next ∙ first_push (λ k. k.output == net) 0 (take i cells) cell in
      elim (eqb_tells net cell.output) [
        | inl e ↦
            let P : ℕ → Type 0 = λ x. entry (set drivers cell.output now) x ≡ driving_cell (take (i + 1) cells) x in
            let number : 0 + length (take i cells) ≡ i = omega (arith, long) in
            let here : driving_cell (take (i + 1) cells) cell.output ≡ option_or (driving_cell (take i cells) cell.output) (Some i) =
            ap (λ ks. driving_cell ks cell.output) next ∙ (first_push (λ k. k.output == cell.output) 0 (take i cells) cell
            ∙ (ap (λ b. option_or (driving_cell (take i cells) cell.output) (cond b (Some (0 + length (take i cells))) None)) (eq-eqb cell.output cell.output refl) ∙ ap (λ m. option_or (driving_cell (take i cells) cell.output) (Some m)) number)) in
            subst P (sym e.1) (entry-set_same drivers cell.output now (omega (arith, fits)) ∙ (is ∙ (or_now (entry drivers cell.output) i ∙ (ap (λ o. option_or o (Some i)) (tells cell.output within) ∙ sym here))))
        | inr e ↦
            let other : (cell.output == net) ≡ false = elim (cases_Bool (cell.output == net)) [ inl same ↦ absurd (e.1 (sym (eqb-true cell.output net same))) | inr no' ↦ no' ] in
            entry-set_other drivers cell.output net now e.1 ∙ (tells net lt ∙ sym (pushed ∙ (ap (λ b. option_or (driving_cell (take i cells) net) (cond b (Some (0 + length (take i cells))) None)) other ∙ or_none (driving_cell (take i cells) net))))
      ],
)

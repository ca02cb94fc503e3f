-- The words of a cone's nets before its cells are laid, one net after another.
use Rattle.std.proofs.Common.{◌≡◌, ◌<◌, ℕ, suc, ◌+◌, true, List, [], ◌∷◌, ◌++◌, length, slice_get, slice_set, take, Some, sym, ◌∙◌, ap}
use Rattle.std.proofs.Common.{false, nat_eq, refl, subst, arith, inl, inr}
use Rattle.std.proofs.lemmas.Bool.{both_ways, eqb-true, or_cases}
use Rattle.std.proofs.lemmas.Option.{same_Some}
use Rattle.cg_hold.specs.inner.Laying.{StartsAt}
use Rattle.cg_machine.specs.Machine.{MachineData}
use Rattle.cg_net.proofs.Members.{is_in_cases}
use Rattle.cg_net.proofs.TableLemmas.{same_or_not, slice_get-set_other, slice_get-set_same, take_end}
use Rattle.cg_net.specs.NetSets.{is_in}

-- the nets of a list have the words with which they start
abbrev pub StartOn : MachineData → List ℕ → List ℕ → List ℕ → Type 0
StartOn m state nets words = (y word : ℕ) → is_in nets y ≡ true → slice_get words y ≡ Some word → StartsAt m state y word

pub start_one : (m : MachineData) (state nets words : List ℕ) (i net w : ℕ) → slice_get nets i ≡ Some net → net < length words → StartsAt m state net w → StartOn m state (take i nets) words → StartOn m state (take (i + 1) nets) (slice_set words net w)
start_one m state nets words i net w at below starts so_far y word among there =
    let e : i + 1 ≡ suc i = omega arith in
    let split : take (i + 1) nets ≡ take i nets ++ net ∷ [] = ap (λ n. take n nets) e ∙ take_end nets i net at in
    elim (same_or_not y net) [
      | inl same ↦
          let is : w ≡ word = same_Some w word (sym (slice_get-set_same words net w below) ∙ (ap (slice_get (slice_set words net w)) (sym same) ∙ there)) in
          subst (λ z. StartsAt m state z word) (sym same) (subst (λ v. StartsAt m state net v) is starts)
      | inr other ↦
          let old : slice_get words y ≡ Some word = sym (slice_get-set_other words net y w other) ∙ there in
          elim (is_in_cases (take i nets) (net ∷ []) y (subst (λ l. is_in l y ≡ true) split among)) [
            | inl before ↦ so_far y word before old
            | inr new ↦ absurd (other (only y new))
          ]
    ]
  where
    only : (z : ℕ) → is_in (net ∷ []) z ≡ true → z ≡ net
    only z h = elim (or_cases (nat_eq z net) _ h) [
      | inl same ↦ eqb-true z net same
      | inr none ↦ absurd (both_ways false refl none)
    ]

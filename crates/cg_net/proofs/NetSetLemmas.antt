-- Lemmas on nets that are taken once, and their marks.
use Rattle.std.proofs.Common.{[], ℕ, zero, suc, arith, subst, ◌<◌, ◌≡◌, inl, inr, Bool, true, false, ◌||◌, List, ◌∷◌, ◌++◌, length}
use Rattle.std.proofs.Common.{set, get_or, unwrap_or, refl, sym, ap, ◌∙◌, if◌then◌else◌}
use Rattle.std.proofs.lemmas.Bool.{both_ways}
use Rattle.std.proofs.lemmas.List.{length-set}
use Rattle.std.proofs.lemmas.Option.{slice_get-get_or}
use Rattle.std.proofs.lemmas.Bool.Decides.{eqb_tells}
use Rattle.cg_net.specs.NetSets.{is_in, with_net}
use Rattle.cg_net.specs.Marks.{AreMarked, is_marked}
use Rattle.cg_net.proofs.Members.{in_alone, is_in-append, is_in_right}
use Rattle.cg_net.proofs.TableLemmas.{slice_get-set_other, slice_get-set_same}

pub mark_at : (marks : List Bool) (place : ℕ) (b : Bool) → place < length marks → b ≡ get_or marks place b → is_marked marks place ≡ b
mark_at marks place b within is = ap (λ o. unwrap_or o false) (slice_get-get_or marks place b within) ∙ sym is

pub with_net-new : (nets : List ℕ) (net : ℕ) → is_in nets net ≡ false → with_net nets net ≡ nets ++ net ∷ []
with_net-new nets net new = ap (λ b. if b then nets else nets ++ net ∷ []) new

or_none : (b : Bool) → (b || (false || false)) ≡ b
or_none true = refl
or_none false = refl

pub marked_more : (marks reached : List Bool) (nets : List ℕ) (net : ℕ) → AreMarked marks nets → ((n : ℕ) → is_marked reached n ≡ is_marked marks n) → net < length reached → AreMarked (set reached net true) (nets ++ net ∷ [])
marked_more marks reached nets net marked same within n = elim (eqb_tells n net) [
  | inl e ↦
      ap (is_marked (set reached net true)) e.1 ∙ (ap (λ o. unwrap_or o false) (slice_get-set_same reached net true within) ∙ sym (ap (is_in (nets ++ net ∷ [])) e.1 ∙ is_in_right nets (net ∷ []) net (in_alone net)))
  | inr e ↦
      ap (λ o. unwrap_or o false) (slice_get-set_other reached net n true e.1) ∙ (same n ∙ (marked n ∙ (sym (or_none (is_in nets n)) ∙ (ap (λ b. is_in nets n || (b || false)) (sym e.0) ∙ sym (is_in-append nets (net ∷ []) n)))))
]

-- each mark is on one of the nets that are left, and each of the nets has a place for a mark
pub record MarkedLeft (nets : List ℕ) (marks : List Bool) (left : List ℕ) : Type 0 where
  pub within : (n : ℕ) → is_in nets n ≡ true → n < length marks
  pub only : (n : ℕ) → is_marked marks n ≡ true → is_in left n ≡ true

marked_within : (marks : List Bool) (n : ℕ) → is_marked marks n ≡ true → n < length marks
marked_within [] n is = absurd (both_ways false refl is)
marked_within (b ∷ marks) zero is = omega arith
marked_within (b ∷ marks) (suc n) is = omega (arith, marked_within marks n is)

pub marked_first : (marks : List Bool) (nets : List ℕ) → AreMarked marks nets → MarkedLeft nets marks nets
marked_first marks nets marked = record { within = λ n among. marked_within marks n (marked n ∙ among); only = λ n is. sym (marked n) ∙ is }

pub marked_less : (nets : List ℕ) (marks : List Bool) (net : ℕ) (left : List ℕ) → is_in nets net ≡ true → MarkedLeft nets marks (net ∷ left) → MarkedLeft nets (set marks net false) left
marked_less nets marks net left among m = record {
  within = λ n inside. let w = m.within n inside in omega (arith, w, length-set marks net false);
  only = λ n is. elim (eqb_tells n net) [
    | inl e ↦ absurd (both_ways false refl (sym (ap (is_marked (set marks net false)) e.1 ∙ ap (λ o. unwrap_or o false) (slice_get-set_same marks net false (m.within net among))) ∙ is))
    | inr e ↦
        let before : is_marked marks n ≡ true = sym (ap (λ o. unwrap_or o false) (slice_get-set_other marks net n false e.1)) ∙ is in
        ap (λ b. b || is_in left n) (sym e.0) ∙ m.only n before
  ];
}

pub unmarked_all : (nets : List ℕ) (marks : List Bool) (left : List ℕ) → left ≡ [] → MarkedLeft nets marks left → AreMarked marks []
unmarked_all nets marks left none m n = go (is_marked marks n) refl
  where
    go : (b : Bool) → is_marked marks n ≡ b → b ≡ false
    go true is = sym (subst (λ l. is_in l n ≡ true) none (m.only n is))
    go false is = refl

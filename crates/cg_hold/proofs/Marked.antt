-- Marks at the literals of a register, one after another.
use Rattle.std.proofs.Common.{◌≡◌, ◌<◌, ◌≤◌, ℕ, ◌+◌, Bool, true, false, List, [], ◌∷◌, ◌++◌, length, length-append, slice_get, slice_set}
use Rattle.std.proofs.Common.{Some, refl, sym, ◌∙◌, ap, subst, arith, inl, inr}
use Rattle.std.proofs.lemmas.List.{length-set}
use Rattle.std.proofs.lemmas.Option.{none-some, same_Some, slice_get_within}
use Rattle.cg_claim.specs.LeafBits.{is_never}
use Rattle.cg_claim.specs.Question.{hold_question}
use Rattle.cg_hold.specs.inner.Looking.{AreMarked}
use Rattle.cg_machine.specs.Claims.{Literal}
use Rattle.cg_machine.specs.Machine.{MachineData}
use Rattle.cg_net.proofs.TableLemmas.{same_or_not, slice_get-set_other, slice_get-set_same}
use Rattle.cg_netlist.proofs.SearchSteps.{push_cases}

-- the literals up to a place
pub record MarkedTo (m : MachineData) (r : ℕ) (literals : List Literal) (marks : List Bool) (place : ℕ) : Type 0 where
  pub count : length marks ≡ place
  pub moved : (k : ℕ) (l : Literal) → slice_get literals k ≡ Some l → slice_get marks k ≡ Some true → is_never m (hold_question l r) ≡ false

module _ (m : MachineData) (r : ℕ) (literals : List Literal) where
  pub marked_none : MarkedTo m r literals [] 0
  marked_none = record { count = refl; moved = λ k l at is. absurd (none-some true is) }

  pub marked_more : (marks : List Bool) (place : ℕ) (l : Literal) (b : Bool) → slice_get literals place ≡ Some l → (b ≡ true → is_never m (hold_question l r) ≡ false) → MarkedTo m r literals marks place → MarkedTo m r literals (marks ++ b ∷ []) (place + 1)
  marked_more marks place l b at shows so_far = record {
    count = let e = length-append marks (b ∷ []) in omega (arith, e, so_far.count);
    moved = λ k j is marked. elim (push_cases marks b true k marked) [
      | inl before ↦ so_far.moved k j is before
      | inr here ↦
          let e : place ≡ k = sym so_far.count ∙ sym here.0 in
          let same : l ≡ j = same_Some l j (sym at ∙ (ap (slice_get literals) e ∙ is)) in
          subst (λ (z : Literal). is_never m (hold_question z r) ≡ false) same (shows here.1)
    ];
  }

  pub marked_all : (marks : List Bool) (place : ℕ) → length literals ≤ place → place ≤ length literals → MarkedTo m r literals marks place → AreMarked m r literals marks
  marked_all marks place past within to = record { count = omega (arith, past, within, to.count); moved = to.moved }

  -- a mark that is put
  pub marked_at : (marks more : List Bool) (place : ℕ) (l : Literal) (b : Bool) → slice_get literals place ≡ Some l → (b ≡ true → is_never m (hold_question l r) ≡ false) → more ≡ slice_set marks place b → AreMarked m r literals marks → AreMarked m r literals more
  marked_at marks more place l b at shows is are = record {
    count = ap length is ∙ (length-set marks place b ∙ are.count);
    moved = λ k j there marked.
        let within : place < length marks = (let h = slice_get_within literals place l at in omega (arith, h, are.count)) in
        let put : slice_get (slice_set marks place b) k ≡ Some true = ap (λ l. slice_get l k) (sym is) ∙ marked in
        elim (same_or_not k place) [
          | inl e ↦
              let on : b ≡ true = same_Some b true (sym (ap (slice_get (slice_set marks place b)) e ∙ slice_get-set_same marks place b within) ∙ put) in
              let same : l ≡ j = same_Some l j (sym at ∙ (ap (slice_get literals) (sym e) ∙ there)) in
              subst (λ (z : Literal). is_never m (hold_question z r) ≡ false) same (shows on)
          | inr e ↦ are.moved k j there (sym (slice_get-set_other marks place k b e) ∙ put)
        ];
  }

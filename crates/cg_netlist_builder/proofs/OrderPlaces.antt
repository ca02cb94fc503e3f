-- The places of nets in an order, as they are noted one after another.
use Rattle.std.proofs.Common.{◌≡◌, ℕ, zero, suc, ◌+◌, ◌<◌, ◌≤◌, Bool, true, false, not, ◌||◌, cond, if◌then◌else◌, nat_eq, List, []}
use Rattle.std.proofs.Common.{◌∷◌, Some, length, replicate, set, take, slice_get, unwrap_or, refl, sym, ap, ◌∙◌, subst, arith, inl}
use Rattle.std.proofs.Common.{inr}
use Rattle.std.specs.List.{All, IsDistinct, position_or_len}
use Rattle.std.proofs.lemmas.Bool.{or_parts, or_right}
use Rattle.std.proofs.lemmas.Bool.Decides.{eqb_tells}
use Rattle.std.proofs.lemmas.List.{length-set, take_all}
use Rattle.cg_net.specs.NetSets.{is_in}
use Rattle.cg_netlist_builder.specs.inner.Renumbering.{number_in}
use Rattle.cg_net.proofs.TableLemmas.{All-at, slice_get-set_other, slice_get-set_same, take_next}
use Rattle.cg_net.proofs.Members.{in_alone, is_in-append}
use Rattle.cg_netlist.proofs.NetOrder.{place_is}

-- the place of a net in the order, once it was noted, and before that the length of the order
abbrev pub place_so_far : List ℕ → ℕ → ℕ → ℕ
place_so_far order i net = if is_in (take i order) net then position_or_len (nat_eq net) order else length order

pub absent : (order : List ℕ) (net : ℕ) → is_in order net ≡ false → position_or_len (nat_eq net) order ≡ length order
absent [] net none = refl
absent (x ∷ order) net none =
    let both = or_parts (nat_eq net x) (is_in order net) none in
    ap (λ b. cond (not b) (1 + position_or_len (nat_eq net) order) 0) both.0 ∙ (ap (λ m. 1 + m) (absent order net both.1) ∙ omega arith)

pub place_at_end : (order : List ℕ) (i net : ℕ) → length order ≤ i → place_so_far order i net ≡ position_or_len (nat_eq net) order
place_at_end order i net all = ap (λ xs. if is_in xs net then position_or_len (nat_eq net) order else length order) (take_all i order all) ∙ go (is_in order net) refl
  where
    go : (b : Bool) → is_in order net ≡ b → (if b then position_or_len (nat_eq net) order else length order) ≡ position_or_len (nat_eq net) order
    go true e = refl
    go false e = sym (absent order net e)

pub place_at_start : (n m : ℕ) (net : ℕ) → net < n → number_in (replicate n m) net ≡ m
place_at_start zero m net lt = absurd (omega (arith, lt))
place_at_start (suc n) m zero lt = refl
place_at_start (suc n) m (suc net) lt = place_at_start n m net (omega (arith, lt))

pub place_more : (places : List ℕ) (n : ℕ) (order : List ℕ) (i net place : ℕ) → length places ≡ n → ((x : ℕ) → x < n → number_in places x ≡ place_so_far order i x) → All (λ x. x < n) order → IsDistinct nat_eq order → slice_get order i ≡ Some net → place ≡ i
    → (length (set places net place) ≡ n) × ((x : ℕ) → x < n → number_in (set places net place) x ≡ place_so_far order (i + 1) x)
place_more places n order i net place fits tells within once at is = (
  length-set places net place ∙ fits,
  λ x lt. elim (eqb_tells x net) [
    | inl e ↦
        let P : ℕ → Type 0 = λ y. number_in (set places net place) y ≡ place_so_far order (i + 1) y in
        let there : is_in (take (i + 1) order) net ≡ true = ap (λ xs. is_in xs net) (take_next order i net at) ∙ (is_in-append (take i order) (net ∷ []) net ∙ or_right (is_in (take i order) net) (is_in (net ∷ []) net) (in_alone net)) in
        subst P (sym e.1) (ap (λ o. unwrap_or o 0) (slice_get-set_same places net place (omega (arith, fits, All-at order n i net at within))) ∙ (is ∙ (sym (place_is order i net once at) ∙ ap (λ b. if b then position_or_len (nat_eq net) order else length order) (sym there))))
    | inr e ↦
        let same : is_in (take (i + 1) order) x ≡ is_in (take i order) x = ap (λ xs. is_in xs x) (take_next order i net at) ∙ (is_in-append (take i order) (net ∷ []) x ∙ (ap (λ b. is_in (take i order) x || (b || false)) e.0 ∙ or_none (is_in (take i order) x))) in
        ap (λ o. unwrap_or o 0) (slice_get-set_other places net x place e.1) ∙ (tells x lt ∙ ap (λ b. if b then position_or_len (nat_eq x) order else length order) (sym same))
  ],
)
  where
    or_none : (b : Bool) → (b || (false || false)) ≡ b
    or_none true = refl
    or_none false = refl

-- The registers of a group, one after another.
use Rattle.std.proofs.Common.{◌≡◌, ℕ, zero, suc, ◌+◌, Bool, true, false, not, ◌||◌, ◌&&◌, if◌then◌else◌, List, [], ◌∷◌, ◌++◌, length, nat_eq, slice_get}
use Rattle.std.proofs.Common.{take, drop, Some, None, refl, sym, ◌∙◌, ap, arith, inl, inr}
use Rattle.std.specs.Prelude.{◌≢◌}
use Rattle.std.specs.List.{flat_map}
use Rattle.std.specs.Option.{option_map_or}
use Rattle.std.proofs.lemmas.Bool.Decides.{eqb_tells}
use Rattle.std.proofs.lemmas.List.{append-nil, append_assoc, length-take-le}
use Rattle.std.proofs.lemmas.Option.{slice_get_within}
use Rattle.cg_claim.specs.Reach.{next_nets}
use Rattle.cg_machine.specs.Machine.{MachineData}
use Rattle.cg_net.specs.NetSets.{is_in}
use Rattle.cg_net.proofs.TableLemmas.{take_next}
use Rattle.cg_hold_widths.specs.inner.Counts.{ones}
use Rattle.cg_hold_widths.specs.inner.Marked.{next_nets_at, own_count, register_has}
use Rattle.cg_hold_widths.specs.inner.Masks.{AreMasks, has_bit, mask_at}
use Rattle.cg_hold_widths.proofs.Bits.{no_bit}

push_last : {X : Type 0} (xs : List X) (x : X) → slice_get (xs ++ x ∷ []) (length xs) ≡ Some x
push_last [] x = refl
push_last (y ∷ xs) x = push_last xs x

push_other : {X : Type 0} (xs : List X) (x : X) (i : ℕ) → i ≢ length xs → slice_get (xs ++ x ∷ []) i ≡ slice_get xs i
push_other [] x zero other = absurd (other refl)
push_other [] x (suc i) other = refl
push_other (y ∷ xs) x zero other = refl
push_other (y ∷ xs) x (suc i) other = push_other xs x i (λ is. other (ap suc is))

past_end : {X : Type 0} (xs : List X) → slice_get xs (length xs) ≡ None
past_end [] = refl
past_end (x ∷ xs) = past_end xs

module _ (regs : List ℕ) (place r : ℕ) (at : slice_get regs place ≡ Some r) where
  front_long : length (take place regs) ≡ place
  front_long = let within = slice_get_within regs place r at in length-take-le place regs (omega (arith, within))

  pub front_here : slice_get (take (place + 1) regs) place ≡ Some r
  front_here = ap (λ l. slice_get l place) (take_next regs place r at) ∙ (ap (slice_get (take place regs ++ r ∷ [])) (sym front_long) ∙ push_last (take place regs) r)

  pub front_other : (i : ℕ) → i ≢ place → slice_get (take (place + 1) regs) i ≡ slice_get (take place regs) i
  front_other i other = ap (λ l. slice_get l i) (take_next regs place r at) ∙ push_other (take place regs) r i (λ is. other (is ∙ front_long))

  pub front_none : slice_get (take place regs) place ≡ None
  front_none = ap (slice_get (take place regs)) (sym front_long) ∙ past_end (take place regs)

  -- what the next bits of the registers ask for, with one more
  pub asked_more : (m : MachineData) (i y : ℕ) → is_in (next_nets_at m (take (place + 1) regs) i) y ≡ (is_in (next_nets_at m (take place regs) i) y || (is_in (next_nets m r) y && nat_eq i place))
  asked_more m i y = elim (eqb_tells i place) [
    | inl e ↦
        ap (λ k. is_in (next_nets_at m (take (place + 1) regs) k) y) e.1 ∙ (ap (λ o. is_in (option_map_or (next_nets m) o []) y) front_here
        ∙ sym (ap (λ k. is_in (next_nets_at m (take place regs) k) y || (is_in (next_nets m r) y && nat_eq i place)) e.1
        ∙ (ap (λ o. is_in (option_map_or (next_nets m) o []) y || (is_in (next_nets m r) y && nat_eq i place)) front_none
        ∙ (ap (λ b. is_in (next_nets m r) y && b) e.0 ∙ and_true (is_in (next_nets m r) y)))))
    | inr e ↦
        ap (λ o. is_in (option_map_or (next_nets m) o []) y) (front_other i e.1)
        ∙ sym (ap (λ b. is_in (next_nets_at m (take place regs) i) y || (is_in (next_nets m r) y && b)) e.0 ∙ or_none (is_in (next_nets_at m (take place regs) i) y) (is_in (next_nets m r) y))
  ]
    where
      and_true : (b : Bool) → (b && true) ≡ b
      and_true true = refl
      and_true false = refl

      or_none : (a b : Bool) → (a || (b && false)) ≡ a
      or_none true b = refl
      or_none false true = refl
      or_none false false = refl

  pub masks_more : (m : MachineData) (before after : List ℕ) → AreMasks (next_nets_at m (take place regs)) before
      → ((i y : ℕ) → has_bit i (mask_at after y) ≡ (has_bit i (mask_at before y) || (is_in (next_nets m r) y && nat_eq i place))) → AreMasks (next_nets_at m (take (place + 1) regs)) after
  masks_more m before after are put i y = put i y ∙ (ap (λ b. b || (is_in (next_nets m r) y && nat_eq i place)) (are i y) ∙ sym (asked_more m i y))

  -- the registers themselves, with one more
  pub own_more : (m : MachineData) (masks : List ℕ) (i : ℕ) → own_count m masks (take (place + 1) regs) i ≡ own_count m masks (take place regs) i + ones (nat_eq i place && not (register_has m masks i r))
  own_more m masks i = elim (eqb_tells i place) [
    | inl e ↦
        ap (λ k. option_map_or (λ q. if register_has m masks i q then 0 else 1) (slice_get (take (place + 1) regs) k) 0) e.1
        ∙ (ap (λ o. option_map_or (λ q. if register_has m masks i q then 0 else 1) o 0) front_here
        ∙ sym (ap (λ k. option_map_or (λ q. if register_has m masks i q then 0 else 1) (slice_get (take place regs) k) 0 + ones (nat_eq i place && not (register_has m masks i r))) e.1
        ∙ (ap (λ o. option_map_or (λ q. if register_has m masks i q then 0 else 1) o 0 + ones (nat_eq i place && not (register_has m masks i r))) front_none
        ∙ (ap (λ b. 0 + ones (b && not (register_has m masks i r))) e.0 ∙ counts (register_has m masks i r)))))
    | inr e ↦
        ap (λ o. option_map_or (λ q. if register_has m masks i q then 0 else 1) o 0) (front_other i e.1)
        ∙ sym (ap (λ b. own_count m masks (take place regs) i + ones (b && not (register_has m masks i r))) e.0 ∙ no_more (own_count m masks (take place regs) i))
  ]
    where
      counts : (b : Bool) → 0 + ones (not b) ≡ (if b then 0 else 1)
      counts true = refl
      counts false = refl

      no_more : (n : ℕ) → n + 0 ≡ n
      no_more n = omega arith

-- at the start no register is taken
pub masks_first : (m : MachineData) (masks : List ℕ) → ((y : ℕ) → mask_at masks y ≡ 0) → AreMasks (next_nets_at m []) masks
masks_first m masks zeros i y = ap (has_bit i) (zeros y) ∙ no_bit i

pub flat_push : {X : Type 0} (f : X → List ℕ) (xs : List X) (x : X) → flat_map f (xs ++ x ∷ []) ≡ flat_map f xs ++ f x
flat_push f [] x = append-nil (f x)
flat_push f (y ∷ xs) x = ap (λ l. f y ++ l) (flat_push f xs x) ∙ sym (append_assoc (f y) (flat_map f xs) (f x))

pub drop_front : {X : Type 0} (xs ys : List X) (n : ℕ) → n ≡ length xs → drop n (xs ++ ys) ≡ ys
drop_front {X} xs ys n is = ap (λ k. drop k (xs ++ ys)) is ∙ all xs
  where
    all : (zs : List X) → drop (length zs) (zs ++ ys) ≡ ys
    all [] = refl
    all (z ∷ zs) = all zs

-- Values put at places, one after another.
use Rattle.std.proofs.Common.{◌≡◌, ℕ, zero, suc, ◌+◌, ◌<◌, ◌≤◌, Bool, true, false, List, [], ◌∷◌, ◌++◌, map, length, take, nat_eq}
use Rattle.std.proofs.Common.{slice_get, slice_set, slice_index_or, Option, Some, IsTrue, refl, sym, ◌∙◌, ap, subst, arith, inl}
use Rattle.std.proofs.Common.{inr}
use Rattle.std.specs.List.{flat_map}
use Rattle.std.proofs.lemmas.Bool.{both_ways, eqb-true, eq-eqb, or_cases}
use Rattle.std.proofs.lemmas.List.{append-nil, append_assoc, get_or-set_same, get_or-set_other}
use Rattle.std.proofs.lemmas.Option.{none-some, same_Some}
use Rattle.std.proofs.Math.ListN.{length-set}
use Rattle.std.specs.Option.{option_map_or}
use Rattle.cg_cell.specs.Domain.{AreValid, Seen}
use Rattle.cg_aig.specs.Aig.{aig_ops}
use Rattle.cg_machine.specs.Machine.{MachineData}
use Rattle.cg_netlist.specs.Circuit.{RegisterCell, shown_nets}
use Rattle.cg_net.specs.NetSets.{is_in}
use Rattle.cg_net.proofs.Members.{is_in_cases}
use Rattle.cg_unroll.specs.inner.Filling.{AgreesAt, AgreesWith, AgreesWithAll, Fills, IsValid, Puts, nets_shown, shown_of}
use Rattle.cg_unroll.proofs.Gating.{inverse_valid}
use Rattle.cg_unroll.proofs.Laying.{valid_set}
use Rattle.cg_net.proofs.TableLemmas.{take_end}

pub fills_none : (g : ℕ → ℕ) (old : List ℕ) → Fills g [] old old
fills_none g old = record { keeps = λ y is. is; fills = λ y among. absurd (both_ways false refl among) }

pub fills_set : (g : ℕ → ℕ) (old : List ℕ) (net v : ℕ) → net < length old → v ≡ g net → Fills g (net ∷ []) old (slice_set old net v)
fills_set g old net v below is = record { keeps = λ y known. go y (nat_eq y net) refl known; fills = λ y among. here y among }
  where
    at : (y : ℕ) → nat_eq y net ≡ true → slice_index_or (slice_set old net v) y 0 ≡ g y
    at y same = let e : y ≡ net = eqb-true y net same in ap (λ z. slice_index_or (slice_set old net v) z 0) e ∙ (get_or-set_same old net v 0 below ∙ (is ∙ ap g (sym e)))

    go : (y : ℕ) (b : Bool) → nat_eq y net ≡ b → slice_index_or old y 0 ≡ g y → slice_index_or (slice_set old net v) y 0 ≡ g y
    go y true same known = at y same
    go y false other known = get_or-set_other old net y v 0 (λ e. both_ways (nat_eq y net) other (eq-eqb y net e)) ∙ known

    here : (y : ℕ) → is_in (net ∷ []) y ≡ true → slice_index_or (slice_set old net v) y 0 ≡ g y
    here y among = elim (or_cases (nat_eq y net) false among) [ inl same ↦ at y same | inr none ↦ absurd (both_ways false refl none) ]

pub fills_then : (g : ℕ → ℕ) (xs ys : List ℕ) (a b c : List ℕ) → Fills g xs a b → Fills g ys b c → Fills g (xs ++ ys) a c
fills_then g xs ys a b c one two = record {
  keeps = λ y is. two.keeps y (one.keeps y is);
  fills = λ y among. elim (is_in_cases xs ys y among) [ inl early ↦ two.keeps y (one.fills y early) | inr late ↦ two.fills y late ];
}

-- one more of the outputs
abbrev pub firsts : List (ℕ × Bool) → List ℕ
firsts outputs = map (λ output. output.0) outputs

take_map : (outputs : List (ℕ × Bool)) (i : ℕ) → firsts (take i outputs) ≡ take i (firsts outputs)
take_map outputs zero = refl
take_map [] (suc i) = refl
take_map (o ∷ outputs) (suc i) = ap (λ l. o.0 ∷ l) (take_map outputs i)

pub first_at : (outputs : List (ℕ × Bool)) (i : ℕ) (o : ℕ × Bool) → slice_get outputs i ≡ Some o → slice_get (firsts outputs) i ≡ Some o.0
first_at [] i o at = absurd (none-some o at)
first_at (p ∷ outputs) zero o at = ap (λ (z : ℕ × Bool). Some z.0) (same_Some p o at)
first_at (p ∷ outputs) (suc i) o at = first_at outputs i o at

-- literals put at nets, one after another
pub puts_none : (agrees : (ℕ → ℕ) → Type 0) (comes : Seen → Type 0) (old : List ℕ) → Puts agrees comes [] old old
puts_none agrees comes old = record { fills = λ g agree. fills_none g old; valid = λ s from h. h; long = refl }

pub puts_one : (agrees : (ℕ → ℕ) → Type 0) (comes : Seen → Type 0) (old : List ℕ) (net v : ℕ) → net < length old → ((g : ℕ → ℕ) → agrees g → v ≡ g net) → ((s : Seen) → comes s → IsTrue (aig_ops.is_valid s v))
    → Puts agrees comes (net ∷ []) old (slice_set old net v)
puts_one agrees comes old net v below is good = record {
  fills = λ g agree. fills_set g old net v below (is g agree);
  valid = λ s from h. valid_set s old net v h (good s from);
  long = length-set old net v;
}

pub puts_then : (A B : (ℕ → ℕ) → Type 0) (P Q : Seen → Type 0) (xs ys : List ℕ) (a b c : List ℕ) → ((g : ℕ → ℕ) → A g → B g) → ((s : Seen) → P s → Q s) → Puts A P xs a b → Puts B Q ys b c → Puts A P (xs ++ ys) a c
puts_then A B P Q xs ys a b c weaker from one two = record {
  fills = λ g agree. fills_then g xs ys a b c (one.fills g agree) (two.fills g (weaker g agree));
  valid = λ s p h. two.valid s (from s p) (one.valid s p h);
  long = two.long ∙ one.long;
}

-- one more output
pub outputs_more : (outputs : List (ℕ × Bool)) (state k net : ℕ) (inverted : Bool) (a b : List ℕ) → slice_get outputs k ≡ Some (net, inverted) → net < length b
    → Puts (AgreesAt outputs state) (IsValid state) (take k (firsts outputs)) a b → Puts (AgreesAt outputs state) (IsValid state) (take (k + 1) (firsts outputs)) a (slice_set b net (shown_of state inverted))
outputs_more outputs state k net inverted a b at below so_far =
    let e : k + 1 ≡ suc k = omega arith in
    subst (λ l. Puts (AgreesAt outputs state) (IsValid state) l a (slice_set b net (shown_of state inverted))) (sym (ap (λ n. take n (firsts outputs)) e ∙ take_end (firsts outputs) k net (first_at outputs k (net, inverted) at)))
    (puts_then (AgreesAt outputs state) (AgreesAt outputs state) (IsValid state) (IsValid state) (take k (firsts outputs)) (net ∷ []) a b (slice_set b net (shown_of state inverted)) (λ g agree. agree) (λ s valid. valid) so_far
    (puts_one (AgreesAt outputs state) (IsValid state) b net (shown_of state inverted) below (λ g agree. agree k net inverted at) (λ s valid. shown_valid s inverted valid)))
  where
    shown_valid : (s : Seen) (i : Bool) → IsTrue (aig_ops.is_valid s state) → IsTrue (aig_ops.is_valid s (shown_of state i))
    shown_valid s true valid = inverse_valid s state valid
    shown_valid s false valid = valid

-- a register whose outputs are known
pub puts_at_register : (m : MachineData) (r : ℕ) (cell : RegisterCell ℕ ℕ) (v : ℕ) (a b : List ℕ) → slice_get m.circuit.registers r ≡ Some cell → Puts (AgreesAt cell.outputs v) (IsValid v) (shown_nets cell) a b
    → Puts (AgreesWith m r v) (IsValid v) (nets_shown m r) a b
puts_at_register m r cell v a b at one =
    subst (λ l. Puts (AgreesWith m r v) (IsValid v) l a b) (sym (ap (λ (o : Option (RegisterCell ℕ ℕ)). option_map_or shown_nets o []) at)) (record {
      fills = λ g agree. one.fills g (agree cell at);
      valid = one.valid;
      long = one.long;
    })

-- one more register
pub registers_more : (m : MachineData) (registers states : List ℕ) (k r v : ℕ) (a b c : List ℕ) → slice_get registers k ≡ Some r → v ≡ slice_index_or states r 0 → ((s : Seen) → AreValid aig_ops s states → IsTrue (aig_ops.is_valid s v))
    → Puts (AgreesWithAll m (λ n. slice_index_or states n 0)) (λ s. AreValid aig_ops s states) (flat_map (nets_shown m) (take k registers)) a b → Puts (AgreesWith m r v) (IsValid v) (nets_shown m r) b c
    → Puts (AgreesWithAll m (λ n. slice_index_or states n 0)) (λ s. AreValid aig_ops s states) (flat_map (nets_shown m) (take (k + 1) registers)) a c
registers_more m registers states k r v a b c at is good so_far one =
    subst (λ l. Puts (AgreesWithAll m (λ n. slice_index_or states n 0)) (λ s. AreValid aig_ops s states) l a c) (sym split)
    (puts_then (AgreesWithAll m (λ n. slice_index_or states n 0)) (AgreesWith m r v) (λ s. AreValid aig_ops s states) (IsValid v) (flat_map (nets_shown m) (take k registers)) (nets_shown m r) a b c
    (λ g agree. subst (λ w. AgreesWith m r w g) (sym is) (agree r)) good so_far one)
  where
    flat_append : (xs : List ℕ) → flat_map (nets_shown m) (xs ++ r ∷ []) ≡ flat_map (nets_shown m) xs ++ nets_shown m r
    flat_append [] = append-nil (nets_shown m r)
    flat_append (x ∷ xs) = ap (λ l. nets_shown m x ++ l) (flat_append xs) ∙ sym (append_assoc (nets_shown m x) (flat_map (nets_shown m) xs) (nets_shown m r))

    split : flat_map (nets_shown m) (take (k + 1) registers) ≡ flat_map (nets_shown m) (take k registers) ++ nets_shown m r
    split = let e : k + 1 ≡ suc k = omega arith in ap (λ n. flat_map (nets_shown m) (take n registers)) e ∙ (ap (flat_map (nets_shown m)) (take_end registers k r at) ∙ flat_append (take k registers))

pub take_firsts : (outputs : List (ℕ × Bool)) (n : ℕ) → length outputs ≤ n → take n (firsts outputs) ≡ firsts outputs
take_firsts [] zero past = refl
take_firsts [] (suc n) past = refl
take_firsts (o ∷ outputs) zero past = absurd (omega arith)
take_firsts (o ∷ outputs) (suc n) past = ap (λ l. o.0 ∷ l) (take_firsts outputs n (omega arith))

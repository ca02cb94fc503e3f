-- Gates that are found by their keys are found by what they compute.
use Rattle.std.proofs.Common.{◌≡◌, ℕ, Bool, true, false, ◌&&◌, nat_eq, cond, List, [], ◌∷◌, ◌++◌, map, length, slice_index}
use Rattle.std.proofs.Common.{bytes_eq, None, Some, refl, ap, ◌∙◌, arith}
use Rattle.std.specs.List.{find}
use Rattle.std.specs.Map.{lookup}
use Rattle.std.specs.Option.{option_map}
use Rattle.cg_cell.specs.declared.fit.FitKind.{FitKind}
use Rattle.cg_cell.specs.declared.fit.FitKind.TheVariants.{Inv, And2, Or2}
use Rattle.cg_machine.specs.contracts.gates.GateKeyPartialEq.TheImpl as key_eq
use Rattle.cg_machine.specs.declared.gates.GateKey.{GateKey}
use Rattle.cg_machine.specs.Added.{is_gate}
use Rattle.cg_machine.specs.Gates.{AddedGate, HasInputs, is_same_kind}
use Rattle.cg_machine.specs.inner.Kept.{AreFiled, IsFiled, key_of}

abbrev pub same : GateKey → GateKey → Bool
same = (key_eq.ghosts).eq

and_true : (b : Bool) → b ≡ (b && true)
and_true true = refl
and_true false = refl

one_input : (a b : List ℕ) → length a ≡ 1 → length b ≡ 1 → nat_eq (slice_index a 0) (slice_index b 0) ≡ bytes_eq a b
one_input [] b h k = absurd (omega (arith, h))
one_input (x ∷ y ∷ a) b h k = absurd (omega (arith, h))
one_input (x ∷ []) [] h k = absurd (omega (arith, k))
one_input (x ∷ []) (z ∷ w ∷ b) h k = absurd (omega (arith, k))
one_input (x ∷ []) (z ∷ []) h k = and_true (nat_eq x z)

two_inputs : (a b : List ℕ) → length a ≡ 2 → length b ≡ 2 → (nat_eq (slice_index a 0) (slice_index b 0) && nat_eq (slice_index a 1) (slice_index b 1)) ≡ bytes_eq a b
two_inputs [] b h k = absurd (omega (arith, h))
two_inputs (x ∷ []) b h k = absurd (omega (arith, h))
two_inputs (x ∷ y ∷ z ∷ a) b h k = absurd (omega (arith, h))
two_inputs (x ∷ y ∷ []) [] h k = absurd (omega (arith, k))
two_inputs (x ∷ y ∷ []) (u ∷ []) h k = absurd (omega (arith, k))
two_inputs (x ∷ y ∷ []) (u ∷ v ∷ w ∷ b) h k = absurd (omega (arith, k))
two_inputs (x ∷ y ∷ []) (u ∷ v ∷ []) h k = ap (λ b. nat_eq x u && b) (and_true (nat_eq y v))

-- the keys of two gates are the same where the gates are
same_inverter : (kind : FitKind) (xs ys : List ℕ) → HasInputs Inv (length xs) → HasInputs kind (length ys) → same (key_of Inv xs) (key_of kind ys) ≡ (is_same_kind Inv kind && bytes_eq xs ys)
same_inverter Inv xs ys h k = one_input xs ys h k
same_inverter And2 xs ys h k = refl
same_inverter Or2 xs ys h k = refl
same_inverter _ xs ys h k = absurd k

same_and : (kind : FitKind) (xs ys : List ℕ) → HasInputs And2 (length xs) → HasInputs kind (length ys) → same (key_of And2 xs) (key_of kind ys) ≡ (is_same_kind And2 kind && bytes_eq xs ys)
same_and Inv xs ys h k = refl
same_and And2 xs ys h k = two_inputs xs ys h k
same_and Or2 xs ys h k = refl
same_and _ xs ys h k = absurd k

same_or : (kind : FitKind) (xs ys : List ℕ) → HasInputs Or2 (length xs) → HasInputs kind (length ys) → same (key_of Or2 xs) (key_of kind ys) ≡ (is_same_kind Or2 kind && bytes_eq xs ys)
same_or Inv xs ys h k = refl
same_or And2 xs ys h k = refl
same_or Or2 xs ys h k = two_inputs xs ys h k
same_or _ xs ys h k = absurd k

pub same_gate : (a b : FitKind) (xs ys : List ℕ) → HasInputs a (length xs) → HasInputs b (length ys) → same (key_of a xs) (key_of b ys) ≡ (is_same_kind a b && bytes_eq xs ys)
same_gate Inv b xs ys h k = same_inverter b xs ys h k
same_gate And2 b xs ys h k = same_and b xs ys h k
same_gate Or2 b xs ys h k = same_or b xs ys h k
same_gate _ b xs ys h k = absurd h

-- the gate under a key is the first with that kind and these inputs
pub found_by_key : (kind : FitKind) (inputs : List ℕ) → HasInputs kind (length inputs) → (entries : List (GateKey × AddedGate)) → AreFiled entries → lookup (same (key_of kind inputs)) entries ≡ find (is_gate kind inputs) (map (λ e. e.1) entries)
found_by_key kind inputs has [] filed = refl
found_by_key kind inputs has (e ∷ entries) filed =
    let gate : AddedGate = e.1 in
    let test : same (key_of kind inputs) e.0 ≡ is_gate kind inputs gate = ap (same (key_of kind inputs)) filed.0.1 ∙ same_gate kind gate.kind inputs gate.inputs has filed.0.0 in
    ap (λ b. cond b (Some gate) (lookup (same (key_of kind inputs)) entries)) test
    ∙ ap (λ o. cond (is_gate kind inputs gate) (Some gate) o) (found_by_key kind inputs has entries filed.1)

-- one more entry
pub filed_push : (entries : List (GateKey × AddedGate)) (e : GateKey × AddedGate) → AreFiled entries → IsFiled e → AreFiled (entries ++ e ∷ [])
filed_push [] e filed is = (is, tt)
filed_push (x ∷ entries) e filed is = (filed.0, filed_push entries e filed.1 is)

-- what stands under the first key that passes
pub found_value : {K V : Type 0} (test : K → Bool) (entries : List (K × V)) → lookup test entries ≡ option_map (λ (e : K × V). e.1) (find (λ (e : K × V). test e.0) entries)
found_value {K = K} {V = V} test [] = refl
found_value {K = K} {V = V} test (e ∷ entries) = go (test e.0) (found_value test entries)
  where
    go : (b : Bool) → lookup test entries ≡ option_map (λ (x : K × V). x.1) (find (λ (x : K × V). test x.0) entries)
        → cond b (Some e.1) (lookup test entries) ≡ option_map (λ (x : K × V). x.1) (cond b (Some e) (find (λ (x : K × V). test x.0) entries))
    go true rest = refl
    go false rest = rest

pub none_found : {K V : Type 0} (test : K → Bool) (entries : List (K × V)) → find (λ (e : K × V). test e.0) entries ≡ None → lookup test entries ≡ None
none_found test entries none = found_value test entries ∙ ap (option_map (λ e. e.1)) none

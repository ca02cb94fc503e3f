-- A gate or a delay register that is found again is the one that is asked for.
use Rattle.std.proofs.Common.{◌≡◌, ℕ, zero, suc, ◌+◌, ◌≤◌, Bool, true, false, cond, List, [], ◌∷◌, ◌++◌, map, length, slice_get}
use Rattle.std.proofs.Common.{take, bytes_eq, Option, None, Some, refl, sym, ◌∙◌, ap, arith}
use Rattle.std.specs.List.{find}
use Rattle.std.specs.Option.{option_and_then, option_map}
use Rattle.std.proofs.lemmas.Bool.{and_parts, both_ways}
use Rattle.std.proofs.lemmas.List.{length-take-le}
use Rattle.std.proofs.lemmas.Option.{same_Some, slice_get-map}
use Rattle.std.proofs.lemmas.Slice.Eq.{bytes_eq-Decides}
use Rattle.cg_cell.specs.declared.fit.FitKind.{FitKind}
use Rattle.cg_cell.specs.declared.fit.FitKind.TheVariants.{Inv, And2, Or2}
use Rattle.cg_netlist.specs.Circuit.{RegisterCell}
use Rattle.cg_machine.specs.Added.{delays_of, find_delay, find_gate, first_output, is_gate}
use Rattle.cg_machine.specs.Gates.{AddedGate, gate_cell, is_same_kind}
use Rattle.cg_machine.specs.Machine.{IsMachine, MachineData}
use Rattle.cg_machine.proofs.Lists.{get_drop}

same_kind : (a b : FitKind) → is_same_kind a b ≡ true → a ≡ b
same_kind Inv Inv h = refl
same_kind And2 And2 h = refl
same_kind Or2 Or2 h = refl
same_kind _ _ h = absurd (both_ways false refl h)

-- an item that passes the test, at its place
pub record At {X : Type 0} (test : X → Bool) (xs : List X) (x : X) : Type 0 where
  pub place : ℕ
  pub at : slice_get xs place ≡ Some x
  pub passes : test x ≡ true

pub find_at : {X : Type 0} (test : X → Bool) (xs : List X) (x : X) → find test xs ≡ Some x → At test xs x
find_at test [] x is = absurd (cc)
find_at test (y ∷ xs) x is = go (find_at test xs x) (test y) refl is
  where
    go : (find test xs ≡ Some x → At test xs x) → (b : Bool) → test y ≡ b → cond b (Some y) (find test xs) ≡ Some x → At test (y ∷ xs) x
    go rest true passes h = let same = same_Some y x h in record { place = 0; at = ap Some same; passes = ap test (sym same) ∙ passes }
    go rest false fails h = let f = rest h in record { place = suc f.place; at = f.at; passes = f.passes }

-- behind a front of this length stand the items of the rest
behind : {X : Type 0} (xs ys : List X) (n k : ℕ) → length xs ≡ n → slice_get (xs ++ ys) (n + k) ≡ slice_get ys k
behind [] ys zero k is = let e : 0 + k ≡ k = omega arith in ap (slice_get ys) e
behind [] ys (suc n) k is = absurd (omega (arith, is))
behind (x ∷ xs) ys zero k is = absurd (omega (arith, is))
behind (x ∷ xs) ys (suc n) k is = let e : suc n + k ≡ suc (n + k) = omega arith in ap (slice_get (x ∷ (xs ++ ys))) e ∙ behind xs ys n k (omega (arith, is))

pub record FoundGate (m : MachineData) (kind : FitKind) (inputs : List ℕ) (net : ℕ) : Type 0 where
  pub gate : AddedGate
  pub place : ℕ
  pub at : slice_get m.circuit.cells place ≡ Some (gate_cell gate)
  pub takes : gate.inputs ≡ inputs
  pub is_kind : gate.kind ≡ kind
  pub gives : gate.output ≡ net

pub found_gate : (m : MachineData) → IsMachine m → (kind : FitKind) (inputs : List ℕ) (net : ℕ) → find_gate m kind inputs ≡ Some net → FoundGate m kind inputs net
found_gate m good kind inputs net is = go (find (is_gate kind inputs) m.gates) refl is
  where
    go : (o : Option AddedGate) → find (is_gate kind inputs) m.gates ≡ o → option_map (λ (gate : AddedGate). gate.output) o ≡ Some net → FoundGate m kind inputs net
    go None none h = absurd (cc)
    go (Some gate) some h =
        let f = find_at (is_gate kind inputs) m.gates gate some in
        let p = and_parts (is_same_kind kind gate.kind) (bytes_eq inputs gate.inputs) f.passes in
        record {
          gate = gate;
          place = m.own_cells + f.place;
          at = ap (λ cells. slice_get cells (m.own_cells + f.place)) good.gates
              ∙ (behind (take m.own_cells m.circuit.cells) (map gate_cell m.gates) m.own_cells f.place (length-take-le m.own_cells m.circuit.cells (omega (arith, good.own_cells)))
              ∙ (slice_get-map gate_cell m.gates f.place ∙ ap (option_map gate_cell) f.at));
          takes = sym ((bytes_eq-Decides inputs gate.inputs).0 p.1);
          is_kind = sym (same_kind kind gate.kind p.0);
          gives = same_Some gate.output net h;
        }

pub record FoundDelay (m : MachineData) (net output : ℕ) : Type 0 where
  pub place : ℕ
  pub added : m.own_registers ≤ place
  pub cell : RegisterCell ℕ ℕ
  pub at : slice_get m.circuit.registers place ≡ Some cell
  pub takes : cell.inputs ≡ net ∷ []
  pub gives : first_output cell.outputs ≡ Some output

pub found_delay : (m : MachineData) (net output : ℕ) → find_delay m net ≡ Some output → FoundDelay m net output
found_delay m net output is = go (find (λ r. bytes_eq (net ∷ []) r.inputs) (delays_of m)) refl is
  where
    go : (o : Option (RegisterCell ℕ ℕ)) → find (λ (r : RegisterCell ℕ ℕ). bytes_eq (net ∷ []) r.inputs) (delays_of m) ≡ o → option_and_then (λ (r : RegisterCell ℕ ℕ). first_output r.outputs) o ≡ Some output → FoundDelay m net output
    go None none h = absurd (cc)
    go (Some cell) some h =
        let f = find_at (λ (r : RegisterCell ℕ ℕ). bytes_eq (net ∷ []) r.inputs) (delays_of m) cell some in
        record {
          place = m.own_registers + f.place;
          added = omega arith;
          cell = cell;
          at = sym (get_drop m.own_registers m.circuit.registers f.place) ∙ f.at;
          takes = sym ((bytes_eq-Decides (net ∷ []) cell.inputs).0 f.passes);
          gives = h;
        }

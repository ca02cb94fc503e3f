-- Keeping a bit some cycles later, whatever the inputs are, is keeping it along each course of inputs.
use Rattle.std.proofs.Common.{◌≡◌, ℕ, zero, suc, Bool, List, refl, sym, ap, subst}
use Rattle.cg_netlist.specs.Moment.{bit}
use Rattle.cg_machine.specs.Machine.{IsInputs, IsState, MachineData, next, step, values}
use Rattle.cg_machine.proofs.Bits.{length-each}
use Rattle.cg_hint_laws.specs.Hints.{KeepsAfter}
use Rattle.cg_hint_laws.specs.Violates.{state_at}

-- a register keeps its bit in a cycle
abbrev pub Kept : MachineData → ℕ → List Bool → List Bool → Type 0
Kept m r s x = next m (values m s x) s r ≡ bit s r

-- inputs, and others behind them
abbrev pub first_then : List Bool → (ℕ → List Bool) → ℕ → List Bool
first_then x xs zero = x
first_then x xs (suc i) = xs i

abbrev pub AreInputs : MachineData → (ℕ → List Bool) → Type 0
AreInputs m xs = (i : ℕ) → IsInputs m (xs i)

pub first_inputs : (m : MachineData) (x : List Bool) (xs : ℕ → List Bool) → IsInputs m x → AreInputs m xs → AreInputs m (first_then x xs)
first_inputs m x xs ins more zero = ins
first_inputs m x xs ins more (suc i) = more i

-- the states from the second cycle on
state_shift : (m : MachineData) (s : List Bool) (xs : ℕ → List Bool) (i : ℕ) → state_at m (step m s (xs 0)) (λ j. xs (suc j)) i ≡ state_at m s xs (suc i)
state_shift m s xs zero = refl
state_shift m s xs (suc i) = ap (λ u. step m u (xs (suc i))) (state_shift m s xs i)

pub state_long : (m : MachineData) (s : List Bool) (xs : ℕ → List Bool) (i : ℕ) → IsState m s → IsState m (state_at m s xs i)
state_long m s xs zero long = long
state_long m s xs (suc i) long = length-each m (next m (values m (state_at m s xs i) (xs i)) (state_at m s xs i))

pub keeps_along : (m : MachineData) (k r : ℕ) (s : List Bool) (xs : ℕ → List Bool) → AreInputs m xs → KeepsAfter m k r s (xs 0) → Kept m r (state_at m s xs k) (xs k)
keeps_along m zero r s xs ins keeps = keeps
keeps_along m (suc k) r s xs ins keeps =
    subst (λ u. Kept m r u (xs (suc k))) (state_shift m s xs k) (keeps_along m k r (step m s (xs 0)) (λ j. xs (suc j)) (λ j. ins (suc j)) (keeps (xs 1) (ins 1)))

pub along_keeps : (m : MachineData) (k r : ℕ) (s x : List Bool) → IsInputs m x
    → ((xs : ℕ → List Bool) → AreInputs m xs → Kept m r (state_at m s (first_then x xs) k) (first_then x xs k)) → KeepsAfter m k r s x
along_keeps m zero r s x ins kept = kept (λ i. x) (λ i. ins)
along_keeps m (suc k) r s x ins kept = λ y iny.
    along_keeps m k r (step m s x) y iny (λ xs more.
    subst (λ u. Kept m r u (first_then y xs k)) (sym (state_shift m s (first_then x (first_then y xs)) k)) (kept (first_then y xs) (first_inputs m y xs iny more)))

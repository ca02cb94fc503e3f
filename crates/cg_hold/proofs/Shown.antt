-- What cycles show of claims.
use Rattle.std.proofs.Common.{◌≡◌, ◌<◌, ◌&&◌, ◌||◌, ℕ, Bool, true, false, not, List, [], ◌∷◌, length, refl, sym, ◌∙◌, ap}
use Rattle.std.proofs.lemmas.Bool.{both_ways, false_from_ne_true}
use Rattle.cg_cell.specs.Gates.{exclusive_or}
use Rattle.cg_claim.proofs.Tried.{is_never_says}
use Rattle.cg_claim.specs.LeafBits.{is_never}
use Rattle.cg_claim.specs.Question.{Question, hold_question, idle_question}
use Rattle.cg_claim.specs.Violates.{Free, IsFree, SidesFit, violates}
use Rattle.cg_machine.specs.Claims.{Literal, any_at, literal_bit}
use Rattle.cg_machine.specs.Machine.{IsInputs, IsMachine, IsState, MachineData, next, values}
use Rattle.cg_netlist.specs.Moment.{bit}

-- free bits that violate a claim
violated : (m : MachineData) (q : Question) → IsMachine m → SidesFit m q.sides → (w : Free) → IsFree m w → violates m q w ≡ true → is_never m q ≡ false
violated m q good fits w free is = false_from_ne_true (is_never m q) (λ never. both_ways (violates m q w) ((is_never_says m q good fits).0 never w free) is)

-- one literal joined is that literal
one_joined : (nets : List Bool) (l : Literal) → any_at nets (l ∷ []) ≡ literal_bit (bit nets) l
one_joined nets l = or_none (literal_bit (bit nets) l)
  where
    or_none : (b : Bool) → (b || false) ≡ b
    or_none true = refl
    or_none false = refl

-- one cycle
module _ (m : MachineData) (good : IsMachine m) (state inputs nets : List Bool) (is_state : IsState m state) (is_inputs : IsInputs m inputs) (are : nets ≡ values m state inputs) (l : Literal) where
  -- the free bits of the cycle
  abbrev free : Free
  free = record { s0 = state; x0 = inputs; free = []; x1 = inputs; other = [] }

  abbrev is_free : IsFree m free
  is_free = record { s0 = is_state; x0 = is_inputs; x1 = is_inputs }

  zero_there : not (literal_bit (bit nets) l) ≡ true → not (any_at (values m state inputs) (l ∷ [])) ≡ true
  zero_there h = ap not (one_joined (values m state inputs) l) ∙ (ap (λ ns. not (literal_bit (bit ns) l)) (sym are) ∙ h)

  pub move_shown : (r : ℕ) → r < length m.circuit.registers → not (literal_bit (bit nets) l) ≡ true → exclusive_or (next m nets state r) (bit state r) ≡ true → is_never m (hold_question l r) ≡ false
  move_shown r there idle other = violated m (hold_question l r) good (there, there) free is_free
      (ap (λ b. b && exclusive_or (next m (values m state inputs) state r) (bit state r)) (zero_there idle)
      ∙ (ap (λ ns. exclusive_or (next m ns state r) (bit state r)) (sym are) ∙ other))

  pub idle_shown : not (literal_bit (bit nets) l) ≡ true → is_never m (idle_question (l ∷ [])) ≡ false
  idle_shown idle = violated m (idle_question (l ∷ [])) good tt free is_free (ap (λ b. b && true) (zero_there idle))

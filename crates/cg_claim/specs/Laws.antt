-- What is proved of claims.
use Rattle.std.specs.Prelude.{◌≡◌, ◌↔◌, ◌<◌, ◌≤◌, ℕ, Bool, true, false, not, List, [], ◌∷◌, length, map, slice_get, Some}
use Rattle.cg_cell.specs.Build.{Run, build_and, build_not, build_or, plain}
use Rattle.cg_cell.specs.Domain.{Seen}
use Rattle.cg_cell.specs.declared.fit.FitKind.{FitKind}
use Rattle.cg_cell.specs.declared.fit.FitKind.TheVariants.{Inv, And2, Or2}
use Rattle.cg_aig.specs.Aig.{aig_ops}
use Rattle.cg_net.specs.NetSets.{is_in}
use Rattle.cg_machine.specs.Claims.{CanIdle, Hold, Literal, Stable, Target, Unseen, any_at}
use Rattle.cg_machine.specs.Gates.{AddedGate, HasInputs, gate_cell}
use Rattle.cg_machine.specs.Machine.{IsMachine, MachineData, values, walk_of}
use Rattle.cg_claim.specs.Build.{Table, aig_values, cell_run, claim_run, nodes_of}
use Rattle.cg_netlist_cone.specs.Cone.{IsInCone, cone_of}
use Rattle.cg_claim.specs.declared.name.ClaimName.{ClaimName}
use Rattle.cg_claim.specs.LeafBits.{free_of, is_never, violates_at}
use Rattle.cg_claim.specs.Leaves.{leaves_of, width_of}
use Rattle.cg_claim.specs.Question.{Question, held_question, hold_question, idle_question, stable_question, target_part}
use Rattle.cg_claim.specs.Question.{unseen_question}
use Rattle.cg_claim.specs.Reach.{inputs_of_register}
use Rattle.cg_claim.specs.Targets.{IsTarget, meets, unseen_targets}
use Rattle.cg_claim.specs.Violates.{CopyPartFits, SidesFit}

-- the operation of a gate of this kind on the values of its inputs
abbrev pub gate_run : FitKind → List ℕ → Seen → Run
gate_run Inv (a ∷ []) s = build_not aig_ops a s
gate_run And2 (a ∷ b ∷ []) s = build_and aig_ops a b s
gate_run Or2 (a ∷ b ∷ []) s = build_or aig_ops a b s
gate_run _ _ s = plain 0 s

-- two runs end with the same answer in the same list
pub record EndAlike (r q : Run) : Type 0 where
  pub answer : r.answer ≡ q.answer
  pub domain : r.domain ≡ q.domain

-- the goal's bit at bits of the leaves
abbrev pub goal_bit : MachineData → Question → List Bool → Bool
goal_bit m q bits = aig_ops.bit (claim_run m q).domain bits (claim_run m q).answer

-- the goal is 0 at all bits of the leaves
abbrev pub IsNeverOne : MachineData → Question → Type 0
IsNeverOne m q = (bits : List Bool) → length bits ≡ width_of m q → goal_bit m q bits ≡ false

-- the goal is 1 at some bits of the leaves
pub record IsSometimesOne (m : MachineData) (q : Question) : Type 0 where
  pub bits : List Bool
  pub long : length bits ≡ width_of m q
  pub one : goal_bit m q bits ≡ true

-- at bits of its leaves a goal is 1 exactly where these bits violate the claim
abbrev pub GoalViolates : Type 0
GoalViolates = (m : MachineData) (q : Question) (bits : List Bool) → IsMachine m → SidesFit m q.sides →
    goal_bit m q bits ≡ violates_at m q bits

-- the goal of Idle is 1 exactly where the joined enable is 0
abbrev pub IdleGoal : Type 0
IdleGoal = (m : MachineData) (E : List Literal) (bits : List Bool) → IsMachine m
    → let w = free_of m (leaves_of m (idle_question E)) bits in goal_bit m (idle_question E) bits
    ≡ not (any_at (values m w.s0 w.x0) E)

-- a goal is never 1 exactly where trying all bits finds none that violate the claim
abbrev pub NeverIsTried : Type 0
NeverIsTried = (m : MachineData) (q : Question) → IsMachine m → SidesFit m q.sides → (is_never m q ≡ true) ↔ IsNeverOne m q

-- the goal of Hold, of Stable, of Unseen is never 1 exactly where that holds over all states and inputs
abbrev pub HoldIsSaid : Type 0
HoldIsSaid = (m : MachineData) (e : Literal) (r : ℕ) → IsMachine m → r < length m.circuit.registers →
    IsNeverOne m (hold_question e r) ↔ Hold m e r

abbrev pub StableIsSaid : Type 0
StableIsSaid = (m : MachineData) (E : List Literal) (r : ℕ) → IsMachine m → r < length m.circuit.registers →
    IsNeverOne m (stable_question E r) ↔ Stable m E r

abbrev pub UnseenIsSaid : Type 0
UnseenIsSaid = (m : MachineData) (E : List Literal) (Q G : List ℕ) (t : Target) → IsMachine m → CopyPartFits m (target_part t) →
    IsNeverOne m (unseen_question E Q G t) ↔ Unseen m E Q G t

-- the goal of Idle is sometimes 1 exactly where the joined enable can be 0
abbrev pub IdleIsSaid : Type 0
IdleIsSaid = (m : MachineData) (E : List Literal) → IsMachine m → IsSometimesOne m (idle_question E) ↔ CanIdle m E

-- the cone by the walk is the cone by the relation
abbrev pub ConeIsReached : Type 0
ConeIsReached = (m : MachineData) (roots : List ℕ) (y : ℕ) → IsMachine m →
    (is_in (cone_of (walk_of m) roots) y ≡ true) ↔ IsInCone m.circuit.cells roots y

-- the Hold claims of a register have the same leaves, whatever the literal of the cone of its inputs
abbrev pub HoldLeavesAreSame : Type 0
HoldLeavesAreSame = (m : MachineData) (e : Literal) (r : ℕ) → IsMachine m →
    is_in (cone_of (walk_of m) (inputs_of_register m r)) e.0 ≡ true
    → leaves_of m (hold_question e r) ≡ leaves_of m (held_question r)

-- a target without a register of G in its cone needs no claim: it does not show them
abbrev pub ApartIsUnseen : Type 0
ApartIsUnseen = (m : MachineData) (E : List Literal) (Q G : List ℕ) (t : Target) → IsMachine m → CopyPartFits m (target_part t) →
    meets m E G t ≡ false → Unseen m E Q G t

-- where no goal of the targets that have a register of G in their cone is ever 1, no target shows these registers
abbrev pub TargetsSuffice : Type 0
TargetsSuffice = (m : MachineData) (E : List Literal) (Q G : List ℕ) → IsMachine m
    → ((k : ℕ) (name : ClaimName) (t : Target) → slice_get (unseen_targets m E G) k ≡ Some (name, t) →
    IsNeverOne m (unseen_question E Q G t))
    → (t : Target) → IsTarget m t → Unseen m E Q G t

-- an added gate gives what `not`, `and` or `or` of its inputs gives, by its kind
abbrev pub GatesAreOperations : Type 0
GatesAreOperations = (gate : AddedGate) (t : Table) → HasInputs gate.kind (length gate.inputs) →
    EndAlike (cell_run aig_values (gate_cell gate) t) (gate_run gate.kind (map t.at gate.inputs) t.domain)

-- the claim that a literal can be 0 has no more leaves and and-nodes than one that a register holds its bit where it is 0
abbrev pub IdleIsNoLarger : Type 0
IdleIsNoLarger = (m : MachineData) (e : Literal) (r : ℕ) → IsMachine m →
    nodes_of m (idle_question (e ∷ [])) ≤ nodes_of m (hold_question e r)

-- The targets of a claim that registers are unseen: those with one of these registers in their cone.
use Rattle.std.specs.Prelude.{◌≡◌, ◌<◌, ℕ, ◌+◌, Bool, true, List, [], ◌∷◌, ◌++◌, length, map}
use Rattle.std.specs.List.{filter, list_any}
use Rattle.cg_net.specs.NetSets.{is_in}
use Rattle.cg_machine.specs.Claims.{Literal, Target, Shown, Next, Joined}
use Rattle.cg_machine.specs.Machine.{MachineData}
use Rattle.cg_claim.specs.declared.name.ClaimName.{ClaimName}
use Rattle.cg_claim.specs.declared.name.ClaimName.TheVariants.{Output, Next as NextName, Enable}
use Rattle.cg_claim.specs.Question.{unseen_question}
use Rattle.cg_claim.specs.Reach.{changed_states, registers_of}

-- whether a target has a register of G in its cone, by structure
abbrev pub meets : MachineData → List Literal → List ℕ → Target → Bool
meets m E G t = list_any (changed_states m (unseen_question E [] G t)) G

-- outputs as targets, each with its name, counted from k
abbrev pub output_targets : ℕ → List ℕ → List (ClaimName × Target)
output_targets k [] = []
output_targets k (y ∷ ys) = (Output k, Shown y) ∷ output_targets (k + 1) ys

-- all targets in order, each with its name: the outputs, the next bits of the registers, the joined enable
abbrev pub all_targets : MachineData → List (ClaimName × Target)
all_targets m = output_targets 0 m.circuit.outputs ++ map (λ r. (NextName r, Next r)) (registers_of m) ++ (Enable, Joined) ∷ []

-- those that have a register of G in their cone
abbrev pub unseen_targets : MachineData → List Literal → List ℕ → List (ClaimName × Target)
unseen_targets m E G = filter (λ t. meets m E G t.1) (all_targets m)

-- a target is one of the machine's: an output, the next bit of a register, or the joined enable
abbrev pub IsTarget : MachineData → Target → Type 0
IsTarget m (Shown y) = is_in m.circuit.outputs y ≡ true
IsTarget m (Next r) = r < length m.circuit.registers
IsTarget m Joined = Unit {0}

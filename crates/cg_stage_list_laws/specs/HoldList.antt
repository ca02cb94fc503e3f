-- The list of hold stages: the registers with one literal form a stage, and the stages stand in the order of their literals.
use Rattle.std.specs.Prelude.{ℕ, Bool, false, not, ◌&&◌, if◌then◌else◌, List, [], ◌∷◌, map, nat_lt, Option, Some, None}
use Rattle.std.specs.List.{count_by, filter, filter_map, find, list_any}
use Rattle.std.specs.Option.{option_map_or}
use Rattle.cg_limit.specs.declared.TheConstants.{MOST_CLAIM_NODES}
use Rattle.cg_machine.specs.Claims.{Literal}
use Rattle.cg_machine.specs.Machine.{MachineData}
use Rattle.cg_machine.specs.declared.stage.Stage.{Stage}
use Rattle.cg_machine.specs.declared.stage.StageKind.TheVariants.{Hold}
use Rattle.cg_claim.specs.Build.{nodes_of}
use Rattle.cg_claim.specs.LeafBits.{is_never}
use Rattle.cg_claim.specs.Leaves.{width_of}
use Rattle.cg_claim.specs.Question.{Question, held_question, hold_question, idle_question}
use Rattle.cg_stage_list_laws.specs.Literals.{ZeroCounts, both_literals, literals_of, same_literal}
use Rattle.cg_stage_list_laws.specs.Supports.{all_nets, free_registers}

-- how wide the hold claims of a register are, whatever literal of its cone they are for
abbrev pub hold_width : MachineData → ℕ → ℕ
hold_width m r = width_of m (held_question r)

-- whether a literal holds a register, and can be 0
abbrev pub serves : MachineData → ℕ → Literal → Bool
serves m r l = is_never m (hold_question l r) && not (is_never m (idle_question (l ∷ [])))

-- the literal of a register: the first that serves, and none where its claims are too wide
abbrev pub chosen : MachineData → Option ZeroCounts → ℕ → ℕ → Option Literal
chosen m counts width r = if nat_lt width (hold_width m r) then None else find (serves m r) (literals_of m counts r)

-- the choices of the registers without an enable
abbrev pub choices : MachineData → Option ZeroCounts → ℕ → List (ℕ × Option Literal)
choices m counts width = map (λ r. (r, chosen m counts width r)) (free_registers m)

-- the registers that chose a literal
abbrev pub chosen_regs : List (ℕ × Option Literal) → Literal → List ℕ
chosen_regs choices l = map (λ c. c.0) (filter (λ c. option_map_or (same_literal l) c.1 false) choices)

-- the hold stage of a literal
abbrev pub hold_stage : Literal → List ℕ → Stage
hold_stage l regs = record { kind = Hold; enable = l ∷ []; regs = regs; own = None; guards = [] }

-- a stage of registers, where there are some
abbrev pub unless_empty : (List ℕ → Stage) → List ℕ → Option Stage
unless_empty stage [] = None
unless_empty stage (r ∷ regs) = Some (stage (r ∷ regs))

-- the hold stages, net by net, plain before inverted
abbrev pub hold_by : MachineData → List (ℕ × Option Literal) → List Stage
hold_by m choices = filter_map (λ l. unless_empty (hold_stage l) (chosen_regs choices l)) (both_literals (all_nets m))

abbrev pub hold_list : MachineData → Option ZeroCounts → ℕ → List Stage
hold_list m counts width = hold_by m (choices m counts width)

-- of how many registers the hold claims are too wide
abbrev pub hold_wide : MachineData → ℕ → ℕ
hold_wide m width = count_by (λ r. nat_lt width (hold_width m r)) (free_registers m)

-- the literals that are looked at: those up to the first that serves, and none where the claims are too wide
abbrev pub up_to : {T : Type 0} → (T → Bool) → List T → List T
up_to test [] = []
up_to test (x ∷ xs) = if test x then x ∷ [] else x ∷ up_to test xs

abbrev pub looked_at : MachineData → Option ZeroCounts → ℕ → ℕ → List Literal
looked_at m counts width r = if nat_lt width (hold_width m r) then [] else up_to (serves m r) (literals_of m counts r)

-- whether the hold claim of a literal that is looked at has more leaves and and-nodes than a claim may have
abbrev pub is_large : MachineData → Question → Bool
is_large m q = nat_lt MOST_CLAIM_NODES (nodes_of m q)

abbrev pub hold_passes : MachineData → Option ZeroCounts → ℕ → Bool
hold_passes m counts width =
    list_any (λ r. list_any (λ l. is_large m (hold_question l r)) (looked_at m counts width r)) (free_registers m)

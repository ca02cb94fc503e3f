-- What is known of the first registers.
use Rattle.std.specs.Prelude.{◌≡◌, ◌<◌, ◌≤◌, ℕ, ◌*◌, Bool, true, false, if◌then◌else◌, List, [], ◌∷◌, ◌++◌, length, map}
use Rattle.std.specs.Prelude.{slice_index_or, slice_set, nat_lt, slice_get, is_none, Option, Some, None, Result, Ok, Err}
use Rattle.std.specs.List.{count_by, filter, find, list_any, range_with_len}
use Rattle.std.specs.Option.{option_map_or}
use Rattle.cg_limit.specs.declared.Limit.TheVariants.{ClaimNodes}
use Rattle.cg_limit.specs.declared.TheConstants.{MOST_CLAIM_NODES}
use Rattle.cg_netlist.specs.declared.fault.AddFault.{AddFault}
use Rattle.cg_netlist.specs.declared.fault.AddFault.TheVariants.{Limit as LimitFault, NoMemory}
use Rattle.cg_machine.specs.Claims.{Literal}
use Rattle.cg_machine.specs.Machine.{MachineData, enable_of}
use Rattle.cg_machine.specs.declared.stage.Stage.{Stage}
use Rattle.cg_claim.specs.Build.{nodes_of}
use Rattle.cg_claim.specs.LeafBits.{is_never}
use Rattle.cg_claim.specs.Question.{hold_question, idle_question}
use Rattle.cg_stage_list_laws.specs.HoldList.{chosen, chosen_regs, hold_stage, hold_width, is_large, looked_at, serves, unless_empty, up_to}
use Rattle.cg_stage_list_laws.specs.Literals.{ZeroCounts}
use Rattle.cg_stage_list_laws.specs.Supports.{input_cone}
use Rattle.cg_net.specs.NetSets.{is_in}
use Rattle.cg_unroll.specs.declared.claim.ClaimFault.{ClaimFault}
use Rattle.cg_unroll.specs.declared.claim.ClaimFault.TheVariants.{Wide as WideFault, Limit as ClaimLimit, NoMemory as ClaimMemory}
use Rattle.cg_hold.specs.declared.choice.Choice.{Choice}
use Rattle.cg_hold.specs.declared.choice.Choice.TheVariants.{Wide, Takes}
use Rattle.cg_hold.specs.declared.trial.Trial.{Trial}
use Rattle.cg_hold.specs.declared.trial.Trial.TheVariants.{TooWide, Serves, Fails}
use Rattle.cg_hold.specs.inner.Packed.{literal_place}

-- a literal of the cone of a register's inputs
abbrev pub IsLiteralOf : MachineData → ℕ → Literal → Type 0
IsLiteralOf m r l = (is_in (input_cone m r) l.0 ≡ true) × (l.0 < length m.circuit.names)

-- the claim that a literal can be 0 has no more leaves and and-nodes than a claim may have
abbrev pub IdleFits : MachineData → Literal → Type 0
IdleFits m l = nodes_of m (idle_question (l ∷ [])) ≤ MOST_CLAIM_NODES

-- what comes of a literal that is looked at
abbrev pub trial_of : MachineData → ℕ → ℕ → Literal → Result Trial AddFault
trial_of m width r l =
    if nat_lt width (hold_width m r) then Ok TooWide
    else if is_large m (hold_question l r) then Err (LimitFault ClaimNodes)
    else Ok (if serves m r l then Serves else Fails)

-- what comes of a literal whose hold claim is refused so
abbrev pub refused_trial : ClaimFault → Result Trial AddFault
refused_trial (WideFault n) = Ok TooWide
refused_trial (ClaimLimit which) = Err (LimitFault which)
refused_trial ClaimMemory = Err NoMemory

-- what comes of a register all of whose hold claims are refused so
abbrev pub refused_choice : ClaimFault → Result Choice AddFault
refused_choice (WideFault n) = Ok Wide
refused_choice (ClaimLimit which) = Err (LimitFault which)
refused_choice ClaimMemory = Err NoMemory

-- what comes of a register with these literals
abbrev pub choice_by : MachineData → ℕ → ℕ → List Literal → Result Choice AddFault
choice_by m width r literals =
    if nat_lt width (hold_width m r) then Ok Wide
    else if list_any (λ l. is_large m (hold_question l r)) (up_to (serves m r) literals) then Err (LimitFault ClaimNodes)
    else Ok (Takes (find (serves m r) literals))

-- whether a hold claim that is looked at for a register passes the limit
abbrev pub passes_at : MachineData → Option ZeroCounts → ℕ → ℕ → Bool
passes_at m counts width r = list_any (λ l. is_large m (hold_question l r)) (looked_at m counts width r)

-- those of the first n registers that have no enable
abbrev pub free_to : MachineData → ℕ → List ℕ
free_to m n = filter (λ r. is_none (enable_of m r)) (range_with_len 0 n)

-- their choices
abbrev pub choices_to : MachineData → Option ZeroCounts → ℕ → ℕ → List (ℕ × Option Literal)
choices_to m counts width n = map (λ r. (r, chosen m counts width r)) (free_to m n)

-- the list at a place, and none behind the last
abbrev pub list_at : List (List ℕ) → ℕ → List ℕ
list_at lists k = option_map_or (λ l. l) (slice_get lists k) []

-- there is a list for each literal, with those of the first n registers that chose it; of how many of them the hold claims
-- are too wide; and none that is looked at passes the limit
pub record AreChosen (m : MachineData) (counts : Option ZeroCounts) (width n : ℕ) (lists : List (List ℕ)) (wide : ℕ) : Type 0 where
  pub count : length lists ≡ 2 * length m.circuit.names
  pub each : (l : Literal) → l.0 < length m.circuit.names →
      list_at lists (literal_place l) ≡ chosen_regs (choices_to m counts width n) l
  pub wide_is : wide ≡ count_by (λ r. nat_lt width (hold_width m r)) (free_to m n)
  pub within : list_any (passes_at m counts width) (free_to m n) ≡ false

-- the place of a literal that is taken is there
abbrev pub FitsChoice : ℕ → Choice → Type 0
FitsChoice places Wide = Unit {0}
FitsChoice places (Takes None) = Unit {0}
FitsChoice places (Takes (Some l)) = literal_place l < places

-- the lists with one more register, and how much is added to the number of those that are too wide
abbrev pub with_choice : List (List ℕ) → Choice → ℕ → List (List ℕ)
with_choice lists Wide r = lists
with_choice lists (Takes None) r = lists
with_choice lists (Takes (Some l)) r = slice_set lists (literal_place l) (slice_index_or lists (literal_place l) [] ++ r ∷ [])

abbrev pub wide_by : Choice → ℕ
wide_by Wide = 1
wide_by (Takes literal) = 0

-- the stage of the registers that took a literal, where there are some
abbrev pub stage_at : List (List ℕ) → Literal → Option Stage
stage_at lists l = unless_empty (hold_stage l) (list_at lists (literal_place l))

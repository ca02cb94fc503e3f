-- What comes of a hint on a machine: the first that applies of what follows. One of its registers has an enable; the library lacks a
-- cell that it needs; one of its claims is too wide; one of its claims has more nodes than a claim may have; its condition is never 0;
-- one of its registers can change its bit; its effect passes a limit; it is inserted.
use Rattle.std.specs.Prelude.{ℕ, Bool, true, false, not, if◌then◌else◌, List, [], ◌∷◌, map, nat_lt, is_some, unwrap_or, Option, None, Some, Result, Ok, Err}
use Rattle.std.specs.List.{find}
use Rattle.std.specs.Option.{option_map, option_or}
use Rattle.cg_cell.specs.Cell.{CellData}
use Rattle.cg_limit.specs.declared.Limit.TheVariants.{ClaimNodes}
use Rattle.cg_limit.specs.declared.TheConstants.{MOST_CLAIM_NODES}
use Rattle.cg_netlist.specs.declared.fault.AddFault.{AddFault}
use Rattle.cg_netlist.specs.declared.fault.AddFault.TheVariants.{Limit}
use Rattle.cg_machine.specs.Machine.{MachineData, enable_of}
use Rattle.cg_stage_laws.specs.Needs.{missing}
use Rattle.cg_hint_laws.specs.declared.hint.Hint.{Hint}
use Rattle.cg_hint_laws.specs.declared.outcome.HintClaim.{HintClaim}
use Rattle.cg_hint_laws.specs.declared.outcome.HintClaim.TheVariants.{Hold, Idle}
use Rattle.cg_hint_laws.specs.declared.outcome.HintOutcome.{HintOutcome}
use Rattle.cg_hint_laws.specs.declared.outcome.HintOutcome.TheVariants.{Inserted, NeverIdle, NoCell, Refuted, Taken, Wide}
use Rattle.cg_hint_laws.specs.Build.{nodes_of}
use Rattle.cg_hint_laws.specs.Effects.{and_then, effect}
use Rattle.cg_hint_laws.specs.Leaves.{width_of}
use Rattle.cg_hint_laws.specs.Needs.{needs}
use Rattle.cg_hint_laws.specs.Question.{Question, hold_question, idle_question}
use Rattle.cg_hint_laws.specs.Violates.{is_never}

-- what comes of it: an outcome, or the limit that is passed. A refuted claim has no bits here: any bits that violate it may be told.
abbrev pub Answer : Type 0
Answer = Result HintOutcome AddFault

-- the question of a claim of a hint
abbrev pub question_of : Hint → HintClaim → Question
question_of h Idle = idle_question h.terms
question_of h (Hold r) = hold_question h.terms h.after r

-- the claims of a hint: one for each register; that the condition can be 0 comes before them
abbrev pub hold_claims : Hint → List HintClaim
hold_claims h = map Hold h.regs

abbrev pub all_claims : Hint → List HintClaim
all_claims h = Idle ∷ hold_claims h

-- how many leaves a claim has, and how many leaves and and-nodes
abbrev pub claim_width : MachineData → Hint → HintClaim → ℕ
claim_width m h c = width_of m (question_of h c)

abbrev pub claim_nodes : MachineData → Hint → HintClaim → ℕ
claim_nodes m h c = nodes_of m (question_of h c)

-- whether a claim is never violated
abbrev pub claim_holds : MachineData → Hint → HintClaim → Bool
claim_holds m h c = is_never m (question_of h c)

-- the first register that has an enable
abbrev pub first_taken : MachineData → Hint → Option Answer
first_taken m h = option_map (λ r. Ok (Taken r)) (find (λ r. is_some (enable_of m r)) h.regs)

-- the first cell that is missing
abbrev pub first_missing : List CellData → Hint → Option Answer
first_missing library h = option_map (λ kind. Ok (NoCell kind)) (missing library (needs h))

-- the first claim that is too wide
abbrev pub first_wide : MachineData → ℕ → Hint → Option Answer
first_wide m width h =
    option_map (λ c. Ok (Wide c (claim_width m h c))) (find (λ c. nat_lt width (claim_width m h c)) (all_claims h))

-- whether a claim has more nodes than a claim may have
abbrev pub first_large : MachineData → Hint → Option Answer
first_large m h = option_map (λ c. Err (Limit ClaimNodes)) (find (λ c. nat_lt MOST_CLAIM_NODES (claim_nodes m h c)) (all_claims h))

-- whether the condition is never 0
abbrev pub never_idle : MachineData → Hint → Option Answer
never_idle m h = if claim_holds m h Idle then Some (Ok NeverIdle) else None

-- the first register that can change its bit
abbrev pub first_refuted : MachineData → Hint → Option Answer
first_refuted m h = option_map (λ c. Ok (Refuted c [])) (find (λ c. not (claim_holds m h c)) (hold_claims h))

-- what stands against a hint, before its effect
abbrev pub first_against : List CellData → ℕ → MachineData → Hint → Option Answer
first_against library width m h =
    option_or (first_taken m h)
    (option_or (first_missing library h)
    (option_or (first_wide m width h) (option_or (first_large m h) (option_or (never_idle m h) (first_refuted m h)))))

-- what comes of a hint
abbrev pub tried : List CellData → ℕ → MachineData → Hint → Answer
tried library width m h = unwrap_or (first_against library width m h) (and_then (effect m h) (λ n. Ok Inserted))

abbrev pub is_inserted : HintOutcome → Bool
is_inserted Inserted = true
is_inserted _ = false

-- an inserted hint changes the machine by its effect; any other leaves it
abbrev pub machine_or : MachineData → Result MachineData AddFault → MachineData
machine_or m (Ok n) = n
machine_or m (Err fault) = m

abbrev pub after_outcome : MachineData → Hint → HintOutcome → MachineData
after_outcome m h outcome = if is_inserted outcome then machine_or m (effect m h) else m

-- the turn of a hint: the machine on which it is tried, and what comes of it
pub record Turn : Type 0 where
  pub machine : MachineData
  pub hint : Hint
  pub outcome : HintOutcome

-- hints that were tried: the machine that they leave, and their turns
pub record Hinted : Type 0 where
  pub machine : MachineData
  pub turns : List Turn

-- hints tried one after another, each on the machine that those before it leave; the first limit that is passed ends it
abbrev pub with_turn : Turn → Hinted → Result Hinted AddFault
with_turn turn h = Ok (record { machine = h.machine; turns = turn ∷ h.turns })

abbrev pub hinted : List CellData → ℕ → MachineData → List Hint → Result Hinted AddFault
hinted library width m [] = Ok (record { machine = m; turns = [] })
hinted library width m (h ∷ hs) =
    and_then (tried library width m h) (λ outcome.
    and_then (hinted library width (after_outcome m h outcome) hs) (with_turn (record { machine = m; hint = h; outcome = outcome })))

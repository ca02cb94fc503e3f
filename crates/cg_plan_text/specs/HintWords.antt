-- The words of hints, of their claims and of what comes of them, and what is said of them. Nets and registers have the names that they
-- have in the plan's machine.
use Rattle.std.specs.Prelude.{ℕ, ◌+◌, List, [], ◌∷◌, ◌++◌, map, length, codes, Option, None, Some}
use Rattle.std.specs.Fmt.{decimal}
use Rattle.std.specs.List.{count_by}
use Rattle.cg_hint_laws.specs.Trying.{is_inserted}
use Rattle.cg_hint_laws.specs.declared.hint.Hint.{Hint}
use Rattle.cg_hint_laws.specs.declared.outcome.HintClaim.{HintClaim}
use Rattle.cg_hint_laws.specs.declared.outcome.HintClaim.TheVariants.{Hold, Idle}
use Rattle.cg_hint_laws.specs.declared.outcome.HintOutcome.{HintOutcome}
use Rattle.cg_hint_laws.specs.declared.outcome.HintOutcome.TheVariants.{Inserted, NeverIdle, NoCell, Refuted, Taken, Wide}
use Rattle.cg_machine.specs.Machine.{MachineData}
use Rattle.cg_text.specs.Written.{line_text}
use Rattle.cg_plan_text.specs.Words.{Word, cell_word, leaf_word, register_word}

-- a claim
abbrev pub hint_claim_words : MachineData → HintClaim → List Word
hint_claim_words m Idle = codes "idle" ∷ []
hint_claim_words m (Hold r) = codes "hold" ∷ register_word m r ∷ []

-- what comes of a hint
abbrev pub hint_outcome_words : MachineData → HintOutcome → List Word
hint_outcome_words m Inserted = codes "inserted" ∷ []
hint_outcome_words m (Taken r) = codes "taken" ∷ register_word m r ∷ []
hint_outcome_words m (NoCell kind) = codes "nocell" ∷ cell_word kind ∷ []
hint_outcome_words m (Wide claim width) = codes "wide" ∷ (hint_claim_words m claim ++ decimal width ∷ [])
hint_outcome_words m NeverIdle = codes "neveridle" ∷ []
hint_outcome_words m (Refuted claim bits) = codes "refuted" ∷ (hint_claim_words m claim ++ map (leaf_word m) bits)

-- a hint with its number, counted from 1, and what comes of it
abbrev pub hint_words : MachineData → ℕ → Hint → HintOutcome → List Word
hint_words m number h outcome =
    codes "hint" ∷ decimal number ∷ codes "regs" ∷ decimal (length h.regs)
    ∷ (map (register_word m) h.regs ++ codes "after" ∷ decimal h.after ∷ hint_outcome_words m outcome)

-- hints with their outcomes, of which the first has this number
abbrev pub hints_from : MachineData → ℕ → List Hint → List HintOutcome → List (List Word)
hints_from m number [] outcomes = []
hints_from m number (h ∷ hs) [] = []
hints_from m number (h ∷ hs) (outcome ∷ outcomes) = hint_words m number h outcome ∷ hints_from m (number + 1) hs outcomes

-- how many hints were tried, and how many were inserted; nothing where none are asked for
abbrev pub hints_words : List HintOutcome → List Word
hints_words outcomes = codes "hints" ∷ decimal (length outcomes) ∷ codes "inserted" ∷ decimal (count_by is_inserted outcomes) ∷ []

abbrev pub hints_line : Option (List HintOutcome) → List ℕ
hints_line None = []
hints_line (Some outcomes) = line_text (hints_words outcomes)

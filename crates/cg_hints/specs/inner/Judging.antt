-- What comes of a hint step by step: by its registers and cells, by the sizes of its claims, and by what they say.
use Rattle.std.specs.Prelude.{◌≡◌, ℕ, Bool, false, if◌then◌else◌, is_some, nat_lt, List, [], unwrap_or, Option, None, Some, Ok}
use Rattle.std.specs.List.{find}
use Rattle.std.specs.Option.{option_map, option_or}
use Rattle.cg_cell.specs.Cell.{CellData}
use Rattle.cg_limit.specs.declared.TheConstants.{MOST_CLAIM_NODES}
use Rattle.cg_machine.specs.Machine.{MachineData, enable_of}
use Rattle.cg_stage_laws.specs.Needs.{missing}
use Rattle.cg_hint_laws.specs.Answers.{AreAppended, IsAnswer, RegisterClaim, register_claims}
use Rattle.cg_hint_laws.specs.Build.{nodes_of}
use Rattle.cg_hint_laws.specs.Effects.{and_then, effect}
use Rattle.cg_hint_laws.specs.Leaves.{width_of}
use Rattle.cg_hint_laws.specs.Needs.{needs}
use Rattle.cg_hint_laws.specs.Question.{Question}
use Rattle.cg_hint_laws.specs.Trying.{Answer, first_large, first_refuted, first_wide, is_inserted, never_idle}
use Rattle.cg_hint_laws.specs.declared.certificate.HintCertificate.{HintCertificate}
use Rattle.cg_hint_laws.specs.declared.hint.Hint.{Hint}
use Rattle.cg_hint_laws.specs.declared.outcome.HintOutcome.{HintOutcome}
use Rattle.cg_hint_laws.specs.declared.outcome.HintOutcome.TheVariants.{Inserted, NoCell, Taken}
use Rattle.cg_hints.specs.declared.claims.Size.{Size}
use Rattle.cg_hints.specs.declared.claims.Size.TheVariants.{Fits as FitsSize, Large, Wide}
use Rattle.cg_unroll.specs.declared.claim.Claim.{Claim}
use Rattle.cg_unroll_cycles.specs.Claims.{IsCycleClaim}

-- how a hint ends by its registers and its cells alone
abbrev pub early_end : List CellData → MachineData → Hint → Option HintOutcome
early_end library m h =
    option_or (option_map Taken (find (λ r. is_some (enable_of m r)) h.regs)) (option_map NoCell (missing library (needs h)))

-- a hint that deserves it is inserted, unless its effect passes a limit
abbrev pub inserted : MachineData → Hint → Answer
inserted m h = and_then (effect m h) (λ n. Ok Inserted)

-- what comes of it by its claims
abbrev pub by_claims : ℕ → MachineData → Hint → Answer
by_claims width m h =
    unwrap_or (option_or (first_wide m width h) (option_or (first_large m h) (option_or (never_idle m h) (first_refuted m h)))) (inserted m h)

-- the size of a claim
abbrev pub size_of : ℕ → MachineData → Question → Size
size_of width m q =
    if nat_lt width (width_of m q) then Wide (width_of m q) else (if nat_lt MOST_CLAIM_NODES (nodes_of m q) then Large else FitsSize)

-- a claim that is neither too wide nor too large is built
abbrev pub IsBuilt : MachineData → Question → ℕ → Claim → Size → Type 0
IsBuilt m q width claim FitsSize = IsCycleClaim m q width claim
IsBuilt m q width claim _ = Unit {0}

-- a hint of which this comes ends so, or it is inserted unless a limit is passed
abbrev pub IsJudged : MachineData → Hint → Answer → Option HintOutcome → Type 0
IsJudged m h given (Some outcome) = IsAnswer m h given (Ok outcome) × (is_inserted outcome ≡ false)
IsJudged m h given None = given ≡ inserted m h

-- the claims of the registers of a hint that are certified: all where proofs are wanted, and else none
abbrev pub wanted_claims : Bool → ℕ → MachineData → Hint → List RegisterClaim
wanted_claims proof number m h = if proof then register_claims number m h else []

-- those of a hint that does not end by its claims are certified
abbrev pub Certifying : Bool → MachineData → ℕ → Hint → List HintCertificate → List HintCertificate → Option HintOutcome → Type 0
Certifying proof m number h before after (Some outcome) = Unit {0}
Certifying proof m number h before after None = AreAppended (wanted_claims proof number m h) before after

-- those of a hint that is inserted are certified
abbrev pub Pushes : Bool → MachineData → ℕ → Hint → List HintCertificate → List HintCertificate → HintOutcome → Type 0
Pushes proof m number h before after Inserted = AreAppended (wanted_claims proof number m h) before after
Pushes proof m number h before after _ = Unit {0}

-- What is known of a hint once some of its claims had their turn, and how the hint ends by it and by those that are left.
use Rattle.std.specs.Prelude.{◌≡◌, ℕ, Bool, true, false, ◌||◌, if◌then◌else◌, nat_lt, List, [], ◌∷◌, unwrap_or}
use Rattle.std.specs.Prelude.{Option, None, Some, Result, Ok, Err}
use Rattle.std.specs.Option.{option_or}
use Rattle.cg_limit.specs.declared.Limit.TheVariants.{ClaimNodes}
use Rattle.cg_limit.specs.declared.TheConstants.{MOST_CLAIM_NODES}
use Rattle.cg_machine.specs.Machine.{MachineData}
use Rattle.cg_netlist.specs.declared.fault.AddFault.{AddFault}
use Rattle.cg_netlist.specs.declared.fault.AddFault.TheVariants.{Limit}
use Rattle.cg_hint_laws.specs.Answers.{IsBacked, without_bits}
use Rattle.cg_hint_laws.specs.Trying.{Answer, claim_holds, claim_nodes, claim_width, is_inserted, never_idle}
use Rattle.cg_hint_laws.specs.declared.hint.Hint.{Hint}
use Rattle.cg_hint_laws.specs.declared.outcome.HintClaim.{HintClaim}
use Rattle.cg_hint_laws.specs.declared.outcome.HintClaim.TheVariants.{Hold, Idle}
use Rattle.cg_hint_laws.specs.declared.outcome.HintOutcome.{HintOutcome}
use Rattle.cg_hint_laws.specs.declared.outcome.HintOutcome.TheVariants.{Refuted, Wide as TooWide}
use Rattle.cg_hints.specs.inner.Judging.{inserted}
use Rattle.cg_hints.specs.declared.standing.Standing.{Standing}
use Rattle.cg_hints.specs.declared.standing.Standing.TheVariants.{Large, Open, Settled}

-- how a hint ends by its claims once all had their turn, if it does
abbrev pub end_of : Standing → Result (Option HintOutcome) AddFault
end_of Open = Ok None
end_of (Settled end) = Ok (Some end)
end_of Large = Err (Limit ClaimNodes)

-- whether a claim had too many nodes, and what was settled by those that had not
abbrev pub large_of : Standing → Bool
large_of Open = false
large_of (Settled end) = false
large_of Large = true

abbrev pub settled_of : Standing → Option Answer
settled_of Open = None
settled_of (Settled end) = Some (Ok (without_bits end))
settled_of Large = None

-- what a claim settles that is neither too wide nor too large: where the condition is never 0, or the register can change its bit, the
-- hint ends so
abbrev pub settles : MachineData → Hint → HintClaim → Option Answer
settles m h Idle = never_idle m h
settles m h (Hold r) = if claim_holds m h (Hold r) then None else Some (Ok (Refuted (Hold r) []))

-- What comes of a hint by these claims, where this was settled by those before them, and one of those was too large or not. The first that
-- is too wide ends it; else one that is too large; else what is settled first; and else it is inserted, unless a limit is passed.
abbrev pub ended : ℕ → MachineData → Hint → Bool → Option Answer → List HintClaim → Answer
ended width m h large settled [] = if large then Err (Limit ClaimNodes) else unwrap_or settled (inserted m h)
ended width m h large settled (c ∷ claims) =
    if nat_lt width (claim_width m h c) then Ok (TooWide c (claim_width m h c))
    else ended width m h (large || nat_lt MOST_CLAIM_NODES (claim_nodes m h c)) (option_or settled (settles m h c)) claims

-- what comes of a hint by these claims, where this is known of it by those before them
abbrev pub left_of : ℕ → MachineData → Hint → Standing → List HintClaim → Answer
left_of width m h standing claims = ended width m h (large_of standing) (settled_of standing) claims

-- once a claim had its turn, the next is known: by it and the claims behind this one the same comes of the hint
abbrev pub LeadsOn : ℕ → MachineData → Hint → HintClaim → Standing → Standing → Type 0
LeadsOn width m h c was next = (claims : List HintClaim) → left_of width m h was (c ∷ claims) ≡ left_of width m h next claims

-- a hint of which this is settled is not inserted, and bits that are shown with it violate the claim
abbrev pub IsBackedBy : MachineData → Hint → Standing → Type 0
IsBackedBy m h (Settled end) = IsBacked m h end × (is_inserted end ≡ false)
IsBackedBy m h _ = Unit {0}

-- A builder of a netlist, and how its calls answer.
use Rattle.std.specs.Prelude.{◌≡◌, ◌⊎◌, List, ℕ, Option, None, Some, Result, Ok, Err, IfErr, MatchResult, OnOk}
use Rattle.cg_limit.specs.declared.Limit.{Limit}
use Rattle.cg_netlist.specs.declared.fault.AddFault.{AddFault}
use Rattle.cg_netlist.specs.declared.fault.AddFault.TheVariants.{Limit as Passes, NoMemory as NoRoom}
use Rattle.cg_netlist_parts.specs.declared.fault.NetFault.{NetFault}
use Rattle.cg_netlist_parts.specs.declared.fault.NetFault.TheVariants.{NoMemory}
use Rattle.cg_netlist.specs.Circuit.{Circuit}
use Rattle.cg_netlist_parts.specs.Faults.{IsFault}
use Rattle.cg_netlist_parts.specs.Part.{Part}
use Rattle.cg_netlist_parts.specs.Said.{Said, limit_of, nothing_said, said, with_part}
use Rattle.cg_netlist_parts.specs.Says.{Says}

-- a builder: the name of its model, what it was told, and the refusal of the first call that it refused
pub record Building : Type 0 where
  pub model : List ℕ
  pub said : Said
  pub refused : Option AddFault

-- a builder that was told nothing
abbrev pub fresh : List ℕ → Building
fresh model = record { model = model; said = nothing_said; refused = None }

-- how a call answers: after a refusal with that refusal; and else with Ok exactly where no limit is passed, or for want of memory
abbrev pub IsAnswer : Option AddFault → Option Limit → Result (Unit {0}) AddFault → Type 0
IsAnswer (Some fault) passed result = result ≡ Err fault
IsAnswer None None result = (result ≡ Ok tt) ⊎ (result ≡ Err NoRoom)
IsAnswer None (Some limit) result = (result ≡ Err (Passes limit)) ⊎ (result ≡ Err NoRoom)

-- how finishing answers a builder that was told this: with the netlist that parts say which have said it, with their first fault,
-- or for want of memory
abbrev pub Finishes : Building → Result Circuit NetFault → Type 0
Finishes b result = (parts : List Part) → said parts ≡ b.said →
    MatchResult result (λ c. Says b.model parts c) (λ fault. (fault ≡ NoMemory) ⊎ IsFault parts fault)

-- a call that says a part: a builder that takes it was told one part more, and one that refuses it refuses every later one alike
pub record Takes (old : Building) (part : Part) (new : Building) (result : Result (Unit {0}) AddFault) : Type 0 where
  pub answers : IsAnswer old.refused (limit_of (with_part old.said part)) result
  pub takes : OnOk result (new ≡ record old { said = with_part old.said part })
  pub refuses : IfErr result (λ fault. new.refused ≡ Some fault)

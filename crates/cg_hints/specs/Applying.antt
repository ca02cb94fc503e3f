-- Hints that were tried one after another, as the program holds and reports them.
use Rattle.std.specs.Prelude.{◌≡◌, ℕ, Bool, if◌then◌else◌, List, [], Ok}
use Rattle.cg_cell.specs.Cell.{CellData}
use Rattle.cg_machine.specs.Machine.{MachineData}
use Rattle.cg_hint_laws.specs.Answers.{AreCertified, AreShown, RegisterClaim, Reported, turn_claims}
use Rattle.cg_hint_laws.specs.Trying.{Hinted, Turn, hinted}
use Rattle.cg_hint_laws.specs.declared.hint.Hint.{Hint}
use Rattle.cg_hints.specs.declared.apply.Applied.{Applied}

abbrev pub reported : Applied → Reported
reported applied = record { machine = applied.machine; outcomes = applied.outcomes; certificates = applied.certificates }

-- the claims of turns that are certified: one for each register of each inserted hint where proofs are wanted, and else none
abbrev pub kept_claims : Bool → List Turn → List RegisterClaim
kept_claims proof turns = if proof then turn_claims 1 turns else []

-- that is what comes of hints that are tried one after another, with a certificate for each register of each inserted one where proofs
-- are wanted, and else with none
pub record AreApplied (library : List CellData) (width : ℕ) (proof : Bool) (m : MachineData) (hs : List Hint)
    (reported : Reported) : Type 0 where
  pub done : Hinted
  pub tried : hinted library width m hs ≡ Ok done
  pub machine : reported.machine ≡ done.machine
  pub outcomes : AreShown done.turns reported.outcomes
  pub certificates : AreCertified (kept_claims proof done.turns) reported.certificates

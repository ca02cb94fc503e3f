-- Hints that are being tried, one after another.
use Rattle.std.specs.Prelude.{◌≡◌, ℕ, ◌+◌, Bool, if◌then◌else◌, List, [], ◌∷◌, ◌++◌, length, Result, Ok, Err}
use Rattle.cg_cell.specs.Cell.{CellData}
use Rattle.cg_machine.specs.Machine.{IsMachine, MachineData}
use Rattle.cg_netlist.specs.declared.fault.AddFault.{AddFault}
use Rattle.cg_hint_laws.specs.Answers.{AreAppended, AreCertified, AreShown, IsAnswer, Reported, claims_for}
use Rattle.cg_hint_laws.specs.Laws.{AllFit}
use Rattle.cg_hint_laws.specs.Trying.{Hinted, Turn, after_outcome, hinted, tried}
use Rattle.cg_hint_laws.specs.declared.hint.Hint.{Hint}
use Rattle.cg_hint_laws.specs.declared.outcome.HintOutcome.{HintOutcome}
use Rattle.cg_hints.specs.Applying.{kept_claims}
use Rattle.cg_hints.specs.declared.apply.Draft.{Draft}

-- what a draft reports
abbrev pub drafted : Draft → Reported
drafted d = record { machine = d.machine; outcomes = d.outcomes; certificates = d.certificates.items }

-- one more hint was tried: what comes of it is put behind the others
pub record IsStep (library : List CellData) (width : ℕ) (proof : Bool) (h : Hint) (d e : Draft) : Type 0 where
  pub outcome : HintOutcome
  pub answer : IsAnswer d.machine h (tried library width d.machine h) (Ok outcome)
  pub machine : e.machine ≡ after_outcome d.machine h outcome
  pub outcomes : e.outcomes ≡ d.outcomes ++ outcome ∷ []
  pub certificates : AreAppended (if proof then claims_for (length d.outcomes + 1) d.machine h outcome else [])
      d.certificates.items e.certificates.items

-- turns that were before those of hints that are tried
abbrev pub behind_turns : List Turn → Result Hinted AddFault → Result Hinted AddFault
behind_turns turns (Ok done) = Ok (record { machine = done.machine; turns = turns ++ done.turns })
behind_turns turns (Err fault) = Err fault

-- hints of a list on a machine are being tried, and these are left
pub record IsUnderway (library : List CellData) (width : ℕ) (proof : Bool) (m : MachineData) (hs left : List Hint)
    (d : Draft) : Type 0 where
  pub turns : List Turn
  pub whole : hinted library width m hs ≡ behind_turns turns (hinted library width d.machine left)
  pub shown : AreShown turns d.outcomes
  pub certified : AreCertified (kept_claims proof turns) d.certificates.items
  pub is_machine : IsMachine d.machine
  pub fit : AllFit d.machine left

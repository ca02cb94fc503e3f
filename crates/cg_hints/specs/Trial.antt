-- What trying a hint does to a machine and to the certificates.
use Rattle.std.specs.Prelude.{◌≡◌, ℕ, Bool, false, if◌then◌else◌, List, [], Ok}
use Rattle.cg_cell.specs.Cell.{CellData}
use Rattle.cg_stage_laws.specs.Appends.{Keeps}
use Rattle.cg_machine.specs.Machine.{MachineData}
use Rattle.cg_netlist.specs.declared.fault.AddFault.{AddFault}
use Rattle.cg_hint_laws.specs.Answers.{AreAppended, IsAnswer, MayFail, claims_for}
use Rattle.cg_hint_laws.specs.Laws.{After}
use Rattle.cg_hint_laws.specs.Outcomes.{Deserves}
use Rattle.cg_hint_laws.specs.Trying.{after_outcome, is_inserted, tried}
use Rattle.cg_hint_laws.specs.declared.certificate.HintCertificate.{HintCertificate}
use Rattle.cg_hint_laws.specs.declared.hint.Hint.{Hint}
use Rattle.cg_hint_laws.specs.declared.outcome.HintOutcome.{HintOutcome}
use Rattle.cg_hint_laws.specs.declared.outcome.HintOutcome.TheVariants.{Inserted}

-- where the hint is inserted, n is m after it: from every start with 1 in the delay registers and over every waveform it shows what m
-- shows
abbrev pub WhereInserted : MachineData → Hint → HintOutcome → MachineData → Type 0
WhereInserted m h Inserted n = After m h n
WhereInserted m h _ n = Unit {0}

-- neither the machine nor the certificates changed
pub record IsUnchanged (m : MachineData) (before : List HintCertificate) (n : MachineData) (after : List HintCertificate) : Type 0 where
  pub machine : n ≡ m
  pub certificates : after ≡ before

-- A hint was tried on m as the hint of this number, and n is the machine after it. What the outcome says is so. An inserted hint has
-- its effect, and certificates of its registers, in order, stand behind those from before where proofs are wanted, and else none
-- do; any other outcome leaves the machine and the certificates.
pub record IsApplied (library : List CellData) (width : ℕ) (proof : Bool) (number : ℕ) (m : MachineData) (h : Hint)
    (before : List HintCertificate) (end : HintOutcome) (n : MachineData) (after : List HintCertificate) : Type 0 where
  pub answer : IsAnswer m h (tried library width m h) (Ok end)
  pub deserved : Deserves library width m h end
  pub machine : n ≡ after_outcome m h end
  pub safe : WhereInserted m h end n
  pub certificates : AreAppended (if proof then claims_for number m h end else []) before after
  pub unchanged : is_inserted end ≡ false → IsUnchanged m before n after

-- A hint was refused: the limit is the one that is passed, or memory was wanting, which it may be at any time. The certificates are
-- those from before, and to the machine at most gates and delay registers were added, and nothing else: no register of m has another
-- enable, and none behind them has one.
pub record IsRefused (library : List CellData) (width : ℕ) (m : MachineData) (h : Hint) (before : List HintCertificate)
    (why : AddFault) (n : MachineData) (after : List HintCertificate) : Type 0 where
  pub fault : MayFail (tried library width m h) why
  pub kept : Keeps m n
  pub certificates : after ≡ before

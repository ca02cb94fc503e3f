-- What the code answers of hints, beside what the definitions say: bits that violate a refuted claim, and certificates of the claims of
-- inserted hints.
use Rattle.std.specs.Prelude.{◌≡◌, ℕ, ◌+◌, true, if◌then◌else◌, List, [], ◌∷◌, ◌++◌, map, Result, Ok, Err}
use Rattle.cg_cnf.specs.Clauses.{formula_of}
use Rattle.cg_formula.specs.Bounds.{IsFormula}
use Rattle.cg_lrat.specs.AcceptedLog.{IsAccepted}
use Rattle.cg_lrat.specs.Bounds.{IsLog}
use Rattle.cg_machine.specs.Machine.{MachineData}
use Rattle.cg_claim.specs.declared.leaf.LeafBit.{LeafBit}
use Rattle.cg_netlist.specs.declared.fault.AddFault.{AddFault}
use Rattle.cg_netlist.specs.declared.fault.AddFault.TheVariants.{Limit, NoMemory}
use Rattle.cg_hint_laws.specs.declared.certificate.HintCertificate.{HintCertificate}
use Rattle.cg_hint_laws.specs.declared.hint.Hint.{Hint}
use Rattle.cg_hint_laws.specs.declared.outcome.HintOutcome.{HintOutcome}
use Rattle.cg_hint_laws.specs.declared.outcome.HintOutcome.TheVariants.{Refuted}
use Rattle.cg_hint_laws.specs.Build.{claim_run}
use Rattle.cg_hint_laws.specs.Leaves.{leaves_of}
use Rattle.cg_hint_laws.specs.Question.{Question, hold_question}
use Rattle.cg_hint_laws.specs.Trying.{Answer, Turn, is_inserted, question_of}
use Rattle.cg_hint_laws.specs.Violates.{violates_at}

-- an outcome but for the bits of a refuted claim
abbrev pub without_bits : HintOutcome → HintOutcome
without_bits (Refuted claim bits) = Refuted claim []
without_bits outcome = outcome

-- bits of a claim's leaves, one for each leaf in order, that violate the claim
pub record DoViolate (m : MachineData) (q : Question) (bits : List LeafBit) : Type 0 where
  pub leaves : map (λ (b : LeafBit). b.leaf) bits ≡ leaves_of m q
  pub violated : violates_at m q (map (λ (b : LeafBit). b.bit) bits) ≡ true

abbrev pub IsBacked : MachineData → Hint → HintOutcome → Type 0
IsBacked m h (Refuted claim bits) = DoViolate m (question_of h claim) bits
IsBacked m h _ = Unit {0}

-- a fault: the limit that is passed, or want of memory at any time
abbrev pub MayFail : {A : Type 0} → Result A AddFault → AddFault → Type 0
MayFail result NoMemory = Unit {0}
MayFail result (Limit limit) = result ≡ Err (Limit limit)

-- an answer of a hint on a machine is what comes of it, and bits that are shown with it violate the claim
abbrev pub IsAnswer : MachineData → Hint → Answer → Answer → Type 0
IsAnswer m h result (Ok shown) = (result ≡ Ok (without_bits shown)) × IsBacked m h shown
IsAnswer m h result (Err fault) = MayFail result fault

-- the claim of a register of the hint of this number, tried on this machine
pub record RegisterClaim : Type 0 where
  pub machine : MachineData
  pub hint : Hint
  pub number : ℕ
  pub register : ℕ

-- a certificate of such a claim: its formula, as that of the claim's goal, and a log that proves that nothing satisfies it. Both can be
-- written: they keep to the bounds of their formats.
pub record Certifies (c : RegisterClaim) (certificate : HintCertificate) : Type 0 where
  pub number : certificate.number ≡ c.number
  pub register : certificate.reg ≡ c.register
  pub formula :
      let run = claim_run c.machine (hold_question c.hint.terms c.hint.after c.register) in
      certificate.formula ≡ formula_of run.domain run.answer
  pub accepted : IsAccepted certificate.formula certificate.log
  pub formula_fits : IsFormula certificate.formula
  pub log_fits : IsLog certificate.log

-- certificates, one for each of these claims in order
abbrev pub AreCertified : List RegisterClaim → List HintCertificate → Type 0
AreCertified [] certificates = certificates ≡ []
AreCertified (c ∷ claims) [] = ⊥
AreCertified (c ∷ claims) (certificate ∷ certificates) = Certifies c certificate × AreCertified claims certificates

-- the claims of a hint that is inserted, beside that it can idle: one for each register
abbrev pub register_claims : ℕ → MachineData → Hint → List RegisterClaim
register_claims number m h = map (λ r. record { machine = m; hint = h; number = number; register = r }) h.regs

-- the claims that are certified where this comes of a hint
abbrev pub claims_for : ℕ → MachineData → Hint → HintOutcome → List RegisterClaim
claims_for number m h outcome = if is_inserted outcome then register_claims number m h else []

-- those of turns, of which the first has this number
abbrev pub turn_claims : ℕ → List Turn → List RegisterClaim
turn_claims number [] = []
turn_claims number (turn ∷ turns) = claims_for number turn.machine turn.hint turn.outcome ++ turn_claims (number + 1) turns

-- certificates of these claims are put behind others
pub record AreAppended (claims : List RegisterClaim) (before after : List HintCertificate) : Type 0 where
  pub more : List HintCertificate
  pub whole : after ≡ before ++ more
  pub certified : AreCertified claims more

-- outcomes of turns, one for each turn in order
abbrev pub AreShown : List Turn → List HintOutcome → Type 0
AreShown [] outcomes = outcomes ≡ []
AreShown (turn ∷ turns) [] = ⊥
AreShown (turn ∷ turns) (outcome ∷ outcomes) =
    IsAnswer turn.machine turn.hint (Ok turn.outcome) (Ok outcome) × AreShown turns outcomes

-- hints that were tried, as they are reported: the machine that they leave, the outcome of each, and the certificates
pub record Reported : Type 0 where
  pub machine : MachineData
  pub outcomes : List HintOutcome
  pub certificates : List HintCertificate

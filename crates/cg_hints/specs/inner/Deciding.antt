-- What is decided of the claims of a hint, and the certificates that come of it.
use Rattle.std.specs.Prelude.{◌≡◌, ℕ, Bool, if◌then◌else◌, List, [], ◌∷◌, ◌++◌, None, Some, Ok}
use Rattle.cg_machine.specs.Machine.{MachineData}
use Rattle.cg_hint_laws.specs.Answers.{AreAppended, RegisterClaim, without_bits}
use Rattle.cg_hint_laws.specs.declared.certificate.HintCertificate.{HintCertificate}
use Rattle.cg_hint_laws.specs.declared.hint.Hint.{Hint}
use Rattle.cg_hint_laws.specs.declared.outcome.HintClaim.{HintClaim}
use Rattle.cg_hint_laws.specs.declared.outcome.HintClaim.TheVariants.{Hold, Idle}
use Rattle.cg_hints.specs.inner.Standing.{IsBackedBy, settles}
use Rattle.cg_hints.specs.declared.standing.Standing.{Standing}
use Rattle.cg_hints.specs.declared.standing.Standing.TheVariants.{Large, Open, Settled}

-- more certificates are put behind others, or none
pub record Grow (before after : List HintCertificate) : Type 0 where
  pub more : List HintCertificate
  pub whole : after ≡ before ++ more

-- a claim is decided: nothing stands against the hint by it, or the hint ends by it as it does
abbrev pub Decides : MachineData → Hint → HintClaim → Standing → Type 0
Decides m h c Open = settles m h c ≡ None
Decides m h c (Settled end) = (settles m h c ≡ Some (Ok (without_bits end))) × IsBackedBy m h (Settled end)
Decides m h c Large = ⊥

-- the claims of registers among these of the hint of this number
abbrev pub certified : ℕ → MachineData → Hint → List HintClaim → List RegisterClaim
certified number m h [] = []
certified number m h (Idle ∷ claims) = certified number m h claims
certified number m h (Hold r ∷ claims) = record { machine = m; hint = h; number = number; register = r } ∷ certified number m h claims

-- where nothing stands against a hint, certificates of these of its claims are put behind others if proofs are wanted, and else none
abbrev pub CertifiesThese : Bool → ℕ → MachineData → Hint → List HintClaim → List HintCertificate → List HintCertificate → Standing → Type 0
CertifiesThese proof number m h claims before after Open = AreAppended (if proof then certified number m h claims else []) before after
CertifiesThese proof number m h claims before after _ = Unit {0}

-- a claim has its turn behind others: what was so of their certificates is so of its own too
abbrev pub CertifiesOn : Bool → ℕ → MachineData → Hint → HintClaim → List HintCertificate → List HintCertificate →
    Standing → Standing → Type 0
CertifiesOn proof number m h c middle after was next =
    (claims : List HintClaim) (before : List HintCertificate) → CertifiesThese proof number m h claims before middle was →
    CertifiesThese proof number m h (claims ++ c ∷ []) before after next

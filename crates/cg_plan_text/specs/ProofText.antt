-- The proof file of a plan: the certificates of the hints that were tried before it, and then its own, each with a heading, its formula
-- in DIMACS and its log in LRAT. The heading and the line between are comments in both formats.
use Rattle.std.specs.Prelude.{ℕ, List, [], ◌∷◌, ◌++◌, codes}
use Rattle.std.specs.Fmt.{decimal}
use Rattle.std.specs.List.{All, flat_map}
use Rattle.cg_formula.specs.Bounds.{IsFormula}
use Rattle.cg_formula.specs.DimacsText.{dimacs_text}
use Rattle.cg_hint_laws.specs.declared.certificate.HintCertificate.{HintCertificate}
use Rattle.cg_lrat.specs.Bounds.{IsLog}
use Rattle.cg_lrat.specs.LratText.{lrat_text}
use Rattle.cg_machine.specs.Machine.{MachineData}
use Rattle.cg_plan_laws.specs.Reported.{ReportedPlan}
use Rattle.cg_plan_laws.specs.declared.certificate.Certificate.{Certificate}
use Rattle.cg_text.specs.Written.{line_text}
use Rattle.cg_plan_text.specs.Words.{Word, claim_words, register_word}

-- the heading names the stage and the claim
abbrev pub heading_words : MachineData → Certificate → List Word
heading_words m certificate = codes "c" ∷ codes "stage" ∷ decimal certificate.stage ∷ claim_words m certificate.claim

abbrev pub log_words : List Word
log_words = codes "c" ∷ codes "lrat" ∷ []

abbrev pub certificate_text : MachineData → Certificate → List ℕ
certificate_text m certificate =
    line_text (heading_words m certificate)
    ++ (dimacs_text certificate.formula ++ (line_text log_words ++ lrat_text certificate.log))

-- that of a hint names the hint and the register
abbrev pub hint_heading_words : MachineData → HintCertificate → List Word
hint_heading_words m certificate =
    codes "c" ∷ codes "hint" ∷ decimal certificate.number ∷ codes "hold" ∷ register_word m certificate.reg ∷ []

abbrev pub hint_certificate_text : MachineData → HintCertificate → List ℕ
hint_certificate_text m certificate =
    line_text (hint_heading_words m certificate)
    ++ (dimacs_text certificate.formula ++ (line_text log_words ++ lrat_text certificate.log))

abbrev pub proof_text : ReportedPlan → List HintCertificate → List ℕ
proof_text plan hints =
    flat_map (hint_certificate_text plan.machine) hints ++ flat_map (certificate_text plan.machine) plan.certificates

-- certificates of hints that can be written: each formula and each log keeps to the bounds of its format
pub record IsWritableHint (certificate : HintCertificate) : Type 0 where
  pub formula : IsFormula certificate.formula
  pub log : IsLog certificate.log

abbrev pub AreWritableHints : List HintCertificate → Type 0
AreWritableHints certificates = All (λ (certificate : HintCertificate). IsWritableHint certificate) certificates

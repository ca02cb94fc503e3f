use Rattle.std.proofs.Common.{◌≡◌, ◌++◌, drop}
use Rattle.std.specs.List.{flat_map}
use Rattle.cg_plan_text.specs.ProofText.{hint_certificate_text}
use Rattle.cg_plan_text.proofs.proof.push_hint_certificates.Given as goal

abbrev pub invariant-certificates : goal.invariant-certificates
invariant-certificates l = l.text.items ++ flat_map (hint_certificate_text l.machine) (drop l.certificate-index l.certificates) ≡ l.fn.text.items ++ flat_map (hint_certificate_text l.machine) l.certificates

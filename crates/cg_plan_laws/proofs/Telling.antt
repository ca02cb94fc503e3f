-- What is told of a plan grows with each turn.
use Rattle.std.proofs.Common.{◌≡◌, ℕ, ◌+◌, List, [], ◌∷◌, ◌++◌, length, refl, sym, ◌∙◌, ap, subst, arith, append_assoc}
use Rattle.std.proofs.lemmas.List.{append-nil}
use Rattle.cg_plan_laws.specs.Laws.{CertificatesAreReported, StagesAreReported}
use Rattle.cg_plan_laws.specs.Plan.{Turn}
use Rattle.cg_plan_laws.specs.Reported.{AreCertified, AreTold, StageClaim, claims_for, plan_claims}
use Rattle.cg_plan_laws.specs.declared.certificate.Certificate.{Certificate}

pub stages_reported : StagesAreReported
stages_reported [] told turn outcome are tells = subst (λ l. AreTold (turn ∷ []) (l ++ (turn.stage, outcome) ∷ [])) (sym are) (refl, tells, refl)
stages_reported (t ∷ turns) [] turn outcome are tells = absurd are
stages_reported (t ∷ turns) (u ∷ told) turn outcome are tells = (are.0, are.1, stages_reported turns told turn outcome are.2 tells)

-- certificates of two lists of claims
joined : (xs ys : List StageClaim) (before after : List Certificate) → AreCertified xs before → AreCertified ys after → AreCertified (xs ++ ys) (before ++ after)
joined [] ys before after first second = subst (λ l. AreCertified ys (l ++ after)) (sym first) second
joined (x ∷ xs) ys [] after first second = absurd first
joined (x ∷ xs) ys (c ∷ before) after first second = (first.0, joined xs ys before after first.1 second)

abbrev claims_at : ℕ → Turn → List StageClaim
claims_at number turn = claims_for number turn.machine turn.stage turn.outcome

-- the claims of one more turn
one_more : (number : ℕ) (turns : List Turn) (turn : Turn) → plan_claims number (turns ++ turn ∷ []) ≡ plan_claims number turns ++ claims_at (number + length turns) turn
one_more number [] turn =
    let same : number ≡ number + 0 = omega arith in
    append-nil (claims_at number turn) ∙ ap (λ k. claims_at k turn) same
one_more number (t ∷ turns) turn =
    let same : number + 1 + length turns ≡ number + length (t ∷ turns) = omega arith in
    ap (λ l. claims_at number t ++ l) (one_more (number + 1) turns turn)
    ∙ (sym (append_assoc (claims_at number t) (plan_claims (number + 1) turns) (claims_at (number + 1 + length turns) turn))
    ∙ ap (λ k. (claims_at number t ++ plan_claims (number + 1) turns) ++ claims_at k turn) same)

pub certificates_reported : CertificatesAreReported
certificates_reported turns turn before after are appended =
    subst (λ l. AreCertified l after) (sym (one_more 1 turns turn))
    (subst (AreCertified (plan_claims 1 turns ++ claims_at (1 + length turns) turn)) (sym appended.whole) (joined (plan_claims 1 turns) (claims_at (1 + length turns) turn) before appended.more are appended.certified))

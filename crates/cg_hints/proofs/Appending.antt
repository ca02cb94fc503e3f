-- Certificates that are put behind others.
use Rattle.std.proofs.Common.{◌≡◌, List, [], ◌∷◌, ◌++◌, length, take, refl, sym, ◌∙◌, ap, subst, append_assoc}
use Rattle.std.proofs.lemmas.List.{append-nil}
use Rattle.cg_hint_laws.specs.Answers.{AreAppended, AreCertified, RegisterClaim}
use Rattle.cg_hint_laws.specs.declared.certificate.HintCertificate.{HintCertificate}
use Rattle.cg_hints.specs.inner.Deciding.{Grow}

-- none
pub appended_none : (before after : List HintCertificate) → after ≡ before → AreAppended [] before after
appended_none before after same = record { more = []; whole = same ∙ sym (append-nil before); certified = refl }

-- many more
certified_all : (claims later : List RegisterClaim) (more rest : List HintCertificate) → AreCertified claims more → AreCertified later rest → AreCertified (claims ++ later) (more ++ rest)
certified_all [] later more rest are all = subst (λ l. AreCertified later (l ++ rest)) (sym are) all
certified_all (d ∷ claims) later [] rest are all = absurd are
certified_all (d ∷ claims) later (e ∷ more) rest are all = (are.0, certified_all claims later more rest are.1 all)

pub appended_all : (claims later : List RegisterClaim) (before after : List HintCertificate) → AreCertified claims before → AreAppended later before after → AreCertified (claims ++ later) after
appended_all claims later before after are all = subst (AreCertified (claims ++ later)) (sym all.whole) (certified_all claims later before all.more are all.certified)

pub appended_more : (claims later : List RegisterClaim) (before middle after : List HintCertificate) → AreAppended claims before middle → AreAppended later middle after → AreAppended (claims ++ later) before after
appended_more claims later before middle after all one = record {
  more = all.more ++ one.more;
  whole = one.whole ∙ (ap (λ l. l ++ one.more) all.whole ∙ append_assoc before all.more one.more);
  certified = certified_all claims later all.more one.more all.certified one.certified;
}

-- what stands before is left
pub taken_back : (before after : List HintCertificate) → Grow before after → take (length before) after ≡ before
taken_back before after g = ap (take (length before)) g.whole ∙ go before
  where
    go : (xs : List HintCertificate) → take (length xs) (xs ++ g.more) ≡ xs
    go [] = refl
    go (x ∷ xs) = ap (λ l. x ∷ l) (go xs)

-- more and yet more
pub grow_none : (before : List HintCertificate) → Grow before before
grow_none before = record { more = []; whole = sym (append-nil before) }

pub grow_on : (before middle after : List HintCertificate) → Grow before middle → Grow middle after → Grow before after
grow_on before middle after g h = record { more = g.more ++ h.more; whole = h.whole ∙ (ap (λ l. l ++ h.more) g.whole ∙ append_assoc before g.more h.more) }

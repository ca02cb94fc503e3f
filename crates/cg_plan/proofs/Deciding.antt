-- What a decision says of a claim, and what decisions of claims one after another say.
use Rattle.std.proofs.Common.{◌≡◌, ℕ, Bool, true, false, if◌then◌else◌, List, [], ◌∷◌, ◌++◌, map, length, take, None}
use Rattle.std.proofs.Common.{Some, refl, sym, ◌∙◌, ap, subst, append_assoc}
use Rattle.std.proofs.lemmas.List.{append-nil}
use Rattle.std.proofs.lemmas.List.Elements.{All-append, All-cons, All-nil}
use Rattle.cg_aig.specs.Aig.{aig_ops}
use Rattle.cg_claim.specs.Build.{claim_run}
use Rattle.cg_claim.specs.Laws.{GoalViolates, NeverIsTried}
use Rattle.cg_claim.specs.LeafBits.{is_never}
use Rattle.cg_claim.specs.Leaves.{leaves_of, shown_leaf}
use Rattle.cg_claim.specs.Question.{Question}
use Rattle.cg_claim.specs.Violates.{SidesFit}
use Rattle.cg_claim.specs.declared.leaf.LeafBit.{LeafBit}
use Rattle.cg_claim.specs.declared.name.ClaimName.{ClaimName}
use Rattle.cg_cnf.specs.Clauses.{formula_of}
use Rattle.cg_decide.specs.Decision.{IsNeverOne}
use Rattle.cg_judge.specs.Verdict.{AreBits, IsGoal}
use Rattle.cg_hold.proofs.Decided.{decided_never, decided_sometimes, told}
use Rattle.cg_hold.proofs.ListNumber.{claim_number}
use Rattle.cg_lrat.specs.AcceptedLog.{IsAccepted}
use Rattle.cg_machine.specs.Machine.{IsMachine, MachineData}
use Rattle.cg_plan_laws.specs.StageClaims.{NamedClaim}
use Rattle.cg_plan_laws.specs.Reported.{AreAppended, AreCertified, Certifies, DoViolate, StageClaim}
use Rattle.cg_plan_laws.specs.Trying.{first_false}
use Rattle.cg_plan_laws.specs.declared.certificate.Certificate.{Certificate}
use Rattle.cg_plan.specs.Planning.{AreWritable, IsWritableCertificate}
use Rattle.cg_plan.specs.inner.Deciding.{AllCertified, Grow, IsDecided, numbered}
use Rattle.cg_unroll.specs.Claims.{IsClaim}
use Rattle.cg_unroll.specs.declared.claim.Claim.{Claim}
use Rattle.cg_hold.proofs.Alone.{map_length}

-- no more certificates
pub nothing_more : (before after : List Certificate) → after ≡ before → AreAppended [] before after
nothing_more before after is = record { more = []; whole = is ∙ sym (append-nil before); certified = refl }

module _ (goals : GoalViolates) (law : NeverIsTried) (m : MachineData) (q : Question) (width : ℕ) (claim : Claim) (good : IsMachine m) (fits : SidesFit m q.sides) (is : IsClaim m q width claim) where
  -- bits at which the goal is 1
  pub settled_bits : (seq : List LeafBit) → AreBits claim.aig claim.goal claim.leaves seq → (is_never m q ≡ false) × DoViolate m q seq
  settled_bits seq are =
      let bits : List Bool = map (λ (b : LeafBit). b.bit) seq in (
        sym (decided_sometimes law m q width claim good fits (told m q width claim is) bits are.one),
        record {
          leaves = are.leaves ∙ is.leaves;
          violated = sym (goals m q bits good fits) ∙ (sym (ap (λ s. aig_ops.bit s bits claim.goal) is.list ∙ ap (λ a. aig_ops.bit (claim_run m q).domain bits a) is.goal) ∙ are.one.one);
        },
      )

  -- a certificate that the goal is never 1, where proofs are wanted
  pub settled_never : (proof : Bool) (number : ℕ) (name : ClaimName) (before after : List Certificate) (certificate : Certificate) → proof ≡ true → IsNeverOne claim.aig claim.goal
      → certificate.stage ≡ number → certificate.claim ≡ name → certificate.formula ≡ formula_of claim.aig claim.goal → IsAccepted certificate.formula certificate.log → IsWritableCertificate certificate → after ≡ before ++ certificate ∷ []
      → IsDecided proof m number (name, q) before after None
  settled_never proof number name before after certificate wanted never stage_is name_is formula_is accepted writable whole = (
    sym (decided_never law m q width claim good fits (told m q width claim is) never),
    record {
      appended = subst (λ (b : Bool). AreAppended (if b then numbered m number ((name, q) ∷ []) else []) before after) (sym wanted)
          (record { more = certificate ∷ []; whole = whole; certified = (certifies, refl) });
      writable = λ are. subst AreWritable (sym whole) (All-append (λ (d : Certificate). IsWritableCertificate d) before (certificate ∷ []) are (All-cons (λ (d : Certificate). IsWritableCertificate d) certificate [] writable (All-nil (λ (d : Certificate). IsWritableCertificate d))));
    },
  )
    where
      certifies : Certifies (record { machine = m; number = number; claim = (name, q) }) certificate
      certifies = record {
        stage = stage_is;
        claim = name_is;
        formula = formula_is ∙ (ap (λ s. formula_of s claim.goal) is.list ∙ ap (formula_of (claim_run m q).domain) is.goal);
        accepted = accepted;
      }

  -- that the goal is never 1, where no proof is wanted
  pub settled_alone : (proof : Bool) (number : ℕ) (name : ClaimName) (items : List Certificate) → proof ≡ false → IsNeverOne claim.aig claim.goal → IsDecided proof m number (name, q) items items None
  settled_alone proof number name items unwanted never = (
    sym (decided_never law m q width claim good fits (told m q width claim is) never),
    record {
      appended = subst (λ (b : Bool). AreAppended (if b then numbered m number ((name, q) ∷ []) else []) items items) (sym unwanted) (nothing_more items items refl);
      writable = λ are. are;
    },
  )

-- a claim that is built has a goal
pub goal_is : (m : MachineData) (q : Question) (width : ℕ) (claim : Claim) → IsClaim m q width claim → IsGoal claim.aig claim.goal claim.leaves
goal_is m q width claim is = record {
  valid = is.valid;
  each_leaf = ap length is.leaves ∙ (map_length shown_leaf (leaves_of m q) ∙ sym (ap (λ s. s.number) is.list ∙ claim_number m q));
}

-- certificates of claims and of one more
certified_more : (claims more : List StageClaim) (first second : List Certificate) → AreCertified claims first → AreCertified more second → AreCertified (claims ++ more) (first ++ second)
certified_more [] more first second are next = subst (λ l. AreCertified more (l ++ second)) (sym are) next
certified_more (d ∷ claims) more [] second are next = absurd are
certified_more (d ∷ claims) more (e ∷ first) second are next = (are.0, certified_more claims more first second are.1 next)

appended_more : (claims more : List StageClaim) (before middle after : List Certificate) → AreAppended claims before middle → AreAppended more middle after → AreAppended (claims ++ more) before after
appended_more claims more before middle after first second = record {
  more = first.more ++ second.more;
  whole = second.whole ∙ (ap (λ l. l ++ second.more) first.whole ∙ append_assoc before first.more second.more);
  certified = certified_more claims more first.more second.more first.certified second.certified;
}

numbered_more : (m : MachineData) (number : ℕ) (claims : List NamedClaim) (c : NamedClaim) → numbered m number (claims ++ c ∷ []) ≡ numbered m number claims ++ numbered m number (c ∷ [])
numbered_more m number [] c = refl
numbered_more m number (d ∷ claims) c = ap (λ (l : List StageClaim). record { machine = m; number = number; claim = d } ∷ l) (numbered_more m number claims c)

pub all_more : (proof : Bool) (m : MachineData) (number : ℕ) (claims : List NamedClaim) (c : NamedClaim) (before middle after : List Certificate) → AllCertified proof m number claims before middle
    → AllCertified proof m number (c ∷ []) middle after → AllCertified proof m number (claims ++ c ∷ []) before after
all_more true m number claims c before middle after all one = record {
  appended = subst (λ l. AreAppended l before after) (sym (numbered_more m number claims c)) (appended_more (numbered m number claims) (numbered m number (c ∷ [])) before middle after all.appended one.appended);
  writable = λ are. one.writable (all.writable are);
}
all_more false m number claims c before middle after all one = record {
  appended = appended_more [] [] before middle after all.appended one.appended;
  writable = λ are. one.writable (all.writable are);
}

-- what stands before is left
pub taken_back : (before after : List Certificate) → Grow before after → take (length before) after ≡ before
taken_back before after g = ap (take (length before)) g.whole ∙ go before
  where
    go : (xs : List Certificate) → take (length xs) (xs ++ g.more) ≡ xs
    go [] = refl
    go (x ∷ xs) = ap (λ l. x ∷ l) (go xs)

-- the first false claim
pub false_on : (m : MachineData) (c : NamedClaim) (claims : List NamedClaim) → is_never m c.1 ≡ true → first_false m (c ∷ claims) ≡ first_false m claims
false_on m c claims never = ap (λ b. if b then first_false m claims else Some c.0) never

pub false_here : (m : MachineData) (c : NamedClaim) (claims : List NamedClaim) → is_never m c.1 ≡ false → first_false m (c ∷ claims) ≡ Some c.0
false_here m c claims some = ap (λ b. if b then first_false m claims else Some c.0) some

-- more and yet more
pub grow_on : (before middle after : List Certificate) → Grow before middle → Grow middle after → Grow before after
grow_on before middle after g h = record { more = g.more ++ h.more; whole = h.whole ∙ (ap (λ l. l ++ h.more) g.whole ∙ append_assoc before g.more h.more) }

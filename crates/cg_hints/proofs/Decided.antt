-- What a verdict says of a claim of a hint.
use Rattle.std.proofs.Common.{◌≡◌, ℕ, Bool, true, false, if◌then◌else◌, List, [], ◌∷◌, ◌++◌, map, length, None, Some, Result, Ok, Err, IfOk, IsTrue, refl, sym, ◌∙◌, ap, subst}
use Rattle.std.proofs.lemmas.Bool.{both_ways, false_from_ne_true}
use Rattle.cg_aig.specs.Aig.{aig_ops}
use Rattle.cg_cell.specs.Domain.{Seen}
use Rattle.cg_claim.specs.declared.leaf.Leaf.{Leaf}
use Rattle.cg_claim.specs.declared.leaf.LeafBit.{LeafBit}
use Rattle.cg_cnf.specs.Clauses.{IsOneAt, formula_of}
use Rattle.cg_decide.specs.Decision.{IsNeverOne}
use Rattle.cg_formula.specs.declared.formula.Formula.{Formula}
use Rattle.cg_judge.specs.Verdict.{AreBits, IsGoal}
use Rattle.cg_machine.specs.Machine.{IsMachine, MachineData}
use Rattle.cg_hint_laws.specs.Answers.{AreAppended, Certifies as CertifiesOne, DoViolate}
use Rattle.cg_hint_laws.specs.Build.{claim_run}
use Rattle.cg_hint_laws.specs.Laws.{GoalViolates, NeverIsTried}
use Rattle.cg_hint_laws.specs.Leaves.{width_of}
use Rattle.cg_hint_laws.specs.Question.{Question}
use Rattle.cg_hint_laws.specs.Trying.{claim_holds, question_of}
use Rattle.cg_hint_laws.specs.Violates.{IsAsked, goal_bit, is_never}
use Rattle.cg_hint_laws.specs.declared.certificate.HintCertificate.{HintCertificate}
use Rattle.cg_hint_laws.specs.declared.hint.Hint.{Hint}
use Rattle.cg_hint_laws.specs.declared.outcome.HintClaim.TheVariants.{Hold, Idle}
use Rattle.cg_hint_laws.specs.declared.outcome.HintOutcome.TheVariants.{NeverIdle, Refuted}
use Rattle.cg_hint_laws.proofs.Goals.{goal_number}
use Rattle.cg_hints.proofs.Appending.{appended_none}
use Rattle.cg_hints.specs.declared.standing.Standing.{Standing}
use Rattle.cg_hints.specs.declared.standing.Standing.TheVariants.{Large, Open, Settled}
use Rattle.cg_hints.specs.inner.Deciding.{CertifiesThese, Decides, certified}
use Rattle.cg_unroll.specs.declared.claim.Claim.{Claim}
use Rattle.cg_unroll_cycles.specs.Claims.{IsCycleClaim}

module _ (law : NeverIsTried) (m : MachineData) (q : Question) (width : ℕ) (claim : Claim) (good : IsMachine m) (asked : IsAsked m q) (is : IsCycleClaim m q width claim) where
  number_is : claim.aig.number ≡ width_of m q
  number_is = ap (λ (s : Seen). s.number) is.list ∙ goal_number m q good asked

  bit_is : (bits : List Bool) → aig_ops.bit claim.aig bits claim.goal ≡ goal_bit m q bits
  bit_is bits = ap (λ s. aig_ops.bit s bits claim.goal) is.list ∙ ap (λ a. aig_ops.bit (claim_run m q).domain bits a) is.goal

  pub goal_is : IsGoal claim.aig claim.goal claim.leaves
  goal_is = record { valid = is.valid; each_leaf = ap length is.leaves ∙ sym number_is }

  pub never_violated : IsNeverOne claim.aig claim.goal → is_never m q ≡ true
  never_violated never = (law m q good asked).1 (λ bits long. sym (bit_is bits) ∙ never bits (long ∙ sym number_is))

  pub is_violated : (bits : List Bool) → IsOneAt claim.aig claim.goal bits → is_never m q ≡ false
  is_violated bits one = false_from_ne_true (is_never m q) (λ tried. both_ways (goal_bit m q bits) ((law m q good asked).0 tried bits (one.each_leaf ∙ number_is)) (sym (bit_is bits) ∙ one.one))

  -- bits at which the goal is 1
  pub do_violate : GoalViolates → (seq : List LeafBit) → AreBits claim.aig claim.goal claim.leaves seq → DoViolate m q seq
  do_violate goals seq are =
      let bits : List Bool = map (λ (b : LeafBit). b.bit) seq in
      record {
        leaves = are.leaves ∙ is.leaves;
        violated = sym (goals m q bits good asked) ∙ (sym (bit_is bits) ∙ are.one.one);
      }

  pub formula_said : (formula : Formula) → formula ≡ formula_of claim.aig claim.goal → formula ≡ formula_of (claim_run m q).domain (claim_run m q).answer
  formula_said formula said = said ∙ (ap (λ s. formula_of s claim.goal) is.list ∙ ap (formula_of (claim_run m q).domain) is.goal)

module _ (m : MachineData) (h : Hint) where
  -- the condition is never 0, or can be
  pub idle_never : claim_holds m h Idle ≡ true → Decides m h Idle (Settled NeverIdle)
  idle_never never = (ap (λ b. if b then Some (Ok NeverIdle) else None) never, (tt, refl))

  pub idle_sometimes : claim_holds m h Idle ≡ false → Decides m h Idle Open
  idle_sometimes some = ap (λ b. if b then Some (Ok NeverIdle) else None) some

  -- a register keeps its bit, or can change it
  pub hold_never : (r : ℕ) → claim_holds m h (Hold r) ≡ true → Decides m h (Hold r) Open
  hold_never r never = ap (λ b. if b then None else Some (Ok (Refuted (Hold r) []))) never

  pub hold_sometimes : (r : ℕ) (bits : List LeafBit) → claim_holds m h (Hold r) ≡ false → DoViolate m (question_of h (Hold r)) bits → Decides m h (Hold r) (Settled (Refuted (Hold r) bits))
  hold_sometimes r bits some violate = (ap (λ b. if b then None else Some (Ok (Refuted (Hold r) []))) some, (violate, refl))

  -- its certificate, where proofs are wanted
  pub hold_certified : (proof : Bool) (number r : ℕ) (before after : List HintCertificate) (certificate : HintCertificate) → proof ≡ true → after ≡ before ++ certificate ∷ []
      → CertifiesOne (record { machine = m; hint = h; number = number; register = r }) certificate → CertifiesThese proof number m h (Hold r ∷ []) before after Open
  hold_certified proof number r before after certificate wanted whole certifies =
      subst (λ (b : Bool). AreAppended (if b then certified number m h (Hold r ∷ []) else []) before after) (sym wanted) (record { more = certificate ∷ []; whole = whole; certified = (certifies, refl) })

  pub hold_uncertified : (proof : Bool) (number r : ℕ) (items : List HintCertificate) → proof ≡ false → CertifiesThese proof number m h (Hold r ∷ []) items items Open
  hold_uncertified proof number r items unwanted =
      subst (λ (b : Bool). AreAppended (if b then certified number m h (Hold r ∷ []) else []) items items) (sym unwanted) (appended_none items items refl)

  -- that the condition can be 0 has none
  idle_certified : (proof : Bool) (number : ℕ) (items : List HintCertificate) → CertifiesThese proof number m h (Idle ∷ []) items items Open
  idle_certified proof number items = go proof
    where
      go : (b : Bool) → AreAppended (if b then [] else []) items items
      go true = appended_none items items refl
      go false = appended_none items items refl

  pub idle_certifies : {E : Type 0} (proof : Bool) (number : ℕ) (items : List HintCertificate) (r : Result Standing E) → IfOk r (CertifiesThese proof number m h (Idle ∷ []) items items)
  idle_certifies proof number items (Ok Open) = idle_certified proof number items
  idle_certifies proof number items (Ok (Settled end)) = tt
  idle_certifies proof number items (Ok Large) = tt
  idle_certifies proof number items (Err e) = tt

-- a goal that stands by another name
pub goal_there : (s t : Seen) (g k : ℕ) (leaves given : List Leaf) → t ≡ s → k ≡ g → given ≡ leaves → IsGoal s g leaves → IsGoal t k given
goal_there s t g k leaves given lists goals same is = record {
  valid = subst (λ z. IsTrue (aig_ops.is_valid z k)) (sym lists) (subst (λ z. IsTrue (aig_ops.is_valid s z)) (sym goals) is.valid);
  each_leaf = ap length same ∙ (is.each_leaf ∙ sym (ap (λ (z : Seen). z.number) lists));
}

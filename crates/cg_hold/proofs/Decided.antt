-- What a decision says of a claim.
use Rattle.std.proofs.Common.{◌≡◌, ℕ, Bool, true, false, List, None, Option, Some, refl, sym, ◌∙◌, ap, subst, inl}
use Rattle.std.proofs.Common.{inr}
use Rattle.std.proofs.lemmas.Bool.{both_ways, cases_Bool}
use Rattle.std.specs.Option.{IfSome}
use Rattle.std.specs.Prelude.{is_none, is_some, not}
use Rattle.std.specs.declared.alloc.Global.{Global}
use Rattle.std.specs.declared.vec.Vec.{Vec}
use Rattle.cg_aig.specs.Aig.{aig_ops}
use Rattle.cg_claim.specs.Build.{claim_run}
use Rattle.cg_claim.specs.Laws.{NeverIsTried, goal_bit}
use Rattle.cg_claim.specs.LeafBits.{is_never}
use Rattle.cg_claim.specs.Leaves.{width_of}
use Rattle.cg_claim.specs.Question.{Question}
use Rattle.cg_claim.specs.Violates.{SidesFit}
use Rattle.cg_cnf.specs.Clauses.{IsOneAt}
use Rattle.cg_cell.specs.Domain.{Seen}
use Rattle.cg_decide.specs.Decision.{IsExact, IsNeverOne}
use Rattle.cg_decide.specs.declared.decision.Decision.{Decision}
use Rattle.cg_decide.specs.declared.decision.Decision.TheVariants.{Never, Sometimes}
use Rattle.cg_formula.specs.declared.formula.Formula.{Formula}
use Rattle.cg_lrat.specs.declared.log.Log.{Log}
use Rattle.cg_hold.proofs.ListNumber.{claim_number}
use Rattle.cg_machine.specs.Machine.{IsMachine, MachineData}
use Rattle.cg_unroll.specs.Claims.{IsClaim}
use Rattle.cg_unroll.specs.Holding.{TellsClaim}
use Rattle.cg_unroll.specs.declared.claim.Claim.{Claim}

-- a claim that was built tells itself
pub told : (m : MachineData) (q : Question) (width : ℕ) (claim : Claim) → IsClaim m q width claim → TellsClaim m q width claim
told m q width claim is = record {
  number = ap (λ (s : Seen). s.number) is.list;
  bits = λ bits. ap (λ (s : Seen). aig_ops.bit s bits claim.goal) is.list ∙ ap (λ a. aig_ops.bit (claim_run m q).domain bits a) is.goal;
  leaves = is.leaves;
  narrow = is.narrow;
  small = is.small;
  valid = is.valid;
}

module _ (law : NeverIsTried) (m : MachineData) (q : Question) (width : ℕ) (claim : Claim) (good : IsMachine m) (fits : SidesFit m q.sides) (tells : TellsClaim m q width claim) where
  number_is : claim.aig.number ≡ width_of m q
  number_is = tells.number ∙ claim_number m q

  pub decided_never : IsNeverOne claim.aig claim.goal → true ≡ is_never m q
  decided_never never = sym ((law m q good fits).1 (λ bits long. sym (tells.bits bits) ∙ never bits (long ∙ sym number_is)))

  pub decided_sometimes : (bits : List Bool) → IsOneAt claim.aig claim.goal bits → false ≡ is_never m q
  decided_sometimes bits one = elim (cases_Bool (is_never m q)) [
    | inl tried ↦ absurd (both_ways (goal_bit m q bits) ((law m q good fits).0 tried bits (one.each_leaf ∙ number_is)) (sym (tells.bits bits) ∙ one.one))
    | inr other ↦ sym other
  ]

  -- whether bits were found that violate it
  pub found : (o : Option (Vec Bool Global)) → (o ≡ None → IsNeverOne claim.aig claim.goal) → IfSome o (λ bits. IsOneAt claim.aig claim.goal bits.items) → is_none o ≡ is_never m q
  found None never some = decided_never (never refl)
  found (Some bits) never some = decided_sometimes bits.items some

-- whether nothing was found, as it is told
pub none_told : (o : Option (Vec Bool Global)) (b : Bool) → is_some o ≡ not b → b ≡ is_none o
none_told None true is = refl
none_told None false is = absurd (cc)
none_told (Some bits) true is = absurd (cc)
none_told (Some bits) false is = refl

-- what is found in a list that is the claim's
pub found_there : (s t : Seen) (g h : ℕ) (o : Option (Vec Bool Global)) → s ≡ t → g ≡ h → IfSome o (λ bits. IsOneAt s g bits.items) → IfSome o (λ bits. IsOneAt t h bits.items)
found_there s t g h o same goals is = subst (λ z. IfSome o (λ bits. IsOneAt z h bits.items)) same (subst (λ z. IfSome o (λ bits. IsOneAt s z bits.items)) goals is)

pub never_there : (s t : Seen) (g h : ℕ) (o : Option (Vec Bool Global)) → s ≡ t → g ≡ h → (o ≡ None → IsNeverOne s g) → o ≡ None → IsNeverOne t h
never_there s t g h o same goals is none = subst (λ z. IsNeverOne z h) same (subst (λ z. IsNeverOne s z) goals (is none))

-- a decision, as it is told
pub exactly_never : (s : Seen) (g : ℕ) (d : Decision) (f : Formula) (log : Log) → IsExact s g d → d ≡ Never f log → IsNeverOne s g
exactly_never s g d f log exact is = subst (IsExact s g) is exact

pub exactly_sometimes : (s : Seen) (g : ℕ) (d : Decision) (bits : Vec Bool Global) → IsExact s g d → d ≡ Sometimes bits → IsOneAt s g bits.items
exactly_sometimes s g d bits exact is = subst (IsExact s g) is exact

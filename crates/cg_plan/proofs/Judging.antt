-- What comes of a stage by its claims, one after the other, and of one that is not inserted.
use Rattle.std.proofs.Common.{◌≡◌, ℕ, Bool, true, false, if◌then◌else◌, List, [], ◌∷◌, ◌++◌, slice_get, Option}
use Rattle.std.proofs.Common.{None, Some, Ok, refl, sym, ◌∙◌, ap, subst}
use Rattle.cg_machine.specs.Machine.{MachineData}
use Rattle.cg_machine.specs.declared.stage.Stage.{Stage}
use Rattle.cg_claim.specs.LeafBits.{is_never}
use Rattle.cg_claim.specs.Question.{Question, idle_question}
use Rattle.cg_claim.specs.declared.name.ClaimName.{ClaimName}
use Rattle.cg_plan_laws.specs.Plan.{is_inserted}
use Rattle.cg_plan_laws.specs.StageClaims.{NamedClaim, claims_of}
use Rattle.cg_plan_laws.specs.Reported.{AreAppended, IsBacked, certified_claims, claims_for, without_bits}
use Rattle.cg_plan_laws.specs.Trying.{Ends, Tried, decided, first_false, measured, unless_false}
use Rattle.cg_plan_laws.specs.declared.certificate.Certificate.{Certificate}
use Rattle.cg_plan_laws.specs.declared.outcome.Outcome.{Outcome}
use Rattle.cg_plan_laws.specs.declared.outcome.Outcome.TheVariants.{NeverIdle}
use Rattle.cg_plan.specs.Planning.{AreWritable, StayWritable}
use Rattle.cg_plan.specs.inner.Deciding.{Settles}
use Rattle.cg_plan.specs.inner.Judging.{IsJudged, IsSettled}
use Rattle.cg_plan.specs.inner.Measuring.{wide_end}
use Rattle.cg_plan.proofs.Deciding.{all_more, false_here, false_on, nothing_more}
use Rattle.cg_plan.proofs.Measuring.{ends_wide, measured_end}

-- an outcome without bits, of a stage that is not inserted
record IsPlain (m : MachineData) (s : Stage) (outcome : Outcome) : Type 0 where
  bits : without_bits outcome ≡ outcome
  backed : IsBacked m s outcome
  ends : is_inserted outcome ≡ false

plain_ends : (m : MachineData) (s : Stage) (given : Tried) (outcome : Outcome) → IsPlain m s outcome → given ≡ Ends outcome → IsJudged m s given (Some outcome)
plain_ends m s given outcome plain is = ((is ∙ ap Ends (sym plain.bits), plain.backed), plain.ends)

-- a stage with a claim that is too wide
pub wide_ends : (m : MachineData) (s : Stage) (width : ℕ) (c : NamedClaim) (claims : List NamedClaim) (later : Tried) (end : Outcome) → wide_end m width c ≡ Ok (Some end)
    → IsJudged m s (measured m width (c ∷ claims) later) (Some end)
wide_ends m s width c claims later end is =
    let w = ends_wide m width c end is in
    plain_ends m s (measured m width (c ∷ claims) later) end (subst (IsPlain m s) (sym w.1) (record { bits = refl; backed = tt; ends = refl })) (measured_end m width c claims later end is)

module _ (proof : Bool) (m : MachineData) (number : ℕ) (s : Stage) where
  -- what is left by whether a stage can idle
  decided_by : (b : Bool) → is_never m (idle_question s.enable) ≡ b → decided m s ≡ (if b then Ends NeverIdle else unless_false m s (first_false m (claims_of m s)))
  decided_by b is = ap (λ (never : Bool). if never then Ends NeverIdle else unless_false m s (first_false m (claims_of m s))) is

  -- the next claim has its turn
  pub settled_next : (i : ℕ) (name : ClaimName) (q : Question) (done rest : List NamedClaim) (before middle after : List Certificate) (was now : Option Outcome)
      → slice_get (claims_of m s) i ≡ Some (name, q) → IsSettled proof m number s done ((name, q) ∷ rest) before middle was → Settles proof m number (name, q) middle after was now
      → IsSettled proof m number s (done ++ (name, q) ∷ []) rest before after now
  settled_next i name q done rest before middle after (Some end) now at is next = subst (IsSettled proof m number s (done ++ (name, q) ∷ []) rest before after) (sym next) is
  settled_next i name q done rest before middle after None None at is next = record {
    idle = is.idle;
    left = sym (false_on m (name, q) rest next.0) ∙ is.left;
    certified = all_more proof m number done (name, q) before middle after is.certified next.1;
  }
  settled_next i name q done rest before middle after None (Some end) at is next =
      let given = decided_by false is.idle ∙ ap (unless_false m s) (sym is.left ∙ false_here m (name, q) rest next.0) in
      subst (λ (o : Outcome). IsJudged m s (decided m s) (Some o)) (sym next.1.is) ((given, record { place = i; question = q; named = at; violate = next.1.violate }), refl)

-- a stage that is not inserted has no certificates
pub appended_none : (proof : Bool) (m : MachineData) (s : Stage) (number : ℕ) (before after : List Certificate) (outcome : Outcome) → is_inserted outcome ≡ false → after ≡ before
    → AreAppended (if proof then claims_for number m s outcome else []) before after
appended_none true m s number before after outcome ends is = subst (λ (b : Bool). AreAppended (if b then certified_claims number m s else []) before after) (sym ends) (nothing_more before after is)
appended_none false m s number before after outcome ends is = nothing_more before after is

pub writable_same : (before after : List Certificate) → after ≡ before → StayWritable before after
writable_same before after is = λ are. subst AreWritable (sym is) are

-- What is proved of claims, each law by its name.
use Rattle.std.proofs.Common.{◌≡◌, ℕ, Bool, true, false, not, ◌&&◌, List, [], ◌∷◌, map, length, refl, sym, ◌∙◌, arith}
use Rattle.std.proofs.lemmas.List.{length-map}
use Rattle.cg_cell.specs.declared.fit.FitKind.{FitKind}
use Rattle.cg_cell.specs.declared.fit.FitKind.TheVariants.{Gater, TestGater, Inv, And2, Or2}
use Rattle.cg_aig.proofs.GateRuns.{and_run, inverter_run, or_run}
use Rattle.cg_machine.specs.Claims.{CanIdle, any_at}
use Rattle.cg_machine.specs.Gates.{HasInputs, gate_cover}
use Rattle.cg_machine.specs.Machine.{values, walk_of}
use Rattle.cg_netlist.specs.declared.parts.LogicFunction.TheVariants.{Cover}
use Rattle.cg_claim.specs.Build.{aig_values, cell_run}
use Rattle.cg_claim.specs.Laws.{ApartIsUnseen, ConeIsReached, EndAlike, GatesAreOperations, GoalViolates, HoldIsSaid}
use Rattle.cg_claim.specs.Laws.{HoldLeavesAreSame, IdleGoal, IdleIsSaid, IsSometimesOne, NeverIsTried, StableIsSaid, TargetsSuffice}
use Rattle.cg_claim.specs.Laws.{UnseenIsSaid, gate_run}
use Rattle.cg_claim.specs.LeafBits.{free_of}
use Rattle.cg_claim.specs.Leaves.{Leaf, leaves_of}
use Rattle.cg_claim.specs.Question.{hold_question, idle_question, stable_question, unseen_question}
use Rattle.cg_claim.specs.Violates.{Free}
use Rattle.cg_claim.specs.inner.Copies.{source_bit}
use Rattle.cg_claim.proofs.AllTargets.{all_unseen}
use Rattle.cg_claim.proofs.Apart.{apart_unseen}
use Rattle.cg_claim.proofs.ClaimsHold.{hold_never, idle_some, never_hold, never_stable, never_unseen, some_idle, stable_never}
use Rattle.cg_claim.proofs.ClaimsHold.{unseen_never}
use Rattle.cg_netlist_cone.proofs.Cones.{cone_is}
use Rattle.cg_claim.proofs.GoalBits.{claim_says, free_agrees, free_is, goal_at}
use Rattle.cg_claim.proofs.LeavesFound.{found_bit, leaf_among}
use Rattle.cg_claim.proofs.HoldWidths.{hold_leaves}
use Rattle.cg_claim.proofs.Tried.{is_never_says}

pub goal_violates : GoalViolates
goal_violates m q bits good fits = goal_at m q good fits bits (free_of m (leaves_of m q) bits) (free_is m q bits) (free_agrees m q bits)

pub idle_goal : IdleGoal
idle_goal m E bits good =
    let w : Free = free_of m (leaves_of m (idle_question E)) bits in
    goal_violates m (idle_question E) bits good tt ∙ and_one (not (any_at (values m w.s0 w.x0) E))
  where
    and_one : (b : Bool) → (b && true) ≡ b
    and_one true = refl
    and_one false = refl

pub never_is_tried : NeverIsTried
never_is_tried m q good fits =
    let tried = is_never_says m q good fits in
    let says = claim_says m q good fits in
    ((λ is. says.1 (tried.0 is)), (λ never. tried.1 (says.0 never)))

pub hold_is_said : HoldIsSaid
hold_is_said m e r good below =
    let says = claim_says m (hold_question e r) good (below, below) in
    ((λ never. never_hold m e r (says.0 never)), (λ hold. says.1 (hold_never m e r hold)))

pub stable_is_said : StableIsSaid
stable_is_said m E r good below =
    let says = claim_says m (stable_question E r) good (below, below) in
    ((λ never. never_stable m E r (says.0 never)), (λ stable. says.1 (stable_never m E r stable)))

pub unseen_is_said : UnseenIsSaid
unseen_is_said m E Q G t good fit =
    let says = claim_says m (unseen_question E Q G t) good (fit, fit) in
    ((λ never. never_unseen m E Q G t (says.0 never)), (λ unseen. says.1 (unseen_never m E Q G t unseen)))

pub idle_is_said : IdleIsSaid
idle_is_said m E good =
    let q = idle_question E in
    let leaves = leaves_of m q in (
      (λ (one : IsSometimesOne m q). some_idle m E (free_of m leaves one.bits) (free_is m q one.bits) (sym (goal_at m q good tt one.bits (free_of m leaves one.bits) (free_is m q one.bits) (free_agrees m q one.bits)) ∙ one.one)),
      (λ (can : CanIdle m E).
          let w = idle_some m E can in
          let f : Leaf → Bool = λ (l : Leaf). source_bit m w.0 l.copy l.source in
          record {
            bits = map f leaves;
            long = length-map leaves f;
            one = goal_at m q good tt (map f leaves) w.0 w.1 (λ copy source is reached. found_bit f leaves (record { copy = copy; source = source }) (leaf_among m q copy source is reached)) ∙ w.2;
          }),
    )

pub cone_is_reached : ConeIsReached
cone_is_reached m roots y good = cone_is m.circuit.cells (walk_of m) good.walk roots y

pub hold_leaves_are_same : HoldLeavesAreSame
hold_leaves_are_same m e r good among = hold_leaves m good e r among

pub apart_is_unseen : ApartIsUnseen
apart_is_unseen m E Q G t good fit none = apart_unseen m E Q G t good fit none

pub targets_suffice : TargetsSuffice
targets_suffice m E Q G good never t is = all_unseen m E Q G good never t is

pub gates_are_operations : GatesAreOperations
gates_are_operations gate t fits = go gate.kind gate.inputs fits
  where
    go : (kind : FitKind) (inputs : List ℕ) → HasInputs kind (length inputs)
        → EndAlike (cell_run aig_values (record { inputs = inputs; output = gate.output; function = Cover (gate_cover kind) }) t) (gate_run kind (map t.at inputs) t.domain)
    go Inv (a ∷ []) h = let e = inverter_run (t.at a) t.domain in record { answer = e.answer; domain = e.domain }
    go And2 (a ∷ b ∷ []) h = let e = and_run (t.at a) (t.at b) t.domain in record { answer = e.answer; domain = e.domain }
    go Or2 (a ∷ b ∷ []) h = let e = or_run (t.at a) (t.at b) t.domain in record { answer = e.answer; domain = e.domain }
    go Inv [] h = absurd (omega (arith, h))
    go Inv (a ∷ b ∷ ins) h = absurd (omega (arith, h))
    go And2 [] h = absurd (omega (arith, h))
    go And2 (a ∷ []) h = absurd (omega (arith, h))
    go And2 (a ∷ b ∷ c ∷ ins) h = absurd (omega (arith, h))
    go Or2 [] h = absurd (omega (arith, h))
    go Or2 (a ∷ []) h = absurd (omega (arith, h))
    go Or2 (a ∷ b ∷ c ∷ ins) h = absurd (omega (arith, h))
    go Gater ins h = absurd h
    go TestGater ins h = absurd h

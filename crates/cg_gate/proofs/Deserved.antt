-- The stage of a turn is inserted exactly where it is worth it: a turn has an outcome, so no limit was passed at it.
use Rattle.std.proofs.Common.{◌≡◌, ◌↔◌, ◌+◌, ◌<◌, ◌≤◌, ℕ, suc, Bool, true, false, if◌then◌else◌, List, [], ◌∷◌, ◌++◌, map, length}
use Rattle.std.proofs.Common.{nat_lt, slice_get, slice_index_or, Option, None, Some, refl, sym, ◌∙◌, ap, arith}
use Rattle.std.specs.List.{All}
use Rattle.std.proofs.lemmas.Bool.{both_ways, false_from_ne_true, le-ltb}
use Rattle.std.proofs.lemmas.List.Elements.{All-append, All-cons, All-filter, All-head, All-map, All-nil, All-tail}
use Rattle.cg_cell.specs.Cell.{CellData}
use Rattle.cg_claim.specs.LeafBits.{is_never}
use Rattle.cg_claim.specs.Leaves.{width_of}
use Rattle.cg_claim.specs.Question.{hold_question, idle_question, stable_question, unseen_question}
use Rattle.cg_claim.specs.Reach.{registers_of}
use Rattle.cg_claim.specs.Targets.{all_targets, meets, output_targets, unseen_targets}
use Rattle.cg_claim.specs.Violates.{violates}
use Rattle.cg_claim.specs.declared.name.ClaimName.{ClaimName}
use Rattle.cg_claim.specs.declared.name.ClaimName.TheVariants.{Enable, Hold as HoldName, Next as NextName, Output}
use Rattle.cg_claim.specs.declared.name.ClaimName.TheVariants.{Stable as StableName}
use Rattle.cg_claim.proofs.ClaimsHold.{hold_never, idle_some, stable_never, unseen_never}
use Rattle.cg_claim.proofs.Tried.{is_never_says}
use Rattle.cg_limit.specs.declared.Limit.{Limit}
use Rattle.cg_limit.specs.declared.Limit.TheVariants.{ClaimNodes}
use Rattle.cg_stage_list_laws.specs.HoldList.{is_large}
use Rattle.cg_machine.specs.Claims.{CanIdle, Joined, Next, Shown, Target}
use Rattle.cg_machine.specs.Machine.{IsMachine, MachineData}
use Rattle.cg_machine.specs.declared.stage.Stage.{Stage}
use Rattle.cg_machine.specs.declared.stage.StageKind.{StageKind}
use Rattle.cg_machine.specs.declared.stage.StageKind.TheVariants.{Hold, Stable, Unseen}
use Rattle.cg_net.specs.NetSets.{is_in}
use Rattle.cg_net.proofs.Members.{All-from_members}
use Rattle.cg_plan_laws.specs.Laws.{IsInsertable, IsTurn}
use Rattle.cg_plan_laws.specs.Plan.{Turn}
use Rattle.cg_plan_laws.specs.StageClaims.{NamedClaim, all_claims, claims_by, claims_of, target_claim}
use Rattle.cg_plan_laws.specs.Trying.{Ends, Passes, Tried, decided, first_false, measured, tried, unless_false, unless_missing}
use Rattle.cg_plan_laws.specs.Trying.{unless_passed}
use Rattle.cg_plan_laws.specs.declared.outcome.Outcome.{Outcome}
use Rattle.cg_plan_laws.specs.declared.outcome.Outcome.TheVariants.{Inserted, NeverIdle, Small, Wide}
use Rattle.cg_plan_laws.specs.declared.settings.Settings.{Settings}
use Rattle.cg_plan_laws.proofs.Decided.{fits_part}
use Rattle.cg_plan_laws.proofs.Exactly.{inserted_exactly}
use Rattle.cg_stage_laws.specs.Effects.{limit_by}
use Rattle.cg_stage_laws.specs.Needs.{missing, needs}
use Rattle.cg_stage_laws.specs.Stages.{ClaimsHold, Fits, IsTarget, first_literal}
use Rattle.cg_gate.specs.WorthInserting.{IsWorthInserting}
use Rattle.cg_netlist.proofs.Driven.{in_range}

abbrev IsNever : MachineData → NamedClaim → Type 0
IsNever m c = is_never m c.1 ≡ true

module _ (m : MachineData) where
  -- the targets are the machine's
  abbrev IsThere : ClaimName × Target → Type 0
  IsThere t = IsTarget m t.1

  outputs_there : (ys : List ℕ) (k : ℕ) → All (λ y. is_in m.circuit.outputs y ≡ true) ys → All IsThere (output_targets k ys)
  outputs_there [] k all = All-nil IsThere
  outputs_there (y ∷ ys) k all =
      let Q : ℕ → Type 0 = λ z. is_in m.circuit.outputs z ≡ true in
      All-cons IsThere (Output k, Shown y) (output_targets (k + 1) ys) (All-head Q y ys all) (outputs_there ys (k + 1) (All-tail Q y ys all))

  registers_there : All (λ r. r < length m.circuit.registers) (registers_of m)
  registers_there = All-from_members (λ r. r < length m.circuit.registers) (registers_of m) (λ r among. let b = in_range (length m.circuit.registers) 0 r among in omega (arith, b.1))

  targets_there : All IsThere (all_targets m)
  targets_there =
      let shown : List (ClaimName × Target) = output_targets 0 m.circuit.outputs in
      let nexts : List (ClaimName × Target) = map (λ (r : ℕ). (NextName r, Next r)) (registers_of m) in
      All-append IsThere (shown ++ nexts) ((Enable, Joined) ∷ [])
      (All-append IsThere shown nexts (outputs_there m.circuit.outputs 0 (All-from_members (λ y. is_in m.circuit.outputs y ≡ true) m.circuit.outputs (λ y among. among)))
      (All-map IsThere (λ (r : ℕ). (NextName r, Next r)) (registers_of m) registers_there))
      (All-cons IsThere (Enable, Joined) [] tt (All-nil IsThere))

  -- the first claim that is false, where none is
  none_false : (claims : List NamedClaim) → All (IsNever m) claims → first_false m claims ≡ None
  none_false [] all = refl
  none_false (c ∷ claims) all = ap (λ b. if b then first_false m claims else Some c.0) (All-head (IsNever m) c claims all) ∙ none_false claims (All-tail (IsNever m) c claims all)

  -- claims that are all narrow are passed, unless one is too large, and then there is no outcome
  measured_on : (width : ℕ) (claims : List NamedClaim) (later : Tried) (o : Outcome) → ((k : ℕ) (c : NamedClaim) → slice_get claims k ≡ Some c → width_of m c.1 ≤ width) → measured m width claims later ≡ Ends o → later ≡ Ends o
  measured_on width [] later o narrow h = h
  measured_on width (c ∷ claims) later o narrow h = go (measured_on width claims later o (λ k d at. narrow (suc k) d at)) (nat_lt width (width_of m c.1)) (le-ltb width (width_of m c.1) (narrow 0 c refl)) (is_large m c.1) h
    where
      go : (measured m width claims later ≡ Ends o → later ≡ Ends o) → (a : Bool) → a ≡ false → (b : Bool)
          → (if a then Ends (Wide c.0 (width_of m c.1)) else (if b then Passes ClaimNodes else measured m width claims later)) ≡ Ends o → later ≡ Ends o
      go rest true is b k = absurd (cc)
      go rest false is true k = absurd (cc)
      go rest false is false k = rest k

  module _ (s : Stage) (good : IsMachine m) (fits : Fits m s) where
    below : (r : ℕ) → is_in s.regs r ≡ true → r < length m.circuit.registers
    below r among = let b = fits.registers r among in omega (arith, b, good.own_registers)

    -- claims that hold are never violated
    each_never : (k : StageKind) → ClaimsHold k m s → All (IsNever m) (claims_by k m s)
    each_never Hold holds =
        let l = first_literal s.enable in
        All-map (IsNever m) (λ r. (HoldName r, hold_question l r)) s.regs (All-from_members (λ r. is_never m (hold_question l r) ≡ true) s.regs (λ r among.
        (is_never_says m (hold_question l r) good (below r among, below r among)).1 (hold_never m l r (holds r among))))
    each_never Stable holds =
        All-map (IsNever m) (λ r. (StableName r, stable_question s.enable r)) s.regs (All-from_members (λ r. is_never m (stable_question s.enable r) ≡ true) s.regs (λ r among.
        (is_never_says m (stable_question s.enable r) good (below r among, below r among)).1 (stable_never m s.enable r (holds r among))))
    each_never Unseen holds =
        let Q : ClaimName × Target → Type 0 = λ t. is_never m (unseen_question s.enable s.guards s.regs t.1) ≡ true in
        let one : (t : ClaimName × Target) → IsThere t → Q t = λ t is.
        (is_never_says m (unseen_question s.enable s.guards s.regs t.1) good (fits_part m t.1 is, fits_part m t.1 is)).1 (unseen_never m s.enable s.guards s.regs t.1 (holds t.1 is)) in
        All-map (IsNever m) (target_claim s) (unseen_targets m s.enable s.regs) (All-filter (λ t. meets m s.enable s.regs t.1) Q (all_targets m) (λ k d within. one (slice_index_or (all_targets m) k d) (targets_there k d within)))

    idle_never : CanIdle m s.enable → is_never m (idle_question s.enable) ≡ false
    idle_never can = false_from_ne_true (is_never m (idle_question s.enable)) (λ never.
        let w = idle_some m s.enable can in
        both_ways (violates m (idle_question s.enable) w.0) ((is_never_says m (idle_question s.enable) good tt).0 never w.0 w.1) w.2)

    module _ (library : List CellData) (settings : Settings) (o : Outcome) where
      -- a worthy stage comes as far as the limits, and an outcome there is that it is inserted
      inserted_worthy : IsWorthInserting library settings m s → tried library settings m s ≡ Ends o → o ≡ Inserted
      inserted_worthy w h = last (limit_by s.kind m s) (sym decides ∙ measured_on settings.width (all_claims m s) (decided m s) o w.narrow (sym comes ∙ h))
        where
          comes : tried library settings m s ≡ measured m settings.width (all_claims m s) (decided m s)
          comes =
              ap (λ b. if b then Ends (Small (length s.regs)) else unless_missing m settings s (missing library (needs settings.test s))) (le-ltb (length s.regs) settings.min w.large)
              ∙ ap (unless_missing m settings s) w.cells

          decides : decided m s ≡ unless_passed (limit_by s.kind m s)
          decides =
              ap (λ b. if b then Ends NeverIdle else unless_false m s (first_false m (claims_of m s))) (idle_never w.idles)
              ∙ ap (unless_false m s) (none_false (claims_of m s) (each_never s.kind w.holds))

          last : (l : Option Limit) → unless_passed l ≡ Ends o → o ≡ Inserted
          last None is = cc
          last (Some l) is = absurd (cc)

      worthy : IsInsertable library settings m s → IsWorthInserting library settings m s
      worthy d = record { large = d.large; cells = d.cells; narrow = λ k c at. (d.narrow k c at).0; idles = d.idles; holds = d.holds }

pub exactly_worthy : (library : List CellData) (settings : Settings) (turn : Turn) → IsTurn library settings turn → (turn.outcome ≡ Inserted) ↔ IsWorthInserting library settings turn.machine turn.stage
exactly_worthy library settings turn its =
    let m : MachineData = turn.machine in
    let s : Stage = turn.stage in (
      λ same. worthy m s its.is_machine its.fits library settings turn.outcome ((inserted_exactly library settings m s its.is_machine its.fits).0 (its.comes ∙ ap Ends same)),
      λ is. inserted_worthy m s its.is_machine its.fits library settings turn.outcome is its.comes,
    )

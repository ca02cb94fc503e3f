-- What is known where a stage is inserted: its claims hold, and no limit is passed.
use Rattle.std.proofs.Common.{◌≡◌, ℕ, ◌+◌, ◌<◌, Bool, true, false, if◌then◌else◌, List, [], ◌∷◌, ◌++◌, map, length}
use Rattle.std.proofs.Common.{nat_eq, nat_lt, Option, None, Some, refl, sym, ◌∙◌, ap, arith, ◌⊎◌, inl, inr}
use Rattle.std.proofs.lemmas.Bool.{both_ways, cases_Bool, eqb-true, or_cases}
use Rattle.cg_cell.specs.Cell.{CellData}
use Rattle.cg_cell.specs.declared.fit.FitKind.{FitKind}
use Rattle.cg_limit.specs.declared.Limit.{Limit}
use Rattle.cg_limit.specs.declared.Limit.TheVariants.{ClaimNodes}
use Rattle.cg_net.specs.NetSets.{is_in}
use Rattle.cg_machine.specs.Claims.{Joined, Next, Shown, Target}
use Rattle.cg_machine.specs.Machine.{IsMachine, MachineData}
use Rattle.cg_machine.specs.declared.stage.Stage.{Stage}
use Rattle.cg_machine.specs.declared.stage.StageKind.{StageKind}
use Rattle.cg_machine.specs.declared.stage.StageKind.TheVariants.{Hold, Stable, Unseen}
use Rattle.cg_claim.specs.LeafBits.{is_never}
use Rattle.cg_claim.specs.Leaves.{width_of}
use Rattle.cg_claim.specs.Question.{Question, hold_question, idle_question, stable_question, target_part, unseen_question}
use Rattle.cg_claim.specs.Reach.{registers_of}
use Rattle.cg_claim.specs.Targets.{all_targets, meets, output_targets, unseen_targets}
use Rattle.cg_claim.specs.Violates.{CopyPartFits}
use Rattle.cg_claim.specs.declared.name.ClaimName.{ClaimName}
use Rattle.cg_claim.specs.declared.name.ClaimName.TheVariants.{Enable, Hold as HoldName, Next as NextName, Output}
use Rattle.cg_claim.specs.declared.name.ClaimName.TheVariants.{Stable as StableName}
use Rattle.cg_claim.proofs.Apart.{apart_unseen}
use Rattle.cg_claim.proofs.ClaimsHold.{never_hold, never_stable, never_unseen}
use Rattle.cg_claim.proofs.Tried.{is_never_says}
use Rattle.cg_stage_laws.specs.Effects.{limit_by}
use Rattle.cg_stage_laws.specs.Needs.{missing, needs}
use Rattle.cg_stage_laws.specs.Stages.{ClaimsHold, IsTarget, first_literal}
use Rattle.cg_stage_list_laws.specs.HoldList.{is_large}
use Rattle.cg_stage_list_laws.proofs.Among.{Among, among_cons, among_none, in_back, in_filter, in_front, in_map, later}
use Rattle.cg_plan_laws.specs.StageClaims.{NamedClaim, all_claims, claims_by, claims_of, target_claim}
use Rattle.cg_plan_laws.specs.Trying.{Ends, Passes, Tried, decided, first_false, measured, tried, unless_false, unless_missing}
use Rattle.cg_plan_laws.specs.Trying.{unless_passed}
use Rattle.cg_plan_laws.specs.declared.outcome.Outcome.TheVariants.{Inserted, NeverIdle, Small, Wide}
use Rattle.cg_plan_laws.specs.declared.settings.Settings.{Settings}
use Rattle.cg_netlist.proofs.Driven.{is_in-range}

module _ (m : MachineData) where
  none_false : (claims : List (NamedClaim)) → first_false m claims ≡ None → (c : NamedClaim) → Among c claims → is_never m c.1 ≡ true
  none_false [] none c a = absurd (among_none c a)
  none_false (d ∷ claims) none c a = go (none_false claims) (is_never m d.1) refl none (among_cons c d claims a)
    where
      go : (first_false m claims ≡ None → (c' : NamedClaim) → Among c' claims → is_never m c'.1 ≡ true) → (b : Bool) → is_never m d.1 ≡ b → (if b then first_false m claims else Some d.0) ≡ None → (d ≡ c) ⊎ Among c claims → is_never m c.1 ≡ true
      go rest true is h (inl same) = ap (λ (e : NamedClaim). is_never m e.1) (sym same) ∙ is
      go rest true is h (inr more) = rest h c more
      go rest false is h w = absurd (cc)

  mapped : {T : Type 0} (f : T → NamedClaim) (x : T) (xs : List T) → Among x xs → Among (f x) (map f xs)
  mapped f x [] a = absurd (among_none x a)
  mapped f x (y ∷ xs) a = elim (among_cons x y xs a) [
    | inl same ↦ record { place = 0; at = ap (λ z. Some (f z)) same }
    | inr more ↦ later (f x) (f y) (map f xs) (mapped f x xs more)
  ]

  -- a target has a name
  output_among : (ys : List ℕ) (k y : ℕ) → is_in ys y ≡ true → (j : ℕ) × Among (Output j, Shown y) (output_targets k ys)
  output_among [] k y among = absurd (both_ways false refl among)
  output_among (z ∷ ys) k y among = elim (or_cases (nat_eq y z) (is_in ys y) among) [
    | inl same ↦ (k, record { place = 0; at = ap (λ w. Some (Output k, Shown w)) (sym (eqb-true y z same)) })
    | inr more ↦ let r = output_among ys (k + 1) y more in (r.0, later (Output r.0, Shown y) (Output k, Shown z) (output_targets (k + 1) ys) r.1)
  ]

  target_among : (t : Target) → IsTarget m t → (name : ClaimName) × Among (name, t) (all_targets m)
  target_among (Shown y) is =
      let r = output_among m.circuit.outputs 0 y is in (
        Output r.0,
        in_front (Output r.0, Shown y) (output_targets 0 m.circuit.outputs ++ map (λ q. (NextName q, Next q)) (registers_of m)) ((Enable, Joined) ∷ [])
            (in_front (Output r.0, Shown y) (output_targets 0 m.circuit.outputs) (map (λ q. (NextName q, Next q)) (registers_of m)) r.1),
      )
  target_among (Next r) is = (
    NextName r,
    in_front (NextName r, Next r) (output_targets 0 m.circuit.outputs ++ map (λ q. (NextName q, Next q)) (registers_of m)) ((Enable, Joined) ∷ [])
        (in_back (NextName r, Next r) (output_targets 0 m.circuit.outputs) (map (λ q. (NextName q, Next q)) (registers_of m)) (in_map (λ q. (NextName q, Next q)) r (registers_of m) (is_in-range (length m.circuit.registers) 0 r (omega arith) (omega (arith, is))))),
  )
  target_among Joined is = (Enable, in_back (Enable, Joined) (output_targets 0 m.circuit.outputs ++ map (λ q. (NextName q, Next q)) (registers_of m)) ((Enable, Joined) ∷ []) (record { place = 0; at = refl }))

  pub fits_part : (t : Target) → IsTarget m t → CopyPartFits m (target_part t)
  fits_part (Shown y) is = tt
  fits_part (Next r) is = is
  fits_part Joined is = tt

  module _ (s : Stage) (good : IsMachine m) (regs : (r : ℕ) → is_in s.regs r ≡ true → r < length m.circuit.registers) where
    claims_hold : (k : StageKind) → first_false m (claims_by k m s) ≡ None → ClaimsHold k m s
    claims_hold Hold none = λ r among.
        let q : Question = hold_question (first_literal s.enable) r in
        never_hold m (first_literal s.enable) r ((is_never_says m q good (regs r among, regs r among)).0
        (none_false (claims_by Hold m s) none (HoldName r, q) (in_map (λ z. (HoldName z, hold_question (first_literal s.enable) z)) r s.regs among)))
    claims_hold Stable none = λ r among.
        let q : Question = stable_question s.enable r in
        never_stable m s.enable r ((is_never_says m q good (regs r among, regs r among)).0
        (none_false (claims_by Stable m s) none (StableName r, q) (in_map (λ z. (StableName z, stable_question s.enable z)) r s.regs among)))
    claims_hold Unseen none = λ t is. elim (cases_Bool (meets m s.enable s.regs t)) [
      | inl asked ↦
          let name = target_among t is in
          let q : Question = unseen_question s.enable s.guards s.regs t in
          never_unseen m s.enable s.guards s.regs t ((is_never_says m q good (fits_part t is, fits_part t is)).0
          (none_false (claims_by Unseen m s) none (name.0, q)
          (mapped (target_claim s) (name.0, t) (unseen_targets m s.enable s.regs)
          (in_filter (λ (u : ClaimName × Target). meets m s.enable s.regs u.1) (name.0, t) (all_targets m) name.1 asked))))
      | inr none ↦ apart_unseen m s.enable s.guards s.regs t good (fits_part t is) none
    ]

    -- what an inserted stage comes through
    pub free_of_limit : decided m s ≡ Ends Inserted → limit_by s.kind m s ≡ None
    free_of_limit is = go (is_never m (idle_question s.enable)) is
      where
        last : (o : Option Limit) → unless_passed o ≡ Ends Inserted → o ≡ None
        last None h = refl
        last (Some l) h = absurd (cc)

        next : (o : Option ClaimName) → unless_false m s o ≡ Ends Inserted → limit_by s.kind m s ≡ None
        next None h = last (limit_by s.kind m s) h
        next (Some c) h = absurd (cc)

        go : (b : Bool) → (if b then Ends NeverIdle else unless_false m s (first_false m (claims_of m s))) ≡ Ends Inserted → limit_by s.kind m s ≡ None
        go true h = absurd (cc)
        go false h = next (first_false m (claims_of m s)) h

    from_decided : decided m s ≡ Ends Inserted → first_false m (claims_of m s) ≡ None
    from_decided is = go (is_never m (idle_question s.enable)) is
      where
        next : (o : Option ClaimName) → first_false m (claims_of m s) ≡ o → unless_false m s o ≡ Ends Inserted → first_false m (claims_of m s) ≡ None
        next None at h = at
        next (Some c) at h = absurd (cc)

        go : (b : Bool) → (if b then Ends NeverIdle else unless_false m s (first_false m (claims_of m s))) ≡ Ends Inserted → first_false m (claims_of m s) ≡ None
        go true h = absurd (cc)
        go false h = next (first_false m (claims_of m s)) refl h

    from_measured : (width : ℕ) (claims : List (NamedClaim)) (end : Tried) → measured m width claims end ≡ Ends Inserted → end ≡ Ends Inserted
    from_measured width [] end h = h
    from_measured width (c ∷ claims) end h = go (from_measured width claims end) (nat_lt width (width_of m c.1)) (is_large m c.1) h
      where
        go : (measured m width claims end ≡ Ends Inserted → end ≡ Ends Inserted) → (a b : Bool) → (if a then Ends (Wide c.0 (width_of m c.1)) else (if b then Passes ClaimNodes else measured m width claims end)) ≡ Ends Inserted → end ≡ Ends Inserted
        go rest true b h = absurd (cc)
        go rest false true h = absurd (cc)
        go rest false false h = rest h

    pub inserted_decided : (library : List CellData) (settings : Settings) → tried library settings m s ≡ Ends Inserted → decided m s ≡ Ends Inserted
    inserted_decided library settings h = (from_measured settings.width (all_claims m s) (decided m s) (start (nat_lt (length s.regs) settings.min) h))
      where
        cells : (o : Option FitKind) → unless_missing m settings s o ≡ Ends Inserted → measured m settings.width (all_claims m s) (decided m s) ≡ Ends Inserted
        cells None h = h
        cells (Some kind) h = absurd (cc)

        start : (b : Bool) → (if b then Ends (Small (length s.regs)) else unless_missing m settings s (missing library (needs settings.test s))) ≡ Ends Inserted → measured m settings.width (all_claims m s) (decided m s) ≡ Ends Inserted
        start true h = absurd (cc)
        start false h = cells (missing library (needs settings.test s)) h

    pub inserted_claims : (library : List CellData) (settings : Settings) → tried library settings m s ≡ Ends Inserted → ClaimsHold s.kind m s
    inserted_claims library settings h = claims_hold s.kind (from_decided (inserted_decided library settings h))

    pub inserted_free : (library : List CellData) (settings : Settings) → tried library settings m s ≡ Ends Inserted → limit_by s.kind m s ≡ None
    inserted_free library settings h = free_of_limit (inserted_decided library settings h)

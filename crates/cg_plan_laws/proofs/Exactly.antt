-- A stage is inserted exactly where it deserves it.
use Rattle.std.proofs.Common.{◌≡◌, ℕ, zero, suc, ◌+◌, ◌<◌, ◌≤◌, Bool, true, false, not, ◌&&◌, if◌then◌else◌, cond, List, [], ◌∷◌}
use Rattle.std.proofs.Common.{◌++◌, map, length, nat_eq, nat_lt, Option, None, Some, refl, sym, ◌∙◌, ap, subst, arith, ◌⊎◌, inl}
use Rattle.std.proofs.Common.{inr}
use Rattle.std.specs.List.{filter, list_all}
use Rattle.std.proofs.lemmas.Bool.{both_ways, eq-eqb, false_from_ne_true, lt-ltb, ltb-true, not-false, or_left, or_right}
use Rattle.cg_limit.specs.declared.TheConstants.{MOST_CLAIM_NODES}
use Rattle.cg_cell.specs.Cell.{CellData}
use Rattle.cg_cell.specs.declared.fit.FitKind.{FitKind}
use Rattle.cg_limit.specs.declared.Limit.TheVariants.{ClaimNodes}
use Rattle.cg_net.specs.NetSets.{is_in}
use Rattle.cg_machine.specs.Claims.{CanIdle, Joined, Next, Shown, Target}
use Rattle.cg_machine.specs.Machine.{IsMachine, MachineData}
use Rattle.cg_machine.specs.declared.stage.Stage.{Stage}
use Rattle.cg_machine.specs.declared.stage.StageKind.{StageKind}
use Rattle.cg_machine.specs.declared.stage.StageKind.TheVariants.{Hold, Stable, Unseen}
use Rattle.cg_claim.specs.Build.{nodes_of}
use Rattle.cg_claim.specs.LeafBits.{all_bits, free_of, is_never, violates_at}
use Rattle.cg_claim.specs.Leaves.{leaves_of, width_of}
use Rattle.cg_claim.specs.Question.{Question, hold_question, idle_question, stable_question, unseen_question}
use Rattle.cg_claim.specs.Reach.{registers_of}
use Rattle.cg_claim.specs.Targets.{all_targets, meets, output_targets, unseen_targets}
use Rattle.cg_claim.specs.declared.name.ClaimName.{ClaimName}
use Rattle.cg_claim.specs.declared.name.ClaimName.TheVariants.{Enable, Hold as HoldName, Next as NextName, Output}
use Rattle.cg_claim.specs.declared.name.ClaimName.TheVariants.{Stable as StableName}
use Rattle.cg_claim.proofs.ClaimsHold.{hold_never, idle_some, some_idle, stable_never, unseen_never}
use Rattle.cg_claim.proofs.GoalBits.{free_is}
use Rattle.cg_claim.proofs.Tried.{is_never_says}
use Rattle.cg_stage_laws.specs.Needs.{missing, needs}
use Rattle.cg_stage_laws.specs.Stages.{ClaimsHold, IsTarget, first_literal}
use Rattle.cg_stage_list_laws.specs.HoldList.{is_large}
use Rattle.cg_stage_list_laws.proofs.Among.{Among, among_cons, among_none, later}
use Rattle.cg_plan_laws.specs.StageClaims.{NamedClaim, all_claims, claims_by, claims_of, target_claim}
use Rattle.cg_plan_laws.specs.Trying.{Ends, Passes, Tried, decided, first_false, measured, tried, unless_false, unless_missing}
use Rattle.cg_plan_laws.specs.Trying.{unless_passed}
use Rattle.cg_plan_laws.specs.declared.outcome.Outcome.TheVariants.{Inserted, NeverIdle, Small, Wide}
use Rattle.cg_plan_laws.specs.declared.settings.Settings.{Settings}
use Rattle.cg_claim.specs.Violates.{violates}
use Rattle.cg_plan_laws.specs.Laws.{InsertedExactly, IsInsertable}
use Rattle.cg_plan_laws.proofs.Decided.{fits_part, inserted_claims, inserted_decided, inserted_free}
use Rattle.cg_netlist.proofs.Driven.{in_range}

pub not_less : (a b : ℕ) → nat_lt a b ≡ false → b ≤ a
not_less a b h = go (less_or a b)
  where
    less_or : (x y : ℕ) → (x < y) ⊎ (y ≤ x)
    less_or zero zero = inr (omega arith)
    less_or zero (suc y) = inl (omega arith)
    less_or (suc x) zero = inr (omega arith)
    less_or (suc x) (suc y) = elim (less_or x y) [ inl l ↦ inl (omega arith) | inr l ↦ inr (omega arith) ]

    go : (a < b) ⊎ (b ≤ a) → b ≤ a
    go (inl less) = absurd (both_ways (nat_lt a b) h (lt-ltb a b less))
    go (inr above) = above

at_most : (a b : ℕ) → b ≤ a → nat_lt a b ≡ false
at_most a b above = false_from_ne_true (nat_lt a b) (λ less. let l = ltb-true a b less in omega (arith, l, above))

-- some item fails where not all pass
some_fails : {T : Type 0} (test : T → Bool) (xs : List T) → list_all test xs ≡ false → (x : T) × (test x ≡ false)
some_fails test [] h = absurd (both_ways true h refl)
some_fails {T = T} test (x ∷ xs) h = go (some_fails test xs) (test x) refl h
  where
    go : (list_all test xs ≡ false → (y : T) × (test y ≡ false)) → (b : Bool) → test x ≡ b → (b && list_all test xs) ≡ false → (y : T) × (test y ≡ false)
    go rest true is k = rest k
    go rest false is k = (x, is)

pub mapped_in : {T : Type 0} (f : ℕ → T) (xs : List ℕ) (y : T) → Among y (map f xs) → (x : ℕ) × (is_in xs x ≡ true) × (f x ≡ y)
mapped_in f [] y a = absurd (among_none y a)
mapped_in f (x ∷ xs) y a = elim (among_cons y (f x) (map f xs) a) [
  | inl same ↦ (x, or_left (nat_eq x x) (is_in xs x) (eq-eqb x x refl), same)
  | inr more ↦ let r = mapped_in f xs y more in (r.0, or_right (nat_eq r.0 x) (is_in xs r.0) r.1, r.2)
]

pub mapped_of : {S T : Type 0} (f : S → T) (xs : List S) (y : T) → Among y (map f xs) → (x : S) × Among x xs × (f x ≡ y)
mapped_of f [] y a = absurd (among_none y a)
mapped_of f (x ∷ xs) y a = elim (among_cons y (f x) (map f xs) a) [
  | inl same ↦ (x, record { place = 0; at = refl }, same)
  | inr more ↦ let r = mapped_of f xs y more in (r.0, later r.0 x xs r.1, r.2)
]

pub filter_of : {T : Type 0} (test : T → Bool) (xs : List T) (y : T) → Among y (filter test xs) → Among y xs × (test y ≡ true)
filter_of test [] y a = absurd (among_none y a)
filter_of {T = T} test (x ∷ xs) y a = go (filter_of test xs y) (test x) refl a
  where
    go : (Among y (filter test xs) → Among y xs × (test y ≡ true)) → (b : Bool) → test x ≡ b → Among y (cond b (x ∷ filter test xs) (filter test xs)) → Among y (x ∷ xs) × (test y ≡ true)
    go rest true is h = elim (among_cons y x (filter test xs) h) [
      | inl same ↦ (record { place = 0; at = ap Some same }, ap test (sym same) ∙ is)
      | inr more ↦ (later y x xs (rest more).0, (rest more).1)
    ]
    go rest false is h = (later y x xs (rest h).0, (rest h).1)

pub split : {T : Type 0} (xs ys : List T) (y : T) → Among y (xs ++ ys) → Among y xs ⊎ Among y ys
split [] ys y a = inr a
split (x ∷ xs) ys y a = elim (among_cons y x (xs ++ ys) a) [
  | inl same ↦ inl (record { place = 0; at = ap Some same })
  | inr more ↦ elim (split xs ys y more) [ inl h ↦ inl (later y x xs h) | inr h ↦ inr h ]
]

module _ (m : MachineData) (good : IsMachine m) where
  outputs_of : (ys : List ℕ) (k : ℕ) (t : ClaimName × Target) → Among t (output_targets k ys) → (y : ℕ) × (is_in ys y ≡ true) × (t.1 ≡ Shown y)
  outputs_of [] k t a = absurd (among_none t a)
  outputs_of (y ∷ ys) k t a = elim (among_cons t (Output k, Shown y) (output_targets (k + 1) ys) a) [
    | inl same ↦ (y, or_left (nat_eq y y) (is_in ys y) (eq-eqb y y refl), ap (λ (u : ClaimName × Target). u.1) (sym same))
    | inr more ↦ let r = outputs_of ys (k + 1) t more in (r.0, or_right (nat_eq r.0 y) (is_in ys r.0) r.1, r.2)
  ]

  pub is_target : (t : ClaimName × Target) → Among t (all_targets m) → IsTarget m t.1
  is_target t a = elim (split (output_targets 0 m.circuit.outputs ++ map (λ r. (NextName r, Next r)) (registers_of m)) ((Enable, Joined) ∷ []) t a) [
    | inr last ↦ elim (among_cons t (Enable, Joined) [] last) [
      | inl same ↦ subst (IsTarget m) (ap (λ (u : ClaimName × Target). u.1) same) tt
      | inr none ↦ absurd (among_none t none)
    ]
    | inl front ↦ elim (split (output_targets 0 m.circuit.outputs) (map (λ r. (NextName r, Next r)) (registers_of m)) t front) [
      | inl out ↦ let y = outputs_of m.circuit.outputs 0 t out in subst (IsTarget m) (sym y.2) y.1
      | inr reg ↦
          let r = mapped_in (λ r. (NextName r, Next r)) (registers_of m) t reg in
          let b = in_range (length m.circuit.registers) 0 r.0 r.1 in
          subst (IsTarget m) (ap (λ (u : ClaimName × Target). u.1) r.2) (omega (arith, b.1))
    ]
  ]

  module _ (s : Stage) (regs : (r : ℕ) → is_in s.regs r ≡ true → r < length m.circuit.registers) where
    each_never : (k : StageKind) → ClaimsHold k m s → (c : NamedClaim) → Among c (claims_by k m s) → is_never m c.1 ≡ true
    each_never Hold holds = λ c a.
        let r = mapped_in (λ r. (HoldName r, hold_question (first_literal s.enable) r)) s.regs c a in
        subst (λ (d : NamedClaim). is_never m d.1 ≡ true) r.2 ((is_never_says m (hold_question (first_literal s.enable) r.0) good (regs r.0 r.1, regs r.0 r.1)).1 (hold_never m (first_literal s.enable) r.0 (holds r.0 r.1)))
    each_never Stable holds = λ c a.
        let r = mapped_in (λ r. (StableName r, stable_question s.enable r)) s.regs c a in
        subst (λ (d : NamedClaim). is_never m d.1 ≡ true) r.2 ((is_never_says m (stable_question s.enable r.0) good (regs r.0 r.1, regs r.0 r.1)).1 (stable_never m s.enable r.0 (holds r.0 r.1)))
    each_never Unseen holds = λ c a.
        let t = mapped_of (target_claim s) (unseen_targets m s.enable s.regs) c a in
        let f = filter_of (λ (u : ClaimName × Target). meets m s.enable s.regs u.1) (all_targets m) t.0 t.1 in
        let target : IsTarget m t.0.1 = is_target t.0 f.0 in
        subst (λ (d : NamedClaim). is_never m d.1 ≡ true) t.2 ((is_never_says m (unseen_question s.enable s.guards s.regs t.0.1) good (fits_part m t.0.1 target, fits_part m t.0.1 target)).1
        (unseen_never m s.enable s.guards s.regs t.0.1 (holds t.0.1 target)))

    all_never : (claims : List (NamedClaim)) → ((c : NamedClaim) → Among c claims → is_never m c.1 ≡ true) → first_false m claims ≡ None
    all_never [] each = refl
    all_never (c ∷ claims) each = ap (λ b. if b then first_false m claims else Some c.0) (each c (record { place = 0; at = refl })) ∙ all_never claims (λ d a. each d (later d c claims a))

    -- idling
    idle_never : CanIdle m s.enable → is_never m (idle_question s.enable) ≡ false
    idle_never can = false_from_ne_true (is_never m (idle_question s.enable)) (λ never.
        let w = idle_some m s.enable can in
        both_ways (violates m (idle_question s.enable) w.0) ((is_never_says m (idle_question s.enable) good tt).0 never w.0 w.1) w.2)

    pub can_idle : is_never m (idle_question s.enable) ≡ false → CanIdle m s.enable
    unfolding is_never
    can_idle some =
        let q : Question = idle_question s.enable in
        let bits = some_fails (λ bs. not (violates_at m q bs)) (all_bits (width_of m q)) some in
        some_idle m s.enable (free_of m (leaves_of m q) bits.0) (free_is m q bits.0) (not-false (violates_at m q bits.0) bits.1)

    measured_to : (width : ℕ) (claims : List (NamedClaim)) (end : Tried) → ((c : NamedClaim) → Among c claims → (width_of m c.1 ≤ width) × (nodes_of m c.1 ≤ MOST_CLAIM_NODES)) → measured m width claims end ≡ end
    measured_to width [] end narrow = refl
    measured_to width (c ∷ claims) end narrow =
        let n = narrow c (record { place = 0; at = refl }) in
        ap (λ b. if b then Ends (Wide c.0 (width_of m c.1)) else (if is_large m c.1 then Passes ClaimNodes else measured m width claims end)) (at_most width (width_of m c.1) n.0)
        ∙ (ap (λ b. if b then Passes ClaimNodes else measured m width claims end) (at_most MOST_CLAIM_NODES (nodes_of m c.1) n.1)
        ∙ measured_to width claims end (λ d a. narrow d (later d c claims a)))

    measured_narrow : (width : ℕ) (claims : List (NamedClaim)) (end : Tried) → measured m width claims end ≡ Ends Inserted → (c : NamedClaim) → Among c claims → (width_of m c.1 ≤ width) × (nodes_of m c.1 ≤ MOST_CLAIM_NODES)
    measured_narrow width [] end h c a = absurd (among_none c a)
    measured_narrow width (d ∷ claims) end h c a = go (measured_narrow width claims end) (nat_lt width (width_of m d.1)) refl (is_large m d.1) refl h (among_cons c d claims a)
      where
        go : (measured m width claims end ≡ Ends Inserted → (e : NamedClaim) → Among e claims → (width_of m e.1 ≤ width) × (nodes_of m e.1 ≤ MOST_CLAIM_NODES)) → (x : Bool) → nat_lt width (width_of m d.1) ≡ x → (y : Bool) → is_large m d.1 ≡ y
            → (if x then Ends (Wide d.0 (width_of m d.1)) else (if y then Passes ClaimNodes else measured m width claims end)) ≡ Ends Inserted → (d ≡ c) ⊎ Among c claims → (width_of m c.1 ≤ width) × (nodes_of m c.1 ≤ MOST_CLAIM_NODES)
        go rest true is y it k w = absurd (cc)
        go rest false is true it k w = absurd (cc)
        go rest false is false it k (inl same) = subst (λ (e : NamedClaim). (width_of m e.1 ≤ width) × (nodes_of m e.1 ≤ MOST_CLAIM_NODES)) same (not_less width (width_of m d.1) is, not_less MOST_CLAIM_NODES (nodes_of m d.1) it)
        go rest false is false it k (inr more) = rest k c more

    module _ (library : List CellData) (settings : Settings) where
      abbrev claims : List (NamedClaim)
      claims = all_claims m s

      to : IsInsertable library settings m s → tried library settings m s ≡ Ends Inserted
      to d =
          let first : first_false m (claims_of m s) ≡ None = all_never (claims_of m s) (each_never s.kind d.holds) in
          let decides : decided m s ≡ Ends Inserted =
          ap (λ b. if b then Ends NeverIdle else unless_false m s (first_false m (claims_of m s))) (idle_never d.idles)
          ∙ (ap (unless_false m s) first ∙ ap unless_passed d.room) in
          ap (λ b. if b then Ends (Small (length s.regs)) else unless_missing m settings s (missing library (needs settings.test s))) (at_most (length s.regs) settings.min d.large)
          ∙ (ap (unless_missing m settings s) d.cells
          ∙ (measured_to settings.width claims (decided m s) (λ c a. d.narrow a.place c a.at) ∙ decides))

      record Passed : Type 0 where
        large : settings.min ≤ length s.regs
        cells : missing library (needs settings.test s) ≡ None
        rest : measured m settings.width (all_claims m s) (decided m s) ≡ Ends Inserted

      passed : tried library settings m s ≡ Ends Inserted → Passed
      passed h = start (nat_lt (length s.regs) settings.min) refl h
        where
          cells_at : nat_lt (length s.regs) settings.min ≡ false → (o : Option FitKind) → missing library (needs settings.test s) ≡ o → unless_missing m settings s o ≡ Ends Inserted → Passed
          cells_at large None is k = record { large = not_less (length s.regs) settings.min large; cells = is; rest = k }
          cells_at large (Some kind) is k = absurd (cc)

          start : (b : Bool) → nat_lt (length s.regs) settings.min ≡ b → (if b then Ends (Small (length s.regs)) else unless_missing m settings s (missing library (needs settings.test s))) ≡ Ends Inserted → Passed
          start true is k = absurd (cc)
          start false is k = cells_at is (missing library (needs settings.test s)) refl k

      idle_false : decided m s ≡ Ends Inserted → is_never m (idle_question s.enable) ≡ false
      idle_false h = go (is_never m (idle_question s.enable)) refl h
        where
          go : (b : Bool) → is_never m (idle_question s.enable) ≡ b → (if b then Ends NeverIdle else unless_false m s (first_false m (claims_of m s))) ≡ Ends Inserted → is_never m (idle_question s.enable) ≡ false
          go true is k = absurd (cc)
          go false is k = is

      from : tried library settings m s ≡ Ends Inserted → IsInsertable library settings m s
      from h =
          let p : Passed = passed h in record {
            large = p.large;
            cells = p.cells;
            narrow = λ k c at. measured_narrow settings.width claims (decided m s) p.rest c (record { place = k; at = at });
            idles = can_idle (idle_false (inserted_decided m s good regs library settings h));
            holds = inserted_claims m s good regs library settings h;
            room = inserted_free m s good regs library settings h;
          }

pub inserted_exactly : InsertedExactly
inserted_exactly library settings m s good fits =
    let regs : (r : ℕ) → is_in s.regs r ≡ true → r < length m.circuit.registers = λ r among. let b = fits.registers r among in omega (arith, b, good.own_registers) in
    (from m good s regs library settings, to m good s regs library settings)

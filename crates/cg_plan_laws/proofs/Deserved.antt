-- A stage deserves what comes of it.
use Rattle.std.proofs.Common.{◌≡◌, ◌↔◌, ℕ, zero, suc, ◌+◌, ◌<◌, ◌≤◌, Bool, true, false, not, ◌&&◌, cond, if◌then◌else◌, List, [], ◌∷◌}
use Rattle.std.proofs.Common.{◌++◌, map, length, nat_lt, slice_get, is_some, Option, None, Some, refl, sym, ◌∙◌, ap, subst, arith}
use Rattle.std.proofs.Common.{◌⊎◌, inl, inr}
use Rattle.std.specs.List.{find, position_or_len}
use Rattle.std.proofs.lemmas.Bool.{both_ways, lt-ltb, ltb-true, not-false}
use Rattle.std.proofs.lemmas.List.Folds.{find_at}
use Rattle.std.proofs.lemmas.Option.{none-some, same_Some, slice_get_within}
use Rattle.cg_cell.specs.Cell.{CellData}
use Rattle.cg_cell.specs.Fit.{is_fit}
use Rattle.cg_cell.specs.Library.{first_fit}
use Rattle.cg_cell.specs.declared.fit.FitKind.{FitKind}
use Rattle.cg_claim.proofs.ClaimsHold.{hold_never, never_hold, never_stable, never_unseen, stable_never, unseen_never}
use Rattle.cg_claim.proofs.Tried.{is_never_says}
use Rattle.cg_claim.specs.Build.{nodes_of}
use Rattle.cg_claim.specs.LeafBits.{is_never}
use Rattle.cg_claim.specs.Leaves.{width_of}
use Rattle.cg_claim.specs.Question.{Question, hold_question, idle_question, stable_question, unseen_question}
use Rattle.cg_claim.specs.Reach.{registers_of}
use Rattle.cg_claim.specs.Targets.{all_targets, meets, output_targets, unseen_targets}
use Rattle.cg_claim.specs.Violates.{Free}
use Rattle.cg_claim.specs.declared.name.ClaimName.{ClaimName}
use Rattle.cg_claim.specs.declared.name.ClaimName.TheVariants.{Enable, Hold as HoldName, Next as NextName, Output}
use Rattle.cg_claim.specs.declared.name.ClaimName.TheVariants.{Stable as StableName}
use Rattle.cg_limit.specs.declared.Limit.{Limit}
use Rattle.cg_limit.specs.declared.Limit.TheVariants.{ClaimNodes}
use Rattle.cg_limit.specs.declared.TheConstants.{MOST_CLAIM_NODES}
use Rattle.cg_machine.specs.Claims.{Hold as Holds, Joined, Next, Shown, Stable as IsStable, Target, Unseen as IsUnseen, any_at}
use Rattle.cg_machine.specs.Machine.{IsMachine, MachineData, values}
use Rattle.cg_machine.specs.declared.stage.Stage.{Stage}
use Rattle.cg_machine.specs.declared.stage.StageKind.{StageKind}
use Rattle.cg_machine.specs.declared.stage.StageKind.TheVariants.{Hold, Stable, Unseen}
use Rattle.cg_net.specs.NetSets.{is_in}
use Rattle.cg_plan_laws.proofs.Decided.{fits_part}
use Rattle.cg_plan_laws.proofs.Exactly.{can_idle, filter_of, inserted_exactly, is_target, mapped_in, mapped_of, not_less, split}
use Rattle.cg_plan_laws.specs.Outcomes.{ClaimHolds, Deserves, IsFirstFalse, IsLacking, IsNeverIdle, IsTooWide, OutcomesAreDeserved}
use Rattle.cg_plan_laws.specs.StageClaims.{NamedClaim, all_claims, claims_by, claims_of, target_claim}
use Rattle.cg_plan_laws.specs.Trying.{Ends, Passes, Tried, decided, first_false, measured, tried, unless_false, unless_missing}
use Rattle.cg_plan_laws.specs.Trying.{unless_passed}
use Rattle.cg_plan_laws.specs.declared.outcome.Outcome.{Outcome}
use Rattle.cg_plan_laws.specs.declared.outcome.Outcome.TheVariants.{Inserted, NeverIdle, NoCell, Refuted, Small, Wide}
use Rattle.cg_plan_laws.specs.declared.settings.Settings.{Settings}
use Rattle.cg_stage_laws.proofs.Missing.{IsFirstMissing, first_missing}
use Rattle.cg_stage_laws.specs.Cells.{HasCell}
use Rattle.cg_stage_laws.specs.Effects.{limit_by}
use Rattle.cg_stage_laws.specs.Needs.{missing, needs}
use Rattle.cg_stage_laws.specs.Stages.{Fits, IsTarget, first_literal}
use Rattle.cg_stage_list_laws.proofs.Among.{Among, among_cons, among_none}
use Rattle.cg_stage_list_laws.specs.HoldList.{is_large}

-- the k-th output is the target of its name
outputs_placed : (ys : List ℕ) (k : ℕ) (t : ClaimName × Target) → Among t (output_targets k ys) → (j : ℕ) × (y : ℕ) × (slice_get ys j ≡ Some y) × ((Output (k + j), Shown y) ≡ t)
outputs_placed [] k t a = absurd (among_none t a)
outputs_placed (y ∷ ys) k t a = elim (among_cons t (Output k, Shown y) (output_targets (k + 1) ys) a) [
  | inl same ↦
      let e : k + 0 ≡ k = omega arith in
      (0, y, refl, ap (λ j. (Output j, Shown y)) e ∙ same)
  | inr more ↦
      let r = outputs_placed ys (k + 1) t more in
      let e : k + suc r.0 ≡ k + 1 + r.0 = omega arith in
      (suc r.0, r.1, r.2, ap (λ j. (Output j, Shown r.1)) e ∙ r.3)
]

-- the first of some claims that is false
record IsFirst (m : MachineData) (claims : List NamedClaim) (name : ClaimName) : Type 0 where
  place : ℕ
  question : Question
  named : slice_get claims place ≡ Some (name, question)
  before : (k : ℕ) (c : NamedClaim) → k < place → slice_get claims k ≡ Some c → is_never m c.1 ≡ true
  some : is_never m question ≡ false

first_at : (m : MachineData) (claims : List NamedClaim) (name : ClaimName) → first_false m claims ≡ Some name → IsFirst m claims name
first_at m [] name h = absurd (none-some name h)
first_at m (c ∷ claims) name h = go (is_never m c.1) refl h (first_at m claims name)
  where
    go : (b : Bool) → is_never m c.1 ≡ b → (if b then first_false m claims else Some c.0) ≡ Some name → (first_false m claims ≡ Some name → IsFirst m claims name) → IsFirst m (c ∷ claims) name
    go false is k rest = record { place = 0; question = c.1; named = ap (λ n. Some (n, c.1)) (same_Some c.0 name k); before = λ j d low at. absurd (omega (arith, low)); some = is }
    go true is k rest =
        let r : IsFirst m claims name = rest k in
        record { place = suc r.place; question = r.question; named = r.named; before = earlier r; some = r.some }
      where
        earlier : (r : IsFirst m claims name) (j : ℕ) (d : NamedClaim) → j < suc r.place → slice_get (c ∷ claims) j ≡ Some d → is_never m d.1 ≡ true
        earlier r zero d low at = ap (λ (e : NamedClaim). is_never m e.1) (sym (same_Some c d at)) ∙ is
        earlier r (suc j) d low at = r.before j d (omega (arith, low)) at

-- the first of some claims that is too wide
record IsWide (m : MachineData) (width : ℕ) (claims : List NamedClaim) (o : Outcome) : Type 0 where
  place : ℕ
  claim : NamedClaim
  at : slice_get claims place ≡ Some claim
  above : width < width_of m claim.1
  before : (k : ℕ) (c : NamedClaim) → k < place → slice_get claims k ≡ Some c → (width_of m c.1 ≤ width) × (nodes_of m c.1 ≤ MOST_CLAIM_NODES)
  is : Wide claim.0 (width_of m claim.1) ≡ o

measured_ends : (m : MachineData) (width : ℕ) (claims : List NamedClaim) (later : Tried) (o : Outcome) → measured m width claims later ≡ Ends o → IsWide m width claims o ⊎ (later ≡ Ends o)
measured_ends m width [] later o h = inr h
measured_ends m width (c ∷ claims) later o h = go (nat_lt width (width_of m c.1)) refl (is_large m c.1) refl h (measured_ends m width claims later o)
  where
    go : (a : Bool) → nat_lt width (width_of m c.1) ≡ a → (b : Bool) → is_large m c.1 ≡ b → (if a then Ends (Wide c.0 (width_of m c.1)) else (if b then Passes ClaimNodes else measured m width claims later)) ≡ Ends o
        → (measured m width claims later ≡ Ends o → IsWide m width claims o ⊎ (later ≡ Ends o)) → IsWide m width (c ∷ claims) o ⊎ (later ≡ Ends o)
    go true is b it k rest =
        let same : Wide c.0 (width_of m c.1) ≡ o = cc in
        inl (record { place = 0; claim = c; at = refl; above = ltb-true width (width_of m c.1) is; before = λ j d low at. absurd (omega (arith, low)); is = same })
    go false is true it k rest = absurd (cc)
    go false is false it k rest = elim (rest k) [
      | inl w ↦ inl (record { place = suc w.place; claim = w.claim; at = w.at; above = w.above; before = earlier w; is = w.is })
      | inr e ↦ inr e
    ]
      where
        earlier : (w : IsWide m width claims o) (j : ℕ) (d : NamedClaim) → j < suc w.place → slice_get (c ∷ claims) j ≡ Some d → (width_of m d.1 ≤ width) × (nodes_of m d.1 ≤ MOST_CLAIM_NODES)
        earlier w zero d low at =
            subst (λ (e : NamedClaim). (width_of m e.1 ≤ width) × (nodes_of m e.1 ≤ MOST_CLAIM_NODES)) (same_Some c d at) (not_less width (width_of m c.1) is, not_less MOST_CLAIM_NODES (nodes_of m c.1) it)
        earlier w (suc j) d low at = w.before j d (omega (arith, low)) at

module _ (m : MachineData) (good : IsMachine m) (s : Stage) (fits : Fits m s) where
  below : (r : ℕ) → is_in s.regs r ≡ true → r < length m.circuit.registers
  below r among = let b = fits.registers r among in omega (arith, b, good.own_registers)

  abbrev Tells : NamedClaim → Type 0
  Tells c = (is_never m c.1 ≡ true) ↔ ClaimHolds m s c.0

  -- the claim of a target by its name
  abbrev Same : ClaimName × Target → Type 0
  Same t = IsUnseen m s.enable s.guards s.regs t.1 ↔ ClaimHolds m s t.0

  target_same : (t : ClaimName × Target) → Among t (all_targets m) → Same t
  target_same t a = elim (split (output_targets 0 m.circuit.outputs ++ map (λ r. (NextName r, Next r)) (registers_of m)) ((Enable, Joined) ∷ []) t a) [
    | inr last ↦ elim (among_cons t (Enable, Joined) [] last) [
      | inl same ↦ subst Same same ((λ h. h), (λ h. h))
      | inr none ↦ absurd (among_none t none)
    ]
    | inl front ↦ elim (split (output_targets 0 m.circuit.outputs) (map (λ r. (NextName r, Next r)) (registers_of m)) t front) [
      | inl out ↦
          let o = outputs_placed m.circuit.outputs 0 t out in
          let e : 0 + o.0 ≡ o.0 = omega arith in
          subst Same (ap (λ j. (Output j, Shown o.1)) (sym e) ∙ o.3)
          ((λ h net at. subst (λ y. IsUnseen m s.enable s.guards s.regs (Shown y)) (same_Some o.1 net (sym o.2 ∙ at)) h), (λ h. h o.1 o.2))
      | inr reg ↦ let r = mapped_in (λ r. (NextName r, Next r)) (registers_of m) t reg in subst Same r.2 ((λ h. h), (λ h. h))
    ]
  ]

  -- a claim is never violated exactly where it holds
  each_tells : (k : StageKind) (c : NamedClaim) → Among c (claims_by k m s) → Tells c
  each_tells Hold c a =
      let e = first_literal s.enable in
      let r = mapped_in (λ r. (HoldName r, hold_question (first_literal s.enable) r)) s.regs c a in
      let says = is_never_says m (hold_question e r.0) good (below r.0 r.1, below r.0 r.1) in
      subst Tells r.2 ((λ never. never_hold m e r.0 (says.0 never)), (λ holds. says.1 (hold_never m e r.0 holds)))
  each_tells Stable c a =
      let r = mapped_in (λ r. (StableName r, stable_question s.enable r)) s.regs c a in
      let says = is_never_says m (stable_question s.enable r.0) good (below r.0 r.1, below r.0 r.1) in
      subst Tells r.2 ((λ never. never_stable m s.enable r.0 (says.0 never)), (λ holds. says.1 (stable_never m s.enable r.0 holds)))
  each_tells Unseen c a =
      let t = mapped_of (target_claim s) (unseen_targets m s.enable s.regs) c a in
      let there = (filter_of (λ (u : ClaimName × Target). meets m s.enable s.regs u.1) (all_targets m) t.0 t.1).0 in
      let target : IsTarget m t.0.1 = is_target m good t.0 there in
      let says = is_never_says m (unseen_question s.enable s.guards s.regs t.0.1) good (fits_part m t.0.1 target, fits_part m t.0.1 target) in
      let same : Same t.0 = target_same t.0 there in
      subst Tells t.2 ((λ never. same.0 (never_unseen m s.enable s.guards s.regs t.0.1 (says.0 never))), (λ holds. says.1 (unseen_never m s.enable s.guards s.regs t.0.1 (same.1 holds))))

  never_idle : is_never m (idle_question s.enable) ≡ true → IsNeverIdle m s.enable
  never_idle never state inputs long ins =
      let w : Free = record { s0 = state; x0 = inputs; free = []; x1 = inputs; other = [] } in
      one (any_at (values m state inputs) s.enable) ((is_never_says m (idle_question s.enable) good tt).0 never w (record { s0 = long; x0 = ins; x1 = ins }))
    where
      one : (b : Bool) → (not b && true) ≡ false → b ≡ true
      one true h = refl
      one false h = absurd (both_ways true h refl)

  refuted : is_never m (idle_question s.enable) ≡ false → (name : ClaimName) → first_false m (claims_of m s) ≡ Some name → IsFirstFalse m s name
  refuted some name h =
      let f : IsFirst m (claims_of m s) name = first_at m (claims_of m s) name h in
      record {
        idles = can_idle m good s below some;
        place = f.place;
        question = f.question;
        named = f.named;
        before = λ k c low at. (each_tells s.kind c (record { place = k; at = at })).0 (f.before k c low at);
        fails = λ holds. both_ways (is_never m f.question) f.some ((each_tells s.kind (name, f.question) (record { place = f.place; at = f.named })).1 holds);
      }

  module _ (library : List CellData) (settings : Settings) (o : Outcome) (h : tried library settings m s ≡ Ends o) where
    abbrev Good : Outcome → Type 0
    Good = Deserves library settings m s

    too_wide : IsWide m settings.width (all_claims m s) o → Good o
    too_wide w = subst Good w.is (record { place = w.place; question = w.claim.1; named = w.at; measured = refl; above = w.above; before = w.before })

    at_limit : (limit : Option Limit) → unless_passed limit ≡ Ends o → Good o
    at_limit None k = let same : Inserted ≡ o = cc in subst Good same ((inserted_exactly library settings m s good fits).0 (h ∙ ap Ends (sym same)))
    at_limit (Some limit) k = absurd (cc)

    by_false : is_never m (idle_question s.enable) ≡ false → (first : Option ClaimName) → first_false m (claims_of m s) ≡ first → unless_false m s first ≡ Ends o → Good o
    by_false idles None is k = at_limit (limit_by s.kind m s) k
    by_false idles (Some name) is k = let same : Refuted name [] ≡ o = cc in subst Good same (refuted idles name is)

    by_claims : (b : Bool) → is_never m (idle_question s.enable) ≡ b → (if b then Ends NeverIdle else unless_false m s (first_false m (claims_of m s))) ≡ Ends o → Good o
    by_claims true is k = let same : NeverIdle ≡ o = cc in subst Good same (never_idle is)
    by_claims false is k = by_false is (first_false m (claims_of m s)) refl k

    by_cells : (kind : Option FitKind) → missing library (needs settings.test s) ≡ kind → unless_missing m settings s kind ≡ Ends o → Good o
    by_cells (Some kind) is k =
        let same : NoCell kind ≡ o = cc in
        let f : IsFirstMissing library (needs settings.test s) kind = first_missing library (needs settings.test s) kind is in
        subst Good same (record { place = f.place; needed = f.at; before = f.before; none = f.none })
    by_cells None is k = elim (measured_ends m settings.width (all_claims m s) (decided m s) o k) [
      | inl w ↦ too_wide w
      | inr e ↦ by_claims (is_never m (idle_question s.enable)) refl e
    ]

    deserved : (b : Bool) → nat_lt (length s.regs) settings.min ≡ b → (if b then Ends (Small (length s.regs)) else unless_missing m settings s (missing library (needs settings.test s))) ≡ Ends o → Good o
    deserved true is k = let same : Small (length s.regs) ≡ o = cc in subst Good same (refl, ltb-true (length s.regs) settings.min is)
    deserved false is k = by_cells (missing library (needs settings.test s)) refl k

pub outcomes_deserved : OutcomesAreDeserved
outcomes_deserved library settings m s o good fits h = deserved m good s fits library settings o h (nat_lt (length s.regs) settings.min) refl h

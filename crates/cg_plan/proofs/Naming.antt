-- The names of a stage's claims name them, and what they name is there.
use Rattle.std.proofs.Common.{◌≡◌, ℕ, zero, suc, ◌+◌, ◌<◌, true, List, [], ◌∷◌, ◌++◌, map, length, slice_get, take, drop, nat_eq}
use Rattle.std.proofs.Common.{Some, Result, Ok, Err, IfOk, refl, sym, ◌∙◌, ap, subst, arith, ◌⊎◌, inl, inr}
use Rattle.std.specs.List.{All, range_with_len}
use Rattle.std.proofs.lemmas.List.{map-append}
use Rattle.std.proofs.lemmas.List.Elements.{All-append, All-cons, All-filter, All-from_get_or, All-head, All-map, All-nil, All-tail}
use Rattle.std.proofs.lemmas.List.FromFn.{get_or-range_with_len, length-range_with_len}
use Rattle.std.proofs.lemmas.Bool.{eq-eqb, or_left}
use Rattle.std.proofs.lemmas.Option.{get_or_from_slice_get, slice_get_within}
use Rattle.cg_net.specs.NetSets.{is_in}
use Rattle.cg_net.proofs.Members.{All-from_members}
use Rattle.cg_machine.specs.Claims.{Joined, Literal, Next, Shown, Target}
use Rattle.cg_machine.specs.Machine.{IsMachine, IsNet, MachineData}
use Rattle.cg_machine.specs.declared.stage.Stage.{Stage}
use Rattle.cg_machine.specs.declared.stage.StageKind.TheVariants.{Hold, Stable, Unseen}
use Rattle.cg_claim.specs.Question.{Question, hold_question, stable_question, unseen_question}
use Rattle.cg_claim.specs.Reach.{registers_of}
use Rattle.cg_claim.specs.Targets.{all_targets, meets, output_targets, unseen_targets}
use Rattle.cg_claim.specs.Violates.{SidesFit}
use Rattle.cg_claim.specs.declared.name.ClaimName.{ClaimName}
use Rattle.cg_claim.specs.declared.name.ClaimName.TheVariants.{Enable, Hold as HoldName, Idle, Next as NextName, Output}
use Rattle.cg_claim.specs.declared.name.ClaimName.TheVariants.{Stable as StableName}
use Rattle.cg_plan_laws.specs.StageClaims.{NamedClaim, claims_by, target_claim}
use Rattle.cg_stage_laws.specs.Stages.{Fits, enable_nets, first_literal}
use Rattle.cg_unroll.specs.Claims.{target_of}
use Rattle.cg_plan.specs.inner.Naming.{AreNames, NameFits, claims_named, named, question_of}

-- the numbers of n registers
all_below : (n : ℕ) → All (λ r. r < n) (range_with_len 0 n)
all_below n = All-from_get_or (λ r. r < n) (range_with_len 0 n) 0 (λ i within.
    let e = get_or-range_with_len 0 n i 0 (omega (arith, within, length-range_with_len 0 n)) in
    omega (arith, e, within, length-range_with_len 0 n))

module _ (m : MachineData) (s : Stage) where
  -- a target's name names it
  record NamesTarget (t : ClaimName × Target) : Type 0 where
    question : question_of m s t.0 ≡ unseen_question s.enable s.guards s.regs t.1
    fits : NameFits m t.0

  outputs_named : (ys : List ℕ) (k : ℕ) → ((j y : ℕ) → slice_get ys j ≡ Some y → slice_get m.circuit.outputs (k + j) ≡ Some y) → All NamesTarget (output_targets k ys)
  outputs_named [] k at = All-nil NamesTarget
  outputs_named (y ∷ ys) k at =
      let e : k + 0 ≡ k = omega arith in
      let here : slice_get m.circuit.outputs k ≡ Some y = ap (slice_get m.circuit.outputs) (sym e) ∙ at 0 y refl in
      All-cons NamesTarget (Output k, Shown y) (output_targets (k + 1) ys)
      (record { question = ap (λ z. unseen_question s.enable s.guards s.regs (Shown z)) (get_or_from_slice_get m.circuit.outputs k y 0 here); fits = slice_get_within m.circuit.outputs k y here })
      (outputs_named ys (k + 1) (λ j z is. let f : k + 1 + j ≡ k + suc j = omega arith in ap (slice_get m.circuit.outputs) f ∙ at (suc j) z is))

  targets_named : All NamesTarget (all_targets m)
  targets_named =
      All-append NamesTarget (output_targets 0 m.circuit.outputs ++ map (λ (r : ℕ). (NextName r, Next r)) (registers_of m)) ((Enable, Joined) ∷ [])
      (All-append NamesTarget (output_targets 0 m.circuit.outputs) (map (λ (r : ℕ). (NextName r, Next r)) (registers_of m))
      (outputs_named m.circuit.outputs 0 (λ j y is. let e : 0 + j ≡ j = omega arith in ap (slice_get m.circuit.outputs) e ∙ is))
      (All-map NamesTarget (λ (r : ℕ). (NextName r, Next r)) (registers_of m) (λ k d within. record { question = refl; fits = all_below (length m.circuit.registers) k d within })))
      (All-cons NamesTarget (Enable, Joined) [] (record { question = refl; fits = tt }) (All-nil NamesTarget))

  pairs_named : (ts : List (ClaimName × Target)) → All NamesTarget ts → claims_named m s (map (λ (t : ClaimName × Target). t.0) ts) ≡ map (target_claim s) ts
  pairs_named [] all = refl
  pairs_named (t ∷ ts) all =
      let head : NamesTarget t = All-head NamesTarget t ts all in
      ap (λ (q : Question). (t.0, q) ∷ claims_named m s (map (λ (u : ClaimName × Target). u.0) ts)) head.question
      ∙ ap (λ (l : List NamedClaim). target_claim s t ∷ l) (pairs_named ts (All-tail NamesTarget t ts all))

  unseen_named : All NamesTarget (unseen_targets m s.enable s.regs)
  unseen_named = All-filter (λ t. meets m s.enable s.regs t.1) NamesTarget (all_targets m) targets_named

  hold_named : (rs : List ℕ) → claims_named m s (map HoldName rs) ≡ map (λ r. (HoldName r, hold_question (first_literal s.enable) r)) rs
  hold_named [] = refl
  hold_named (r ∷ rs) = ap (λ (l : List NamedClaim). (HoldName r, hold_question (first_literal s.enable) r) ∷ l) (hold_named rs)

  stable_named : (rs : List ℕ) → claims_named m s (map StableName rs) ≡ map (λ r. (StableName r, stable_question s.enable r)) rs
  stable_named [] = refl
  stable_named (r ∷ rs) = ap (λ (l : List NamedClaim). (StableName r, stable_question s.enable r) ∷ l) (stable_named rs)

  module _ (good : IsMachine m) (fits : Fits m s) where
    pub registers_there : All (λ r. r < length m.circuit.registers) s.regs
    registers_there = All-from_members (λ r. r < length m.circuit.registers) s.regs (λ r among. let b = fits.registers r among in omega (arith, b, good.own_registers))

    pub guards_there : All (λ r. r < length m.circuit.registers) s.guards
    guards_there = All-from_members (λ r. r < length m.circuit.registers) s.guards fits.guards

    pub nets_there : All (λ (l : Literal). l.0 < length m.circuit.names) s.enable
    nets_there = λ k d within.
        let there = All-from_members (λ y. y < length m.circuit.names) (enable_nets s) (λ y among. (fits.nets y among).below) in
        literal_there s.enable there k d within
      where
        literal_there : (E : List Literal) → All (λ y. y < length m.circuit.names) (map (λ (l : Literal). l.0) E) → All (λ (l : Literal). l.0 < length m.circuit.names) E
        literal_there [] all = All-nil (λ (l : Literal). l.0 < length m.circuit.names)
        literal_there (l ∷ E) all =
            All-cons (λ (k : Literal). k.0 < length m.circuit.names) l E (All-head (λ y. y < length m.circuit.names) l.0 (map (λ (k : Literal). k.0) E) all)
            (literal_there E (All-tail (λ y. y < length m.circuit.names) l.0 (map (λ (k : Literal). k.0) E) all))

    pub first_there : IsNet m (first_literal s.enable).0
    first_there = go s.enable fits.enabled fits.nets
      where
        go : (E : List Literal) → 0 < length E → ((y : ℕ) → is_in (map (λ (k : Literal). k.0) E) y ≡ true → IsNet m y) → IsNet m (first_literal E).0
        go [] some nets = absurd (omega arith)
        go (k ∷ E) some nets = nets k.0 (or_left (nat_eq k.0 k.0) (is_in (map (λ (j : Literal). j.0) E) k.0) (eq-eqb k.0 k.0 refl))

    pub hold_names : (names : List ClaimName) → s.kind ≡ Hold → names ≡ map HoldName s.regs → AreNames m s names
    hold_names names kind is = record {
      whole = ap (claims_named m s) is ∙ (hold_named s.regs ∙ ap (λ k. claims_by k m s) (sym kind));
      fit = subst (All (NameFits m)) (sym is) (All-map (NameFits m) HoldName s.regs registers_there);
    }

    pub stable_names : (names : List ClaimName) → s.kind ≡ Stable → names ≡ map StableName s.regs → AreNames m s names
    stable_names names kind is = record {
      whole = ap (claims_named m s) is ∙ (stable_named s.regs ∙ ap (λ k. claims_by k m s) (sym kind));
      fit = subst (All (NameFits m)) (sym is) (All-map (NameFits m) StableName s.regs registers_there);
    }

    pub unseen_names : (names : List ClaimName) → s.kind ≡ Unseen → names ≡ map (λ (t : ClaimName × Target). t.0) (unseen_targets m s.enable s.regs) → AreNames m s names
    unseen_names names kind is = record {
      whole = ap (claims_named m s) is ∙ (pairs_named (unseen_targets m s.enable s.regs) unseen_named ∙ ap (λ k. claims_by k m s) (sym kind));
      fit = subst (All (NameFits m)) (sym is) (All-map (NameFits m) (λ (t : ClaimName × Target). t.0) (unseen_targets m s.enable s.regs) (λ k d within. (unseen_named k d within).fits));
    }

-- the sides of a claim's question name registers that are there
pub sides_fit : (m : MachineData) (s : Stage) (name : ClaimName) → NameFits m name → SidesFit m (question_of m s name).sides
sides_fit m s Idle fits = tt
sides_fit m s (HoldName r) fits = (fits, fits)
sides_fit m s (StableName r) fits = (fits, fits)
sides_fit m s (Output k) fits = (tt, tt)
sides_fit m s (NextName r) fits = (fits, fits)
sides_fit m s Enable fits = (tt, tt)

-- the question of a target
pub target_question : (m : MachineData) (s : Stage) (name : ClaimName) → ((k : ℕ) × (name ≡ Output k)) ⊎ (((r : ℕ) × (name ≡ NextName r)) ⊎ (name ≡ Enable)) → unseen_question s.enable s.guards s.regs (target_of m name) ≡ question_of m s name
target_question m s Idle (inl is) = absurd (let e = is.1 in cc)
target_question m s Idle (inr (inl is)) = absurd (let e = is.1 in cc)
target_question m s Idle (inr (inr is)) = absurd (cc)
target_question m s (HoldName r) (inl is) = absurd (let e = is.1 in cc)
target_question m s (HoldName r) (inr (inl is)) = absurd (let e = is.1 in cc)
target_question m s (HoldName r) (inr (inr is)) = absurd (cc)
target_question m s (StableName r) (inl is) = absurd (let e = is.1 in cc)
target_question m s (StableName r) (inr (inl is)) = absurd (let e = is.1 in cc)
target_question m s (StableName r) (inr (inr is)) = absurd (cc)
target_question m s (Output k) is = refl
target_question m s (NextName r) is = refl
target_question m s Enable is = refl

-- what holds of an answer
pub if_ok : {T E : Type 0} (r : Result T E) (P Q : T → Type 0) → ((x : T) → P x → Q x) → IfOk r P → IfOk r Q
if_ok (Ok x) P Q then_ h = then_ x h
if_ok (Err e) P Q then_ h = tt

-- names from a place on, and up to the next
pub names_at : (names : List ClaimName) (i : ℕ) (name : ClaimName) → slice_get names i ≡ Some name → drop i names ≡ name ∷ drop (i + 1) names
names_at names i name at = let e : i + 1 ≡ suc i = omega arith in go names i at ∙ ap (λ n. name ∷ drop n names) (sym e)
  where
    go : (xs : List ClaimName) (k : ℕ) → slice_get xs k ≡ Some name → drop k xs ≡ name ∷ drop (suc k) xs
    go [] k is = absurd (cc)
    go (x ∷ xs) zero is = ap (λ y. y ∷ xs) (let e : x ≡ name = cc in e)
    go (x ∷ xs) (suc k) is = go xs k is

pub names_to : (names : List ClaimName) (i : ℕ) (name : ClaimName) → slice_get names i ≡ Some name → take (i + 1) names ≡ take i names ++ name ∷ []
names_to names i name at = let e : i + 1 ≡ suc i = omega arith in ap (λ n. take n names) e ∙ go names i at
  where
    go : (xs : List ClaimName) (k : ℕ) → slice_get xs k ≡ Some name → take (suc k) xs ≡ take k xs ++ name ∷ []
    go [] k is = absurd (cc)
    go (x ∷ xs) zero is = ap (λ y. y ∷ []) (let e : x ≡ name = cc in e)
    go (x ∷ xs) (suc k) is = ap (λ l. x ∷ l) (go xs k is)

module _ (m : MachineData) (s : Stage) where
  pub claims_at : (names : List ClaimName) (i : ℕ) (name : ClaimName) → slice_get names i ≡ Some name → claims_named m s (drop i names) ≡ named m s name ∷ claims_named m s (drop (i + 1) names)
  claims_at names i name at = ap (claims_named m s) (names_at names i name at)

  pub claims_to : (names : List ClaimName) (i : ℕ) (name : ClaimName) → slice_get names i ≡ Some name → claims_named m s (take (i + 1) names) ≡ claims_named m s (take i names) ++ named m s name ∷ []
  claims_to names i name at = ap (claims_named m s) (names_to names i name at) ∙ map-append (named m s) (take i names) (name ∷ [])

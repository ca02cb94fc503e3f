-- The targets without a register of G in their cone show none of them, so that the claims of the others suffice.
use Rattle.std.proofs.Common.{◌≡◌, ℕ, zero, suc, ◌+◌, Bool, true, false, cond, List, [], ◌∷◌, ◌++◌, map, length, nat_eq, slice_get}
use Rattle.std.proofs.Common.{Some, refl, sym, ◌∙◌, ap, subst, ◌⊎◌, inl, inr, arith}
use Rattle.std.specs.List.{filter}
use Rattle.std.proofs.lemmas.Bool.{both_ways, cases_Bool, eqb-true, or_cases}
use Rattle.std.proofs.lemmas.Option.{none-some, same_Some}
use Rattle.cg_net.specs.NetSets.{is_in}
use Rattle.cg_machine.specs.Claims.{Joined, Literal, Next, Shown, Target, Unseen}
use Rattle.cg_machine.specs.Machine.{IsMachine, MachineData}
use Rattle.cg_claim.specs.declared.name.ClaimName.{ClaimName}
use Rattle.cg_claim.specs.declared.name.ClaimName.TheVariants.{Output, Next as NextName, Enable}
use Rattle.cg_claim.specs.Laws.{IsNeverOne}
use Rattle.cg_claim.specs.Question.{target_part, unseen_question}
use Rattle.cg_claim.specs.Reach.{registers_of}
use Rattle.cg_claim.specs.Targets.{IsTarget, all_targets, meets, output_targets, unseen_targets}
use Rattle.cg_claim.specs.Violates.{CopyPartFits}
use Rattle.cg_claim.proofs.Apart.{apart_unseen}
use Rattle.cg_claim.proofs.ClaimsHold.{never_unseen}
use Rattle.cg_claim.proofs.GoalBits.{claim_says}
use Rattle.cg_netlist.proofs.Filtered.{range_in}

-- an item stands in a list
record Among {T : Type 0} (x : T) (xs : List T) : Type 0 where
  place : ℕ
  at : slice_get xs place ≡ Some x

among_none : {T : Type 0} (x : T) → Among x [] → ⊥
among_none x a = none-some x a.at

among_cons : {T : Type 0} (x y : T) (xs : List T) → Among x (y ∷ xs) → (y ≡ x) ⊎ Among x xs
among_cons x y xs a = go a.place a.at
  where
    go : (k : ℕ) → slice_get (y ∷ xs) k ≡ Some x → (y ≡ x) ⊎ Among x xs
    go zero is = inl (same_Some y x is)
    go (suc k) is = inr (record { place = k; at = is })

later : {T : Type 0} (x y : T) (xs : List T) → Among x xs → Among x (y ∷ xs)
later x y xs a = record { place = suc a.place; at = a.at }

in_back : {T : Type 0} (x : T) (xs ys : List T) → Among x ys → Among x (xs ++ ys)
in_back x [] ys a = a
in_back x (y ∷ xs) ys a = later x y (xs ++ ys) (in_back x xs ys a)

in_front : {T : Type 0} (x : T) (xs ys : List T) → Among x xs → Among x (xs ++ ys)
in_front x [] ys a = absurd (among_none x a)
in_front x (y ∷ xs) ys a = elim (among_cons x y xs a) [
  | inl same ↦ record { place = 0; at = ap Some same }
  | inr more ↦ later x y (xs ++ ys) (in_front x xs ys more)
]

in_filter : {T : Type 0} (test : T → Bool) (x : T) (xs : List T) → Among x xs → test x ≡ true → Among x (filter test xs)
in_filter test x [] a passes = absurd (among_none x a)
in_filter test x (y ∷ xs) a passes = go (among_cons x y xs a) (λ more. in_filter test x xs more passes) (test y) refl
  where
    go : (y ≡ x) ⊎ Among x xs → (Among x xs → Among x (filter test xs)) → (b : Bool) → test y ≡ b → Among x (cond b (y ∷ filter test xs) (filter test xs))
    go (inl same) rest true is = record { place = 0; at = ap Some same }
    go (inl same) rest false is = absurd (both_ways (test y) is (ap test same ∙ passes))
    go (inr more) rest true is = later x y (filter test xs) (rest more)
    go (inr more) rest false is = rest more

in_map : {T : Type 0} (f : ℕ → T) (x : ℕ) (xs : List ℕ) → is_in xs x ≡ true → Among (f x) (map f xs)
in_map f x [] among = absurd (both_ways false refl among)
in_map f x (y ∷ xs) among = elim (or_cases (nat_eq x y) (is_in xs x) among) [
  | inl same ↦ record { place = 0; at = ap (λ z. Some (f z)) (sym (eqb-true x y same)) }
  | inr more ↦ later (f x) (f y) (map f xs) (in_map f x xs more)
]

-- a target has a name
output_among : (ys : List ℕ) (k y : ℕ) → is_in ys y ≡ true → (j : ℕ) × Among (Output j, Shown y) (output_targets k ys)
output_among [] k y among = absurd (both_ways false refl among)
output_among (z ∷ ys) k y among = elim (or_cases (nat_eq y z) (is_in ys y) among) [
  | inl same ↦ (k, record { place = 0; at = ap (λ w. Some (Output k, Shown w)) (sym (eqb-true y z same)) })
  | inr more ↦ let r = output_among ys (k + 1) y more in (r.0, later (Output r.0, Shown y) (Output k, Shown z) (output_targets (k + 1) ys) r.1)
]

target_among : (m : MachineData) (t : Target) → IsTarget m t → (name : ClaimName) × Among (name, t) (all_targets m)
target_among m (Shown y) is =
    let r = output_among m.circuit.outputs 0 y is in
    let shown = output_targets 0 m.circuit.outputs in
    (Output r.0, in_front (Output r.0, Shown y) (shown ++ map (λ q. (NextName q, Next q)) (registers_of m)) ((Enable, Joined) ∷ []) (in_front (Output r.0, Shown y) shown (map (λ q. (NextName q, Next q)) (registers_of m)) r.1))
target_among m (Next r) is =
    let zero_r : 0 + r ≡ r = omega arith in
    let shown = output_targets 0 m.circuit.outputs in
    let inside : is_in (registers_of m) r ≡ true = subst (λ z. is_in (registers_of m) z ≡ true) zero_r (range_in (length m.circuit.registers) 0 r is) in (
      NextName r,
      in_front (NextName r, Next r) (shown ++ map (λ q. (NextName q, Next q)) (registers_of m)) ((Enable, Joined) ∷ [])
          (in_back (NextName r, Next r) shown (map (λ q. (NextName q, Next q)) (registers_of m)) (in_map (λ q. (NextName q, Next q)) r (registers_of m) inside)),
    )
target_among m Joined is =
    (Enable, in_back (Enable, Joined) (output_targets 0 m.circuit.outputs ++ map (λ q. (NextName q, Next q)) (registers_of m)) ((Enable, Joined) ∷ []) (record { place = 0; at = refl }))

pub target_fits : (m : MachineData) (t : Target) → IsTarget m t → CopyPartFits m (target_part t)
target_fits m (Shown y) is = tt
target_fits m (Next r) is = is
target_fits m Joined is = tt

-- a target of which the goal is never 1 where it has a register of G in its cone
pub all_unseen : (m : MachineData) (E : List Literal) (Q G : List ℕ) → IsMachine m
    → ((k : ℕ) (name : ClaimName) (t : Target) → slice_get (unseen_targets m E G) k ≡ Some (name, t) → IsNeverOne m (unseen_question E Q G t))
    → (t : Target) → IsTarget m t → Unseen m E Q G t
all_unseen m E Q G good never t is =
    let fit = target_fits m t is in
    elim (cases_Bool (meets m E G t)) [
      | inr none ↦ apart_unseen m E Q G t good fit none
      | inl some ↦
          let name = target_among m t is in
          let asked : Among (name.0, t) (unseen_targets m E G) = in_filter (λ (u : ClaimName × Target). meets m E G u.1) (name.0, t) (all_targets m) name.1 some in
          never_unseen m E Q G t ((claim_says m (unseen_question E Q G t) good (fit, fit)).0 (never asked.place name.0 t asked.at))
    ]

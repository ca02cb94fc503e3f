-- The hold stages of a list come through their claims on the machine that they were looked for on.
use Rattle.std.proofs.Common.{◌≡◌, ◌≤◌, ℕ, Bool, true, false, not, ◌||◌, ◌&&◌, if◌then◌else◌, cond, List, [], ◌∷◌, ◌++◌, map, length}
use Rattle.std.proofs.Common.{nat_eq, nat_lt, slice_get, Option, None, Some, refl, sym, ◌∙◌, ap, subst, inl, inr, arith}
use Rattle.std.specs.List.{cons_option, filter, filter_map, find, flat_map, list_any}
use Rattle.std.specs.Option.{option_map_or}
use Rattle.std.proofs.lemmas.Bool.{and_parts, both_ways, eqb-true, false_from_ne_true, lt-ltb, ltb-true, not-true, or_cases, or_left, or_right}
use Rattle.std.proofs.lemmas.List.{length-map}
use Rattle.std.proofs.lemmas.Option.{none-some, same_Some}
use Rattle.cg_limit.specs.declared.Limit.TheVariants.{ClaimNodes}
use Rattle.cg_limit.specs.declared.TheConstants.{MOST_CLAIM_NODES}
use Rattle.cg_net.specs.NetSets.{is_in}
use Rattle.cg_netlist.specs.Circuit.{RegisterCell, shown_nets}
use Rattle.cg_netlist.proofs.Filtered.{in_filter}
use Rattle.cg_netlist_cone.specs.Cone.{IsInCone, cone_of}
use Rattle.cg_netlist_cone.proofs.Cones.{cone_has, cone_is, from_way}
use Rattle.cg_machine.specs.Claims.{Literal}
use Rattle.cg_machine.specs.Machine.{IsMachine, MachineData, walk_of}
use Rattle.cg_machine.specs.declared.stage.Stage.{Stage}
use Rattle.cg_claim.specs.Build.{nodes_of}
use Rattle.cg_claim.specs.LeafBits.{is_never}
use Rattle.cg_claim.specs.Leaves.{Leaf, is_reached, sources, width_of}
use Rattle.cg_claim.specs.Question.{Before, Question, hold_question, idle_question}
use Rattle.cg_claim.specs.Reach.{after_states, before_nets, before_states, enable_nets, feeds, inputs_of_register}
use Rattle.cg_claim.specs.Reach.{origin_asks, origin_nets, registers_of, sides_ask, sides_nets}
use Rattle.cg_claim.specs.declared.leaf.LeafSource.{LeafSource}
use Rattle.cg_claim.specs.declared.leaf.LeafSource.TheVariants.{Input as InputOf, Register as RegisterOf}
use Rattle.cg_claim.specs.declared.name.ClaimName.TheVariants.{Hold as HoldName, Idle}
use Rattle.cg_claim.proofs.HoldWidths.{hold_widths}
use Rattle.cg_claim.proofs.IdleSizes.{idle_is_no_larger}
use Rattle.cg_claim.proofs.OneCopy.{IsOneCopy, filter_none, hold_one, idle_one, leaves_one}
use Rattle.cg_claim.proofs.Reached.{and_first}
use Rattle.cg_stage_list_laws.specs.HoldList.{choices, chosen, chosen_regs, hold_list, hold_passes, hold_stage, hold_width, is_large}
use Rattle.cg_stage_list_laws.specs.HoldList.{looked_at, serves, unless_empty, up_to}
use Rattle.cg_stage_list_laws.specs.Literals.{ZeroCounts, both_literals, literals_of, same_bool, same_literal}
use Rattle.cg_stage_list_laws.specs.Supports.{all_nets, free_registers, in_net_order, input_cone}
use Rattle.cg_stage_list_laws.proofs.Among.{Among, later}
use Rattle.cg_stage_list_laws.proofs.HoldFits.{both_among, sorted_among}
use Rattle.cg_plan_laws.specs.Cleared.{AllCleared, IsCleared}
use Rattle.cg_plan_laws.specs.StageClaims.{NamedClaim}
use Rattle.cg_plan_laws.specs.Trying.{Ends, Passes, Tried, first_false, measured}
use Rattle.cg_plan_laws.specs.declared.outcome.Outcome.TheVariants.{Wide}
use Rattle.cg_plan_laws.proofs.ClearedOn.{held_claims}
use Rattle.cg_plan_laws.proofs.SameClaims.{second_false}

first_of : (a b : Bool) → (a || b) ≡ false → a ≡ false
first_of true b h = h
first_of false b h = refl

no_less : (w a b : ℕ) → a ≤ b → nat_lt w b ≡ false → nat_lt w a ≡ false
no_less w a b below none = false_from_ne_true (nat_lt w a) (λ h. let less = ltb-true w a h in both_ways (nat_lt w b) none (lt-ltb w b (omega (arith, less, below))))

bool_is : (a b : Bool) → same_bool a b ≡ true → a ≡ b
bool_is true true h = refl
bool_is true false h = sym h
bool_is false true h = h
bool_is false false h = refl

literal_is : (l k : Literal) → same_literal l k ≡ true → l ≡ k
literal_is l k same =
    let p = and_parts (nat_eq l.0 k.0) (same_bool l.1 k.1) same in
    pair l.0 k.0 l.1 k.1 (eqb-true l.0 k.0 p.0) (bool_is l.1 k.1 p.1)
  where
    pair : (a b : ℕ) (c d : Bool) → a ≡ b → c ≡ d → ◌≡◌ {A = ℕ × Bool} (a, c) (b, d)
    pair a b c d e f = cc

-- the item that is found of a list, which is the last that is looked at
record Finds (test big : Literal → Bool) (ls : List Literal) (l : Literal) : Type 0 where
  among : Among l ls
  passes : test l ≡ true
  small : big l ≡ false

finds : (test big : Literal → Bool) (ls : List Literal) (l : Literal) → find test ls ≡ Some l → list_any big (up_to test ls) ≡ false → Finds test big ls l
finds test big [] l is none = absurd (none-some l is)
finds test big (k ∷ ls) l is none = go (finds test big ls l) (test k) refl is none
  where
    go : (find test ls ≡ Some l → list_any big (up_to test ls) ≡ false → Finds test big ls l) → (b : Bool) → test k ≡ b
        → cond b (Some k) (find test ls) ≡ Some l → list_any big (if b then k ∷ [] else k ∷ up_to test ls) ≡ false → Finds test big (k ∷ ls) l
    go rest true at h n =
        let same : k ≡ l = same_Some k l h in
        subst (Finds test big (k ∷ ls)) same (record { among = record { place = 0; at = refl }; passes = at; small = first_of (big k) false n })
    go rest false at h n =
        let f = rest h (second_false (big k) (list_any big (up_to test ls)) n) in
        record { among = later l k ls f.among; passes = f.passes; small = f.small }

-- more items pass a weaker test
passes_more : {T : Type 0} (f g : T → Bool) (xs : List T) → ((x : T) → f x ≡ true → g x ≡ true) → length (filter f xs) ≤ length (filter g xs)
passes_more f g [] more = omega arith
passes_more f g (x ∷ xs) more = go (passes_more f g xs more) (f x) (g x) (more x)
  where
    go : length (filter f xs) ≤ length (filter g xs) → (a b : Bool) → (a ≡ true → b ≡ true) → length (cond a (x ∷ filter f xs) (filter f xs)) ≤ length (cond b (x ∷ filter g xs) (filter g xs))
    go rest true true h = omega (arith, rest)
    go rest true false h = absurd (both_ways false refl (h refl))
    go rest false true h = omega (arith, rest)
    go rest false false h = rest

any_more : (f g : ℕ → Bool) (xs : List ℕ) → ((x : ℕ) → f x ≡ true → g x ≡ true) → list_any f xs ≡ true → list_any g xs ≡ true
any_more f g [] more h = absurd (both_ways false refl h)
any_more f g (x ∷ xs) more h = elim (or_cases (f x) (list_any f xs) h) [
  | inl here ↦ or_left (g x) (list_any g xs) (more x here)
  | inr further ↦ or_right (g x) (list_any g xs) (any_more f g xs more further)
]

module _ (m : MachineData) (good : IsMachine m) where
  width_one : (q : Question) → IsOneCopy m q → width_of m q ≡ length (filter (is_reached m q Before) (sources m))
  width_one q one = ap length (leaves_one m q one) ∙ length-map (filter (is_reached m q Before) (sources m)) (λ (source : LeafSource). (let l : Leaf = record { copy = Before; source = source } in l))

  -- that a literal can be 0 reaches no more than that a register holds its bit where it is
  module _ (e : Literal) (r : ℕ) where
    abbrev idle : Question
    idle = idle_question (e ∷ [])

    abbrev hold : Question
    hold = hold_question e r

    abbrev others : List ℕ
    others = sides_nets m (enable_nets hold) Before hold.sides ++ flat_map (origin_nets m hold) (filter (after_states m hold) (registers_of m))

    nets_within : (y : ℕ) → is_in (before_nets m (idle_question (e ∷ []))) y ≡ true → is_in (before_nets m (hold_question e r)) y ≡ true
    nets_within y h =
        let one : IsOneCopy m idle = idle_one m (e ∷ []) in
        let alone : is_in (cone_of (walk_of m) (e.0 ∷ [])) y ≡ true = ap (λ rs. is_in (cone_of (walk_of m) (e.0 ∷ flat_map (origin_nets m idle) rs)) y) (sym (filter_none (after_states m idle) (registers_of m) one.states)) ∙ h in
        let way : IsInCone m.circuit.cells (e.0 ∷ []) y = (cone_is m.circuit.cells (walk_of m) good.walk (e.0 ∷ []) y).0 alone in
        let root : nat_eq way.root e.0 ≡ true = elim (or_cases (nat_eq way.root e.0) false way.among) [ inl same ↦ same | inr none ↦ absurd (both_ways false refl none) ] in
        from_way m.circuit.cells (walk_of m) good.walk (e.0 ∷ others) y way.root way.reaches (cone_has (walk_of m) (e.0 ∷ others) way.root (or_left (nat_eq way.root e.0) (is_in others way.root) root))

    feeds_more : (k : ℕ) → feeds m (before_nets m (idle_question (e ∷ []))) k ≡ true → feeds m (before_nets m (hold_question e r)) k ≡ true
    feeds_more k = go (slice_get m.circuit.registers k)
      where
        go : (o : Option (RegisterCell ℕ ℕ)) → option_map_or (λ (cell : RegisterCell ℕ ℕ). list_any (is_in (before_nets m idle)) (shown_nets cell)) o false ≡ true → option_map_or (λ (cell : RegisterCell ℕ ℕ). list_any (is_in (before_nets m hold)) (shown_nets cell)) o false ≡ true
        go None h = h
        go (Some cell) h = any_more (is_in (before_nets m idle)) (is_in (before_nets m hold)) (shown_nets cell) nets_within h

    idle_feeds : (k : ℕ) → before_states m (idle_question (e ∷ [])) k ≡ true → feeds m (before_nets m (idle_question (e ∷ []))) k ≡ true
    idle_feeds k h =
        let one : IsOneCopy m idle = idle_one m (e ∷ []) in
        elim (or_cases (feeds m (before_nets m idle) k) (after_states m idle k && origin_asks m idle k) h) [
          | inl feeding ↦ feeding
          | inr further ↦ absurd (both_ways (after_states m idle k) (one.states k) (and_first (after_states m idle k) (origin_asks m idle k) further))
        ]

    within : (source : LeafSource) → is_reached m (idle_question (e ∷ [])) Before source ≡ true → is_reached m (hold_question e r) Before source ≡ true
    within (InputOf y) h = nets_within y h
    within (RegisterOf k) h = or_left (feeds m (before_nets m hold) k) (sides_ask m Before hold.sides k || (after_states m hold k && origin_asks m hold k)) (feeds_more k (idle_feeds k h))

    idle_is_no_wider : width_of m (idle_question (e ∷ [])) ≤ width_of m (hold_question e r)
    idle_is_no_wider =
        let few = width_one idle (idle_one m (e ∷ [])) in
        let many = width_one hold (hold_one m e r) in
        let more = passes_more (is_reached m idle Before) (is_reached m hold Before) (sources m) within in
        omega (arith, few, many, more)

  -- claims that are measured, and none of them ends its stage
  narrow_next : (width : ℕ) (c : NamedClaim) (claims : List NamedClaim) (further : Tried) → nat_lt width (width_of m c.1) ≡ false → is_large m c.1 ≡ false → measured m width (c ∷ claims) further ≡ measured m width claims further
  narrow_next width c claims further narrow small =
      ap (λ (b : Bool). if b then Ends (Wide c.0 (width_of m c.1)) else (if is_large m c.1 then Passes ClaimNodes else measured m width claims further)) narrow
      ∙ ap (λ (b : Bool). if b then Passes ClaimNodes else measured m width claims further) small

  module _ (counts : Option ZeroCounts) (width : ℕ) where
    -- what was found of a register and the literal that it chose
    record Serves (l : Literal) (r : ℕ) : Type 0 where
      narrow : nat_lt width (width_of m (hold_question l r)) ≡ false
      small : is_large m (hold_question l r) ≡ false
      holds : is_never m (hold_question l r) ≡ true
      idle_narrow : nat_lt width (width_of m (idle_question (l ∷ []))) ≡ false
      idle_small : is_large m (idle_question (l ∷ [])) ≡ false
      idles : is_never m (idle_question (l ∷ [])) ≡ false

    abbrev passes_at : ℕ → Bool
    passes_at r = list_any (λ l. is_large m (hold_question l r)) (looked_at m counts width r)

    serves_at : (l : Literal) (r : ℕ) → chosen m counts width r ≡ Some l → passes_at r ≡ false → Serves l r
    serves_at l r is none = go (nat_lt width (hold_width m r)) refl is none
      where
        go : (b : Bool) → nat_lt width (hold_width m r) ≡ b → (if b then None else find (serves m r) (literals_of m counts r)) ≡ Some l
            → list_any (λ k. is_large m (hold_question k r)) (if b then [] else up_to (serves m r) (literals_of m counts r)) ≡ false → Serves l r
        go true at h n = absurd (none-some l h)
        go false at h n =
            let f = finds (serves m r) (λ k. is_large m (hold_question k r)) (literals_of m counts r) l h n in
            let parts = and_parts (is_never m (hold_question l r)) (not (is_never m (idle_question (l ∷ [])))) f.passes in
            let among = both_among m good (in_net_order m (input_cone m r)) l (sorted_among m good counts (both_literals (in_net_order m (input_cone m r))) l f.among) in
            let cone : is_in (cone_of (walk_of m) (inputs_of_register m r)) l.0 ≡ true = (in_filter (is_in (input_cone m r)) (all_nets m) l.0 among).1 in
            let narrow : nat_lt width (width_of m (hold_question l r)) ≡ false = ap (nat_lt width) (hold_widths m good l r cone) ∙ at in
            record {
              narrow = narrow;
              small = f.small;
              holds = parts.0;
              idle_narrow = no_less width (width_of m (idle_question (l ∷ []))) (width_of m (hold_question l r)) (idle_is_no_wider l r) narrow;
              idle_small = no_less MOST_CLAIM_NODES (nodes_of m (idle_question (l ∷ []))) (nodes_of m (hold_question l r)) (idle_is_no_larger m l r good) f.small;
              idles = not-true (is_never m (idle_question (l ∷ []))) parts.1;
            }

    abbrev AreServed : Literal → List ℕ → Type 0
    AreServed l [] = Unit {0}
    AreServed l (r ∷ rs) = Serves l r × AreServed l rs

    abbrev choice : ℕ → ℕ × Option Literal
    choice r = (r, chosen m counts width r)

    abbrev took : Literal → ℕ × Option Literal → Bool
    took l c = option_map_or (same_literal l) c.1 false

    chose_is : (l : Literal) (r : ℕ) → option_map_or (same_literal l) (chosen m counts width r) false ≡ true → chosen m counts width r ≡ Some l
    chose_is l r h = go (chosen m counts width r) refl h
      where
        go : (o : Option Literal) → chosen m counts width r ≡ o → option_map_or (same_literal l) o false ≡ true → chosen m counts width r ≡ Some l
        go None at k = absurd (both_ways false refl k)
        go (Some j) at k = at ∙ ap Some (sym (literal_is l j k))

    are_served : (l : Literal) (rs : List ℕ) → list_any passes_at rs ≡ false → AreServed l (chosen_regs (map choice rs) l)
    are_served l [] none = tt
    are_served l (r ∷ rs) none = go (are_served l rs (second_false (passes_at r) (list_any passes_at rs) none)) (option_map_or (same_literal l) (chosen m counts width r) false) refl
      where
        go : AreServed l (chosen_regs (map choice rs) l) → (b : Bool) → option_map_or (same_literal l) (chosen m counts width r) false ≡ b
            → AreServed l (map (λ (c : ℕ × Option Literal). c.0) (cond b (choice r ∷ filter (took l) (map choice rs)) (filter (took l) (map choice rs))))
        go rest true at = (serves_at l r (chose_is l r at) (first_of (passes_at r) (list_any passes_at rs) none), rest)
        go rest false at = rest

    are_narrow : (l : Literal) (rs : List ℕ) → AreServed l rs → (further : Tried) → measured m width (held_claims l rs) further ≡ further
    are_narrow l [] served further = refl
    are_narrow l (r ∷ rs) served further =
        narrow_next width (HoldName r, hold_question l r) (held_claims l rs) further served.0.narrow served.0.small ∙ are_narrow l rs served.1 further

    are_true : (l : Literal) (rs : List ℕ) → AreServed l rs → first_false m (held_claims l rs) ≡ None
    are_true l [] served = refl
    are_true l (r ∷ rs) served =
        ap (λ (b : Bool). if b then first_false m (held_claims l rs) else Some (HoldName r)) served.0.holds ∙ are_true l rs served.1

    abbrev F : Literal → Option Stage
    F l = unless_empty (hold_stage l) (chosen_regs (choices m counts width) l)

    stage_cleared : (l : Literal) (s : Stage) (rs : List ℕ) → AreServed l rs → unless_empty (hold_stage l) rs ≡ Some s → IsCleared m width s
    stage_cleared l s [] served is = absurd (none-some s is)
    stage_cleared l s (r ∷ rs) served is =
        let cleared : IsCleared m width (hold_stage l (r ∷ rs)) = record {
          kind = refl;
          narrow = λ further.
              narrow_next width (Idle, idle_question (l ∷ [])) (held_claims l (r ∷ rs)) further served.0.idle_narrow served.0.idle_small
              ∙ are_narrow l (r ∷ rs) served further;
          idles = served.0.idles;
          holds = are_true l (r ∷ rs) served;
        } in
        subst (IsCleared m width) (same_Some (hold_stage l (r ∷ rs)) s is) cleared

    pub holds_cleared : hold_passes m counts width ≡ false → AllCleared m width (hold_list m counts width)
    holds_cleared none = all (both_literals (all_nets m))
      where
        all : (ls : List Literal) → AllCleared m width (filter_map F ls)
        all [] = tt
        all (l ∷ ls) = go (F l) refl (all ls)
          where
            go : (o : Option Stage) → F l ≡ o → AllCleared m width (filter_map F ls) → AllCleared m width (cons_option o (filter_map F ls))
            go None at rest = rest
            go (Some s) at rest = (stage_cleared l s (chosen_regs (choices m counts width) l) (are_served l (free_registers m) none) at, rest)

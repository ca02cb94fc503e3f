-- A register that takes a literal has a hold stage in the list; and where one of its literals serves, it takes one.
use Rattle.std.proofs.Common.{◌≡◌, ℕ, ◌<◌, Bool, true, false, if◌then◌else◌, cond, List, [], ◌∷◌, map, length, nat_eq, nat_lt, nat_le}
use Rattle.std.proofs.Common.{is_none, Option, None, Some, refl, sym, ◌∙◌, ap, subst, arith, ◌⊎◌, inl, inr}
use Rattle.std.specs.List.{cons_option, filter, filter_map, find}
use Rattle.std.specs.Option.{option_map_or}
use Rattle.std.proofs.lemmas.Bool.{and_from, both_ways, eqb-true, eq-eqb, or_cases, or_left, or_right}
use Rattle.std.proofs.lemmas.Option.{none-some}
use Rattle.cg_claim.specs.Reach.{inputs_of_register}
use Rattle.cg_machine.specs.Claims.{Literal}
use Rattle.cg_machine.specs.Machine.{IsMachine, MachineData, enable_of, walk_of}
use Rattle.cg_machine.specs.declared.stage.Stage.{Stage}
use Rattle.cg_net.specs.NetSets.{is_in}
use Rattle.cg_netlist.proofs.Driven.{in_range, is_in-range}
use Rattle.cg_netlist.proofs.Filtered.{in_filter, to_filter}
use Rattle.cg_stage_list_laws.specs.HoldList.{choices, chosen, chosen_regs, hold_list, hold_stage, hold_width, serves, unless_empty}
use Rattle.cg_stage_list_laws.specs.Literals.{ZeroCounts, both_literals, by_count, insert_literal, literals_of, same_bool, same_literal, zero_count}
use Rattle.cg_stage_list_laws.specs.Supports.{all_nets, free_registers, in_net_order, input_cone, own_registers_of}
use Rattle.cg_stage_list_laws.proofs.Among.{Among, among_cons, among_none, later}
use Rattle.cg_stage_list_laws.proofs.UsedNets.{cone_used, inputs_used, used_net}

first : {T : Type 0} (x : T) (xs : List T) → Among x (x ∷ xs)
first x xs = record { place = 0; at = refl }

-- literals in another order
put_among : (counts : Option ZeroCounts) (l : Literal) (ls : List Literal) (k : Literal) → (l ≡ k) ⊎ Among k ls → Among k (insert_literal counts l ls)
put_among counts l [] k which = elim which [ inl same ↦ subst (λ (j : Literal). Among k (j ∷ [])) (sym same) (first k []) | inr a ↦ absurd (among_none k a) ]
put_among counts l (j ∷ ls) k which = go (put_among counts l ls k) (nat_le (zero_count counts j) (zero_count counts l)) which
  where
    go : ((l ≡ k) ⊎ Among k ls → Among k (insert_literal counts l ls)) → (b : Bool) → (l ≡ k) ⊎ Among k (j ∷ ls) → Among k (if b then l ∷ j ∷ ls else j ∷ insert_literal counts l ls)
    go rest true (inl same) = subst (λ (i : Literal). Among k (i ∷ j ∷ ls)) (sym same) (first k (j ∷ ls))
    go rest true (inr a) = later k l (j ∷ ls) a
    go rest false (inl same) = later k j (insert_literal counts l ls) (rest (inl same))
    go rest false (inr a) = elim (among_cons k j ls a) [
      | inl here ↦ subst (λ (i : Literal). Among k (i ∷ insert_literal counts l ls)) (sym here) (first k (insert_literal counts l ls))
      | inr more ↦ later k j (insert_literal counts l ls) (rest (inr more))
    ]

by_count_among : (counts : Option ZeroCounts) (ls : List Literal) (k : Literal) → Among k ls → Among k (by_count counts ls)
by_count_among counts [] k a = absurd (among_none k a)
by_count_among counts (l ∷ ls) k a = elim (among_cons k l ls a) [
  | inl same ↦ put_among counts l (by_count counts ls) k (inl same)
  | inr more ↦ put_among counts l (by_count counts ls) k (inr (by_count_among counts ls k more))
]

taken_among : (counts : Option ZeroCounts) (l : Literal) (ls : List Literal) (k : Literal) → Among k (insert_literal counts l ls) → (l ≡ k) ⊎ Among k ls
taken_among counts l [] k a = elim (among_cons k l [] a) [ inl same ↦ inl same | inr none ↦ inr none ]
taken_among counts l (j ∷ ls) k a = go (taken_among counts l ls k) (nat_le (zero_count counts j) (zero_count counts l)) a
  where
    go : (Among k (insert_literal counts l ls) → (l ≡ k) ⊎ Among k ls) → (b : Bool) → Among k (if b then l ∷ j ∷ ls else j ∷ insert_literal counts l ls) → (l ≡ k) ⊎ Among k (j ∷ ls)
    go rest true h = among_cons k l (j ∷ ls) h
    go rest false h = elim (among_cons k j (insert_literal counts l ls) h) [
      | inl same ↦ inr (record { place = 0; at = ap Some same })
      | inr more ↦ elim (rest more) [ inl e ↦ inl e | inr w ↦ inr (later k j ls w) ]
    ]

among_by_count : (counts : Option ZeroCounts) (ls : List Literal) (k : Literal) → Among k (by_count counts ls) → Among k ls
among_by_count counts [] k a = a
among_by_count counts (l ∷ ls) k a = elim (taken_among counts l (by_count counts ls) k a) [
  | inl same ↦ record { place = 0; at = ap Some same }
  | inr more ↦ later k l ls (among_by_count counts ls k more)
]

-- both literals of a net
has_both : (nets : List ℕ) (l : Literal) → is_in nets l.0 ≡ true → Among l (both_literals nets)
has_both [] l among = absurd (both_ways false refl among)
has_both (y ∷ nets) l among = elim (or_cases (nat_eq l.0 y) (is_in nets l.0) among) [
  | inl same ↦ go l.1 refl (eqb-true l.0 y same)
  | inr more ↦ later l (y, false) ((y, true) ∷ both_literals nets) (later l (y, true) (both_literals nets) (has_both nets l more))
]
  where
    pair : (a b : ℕ) (c d : Bool) → a ≡ b → c ≡ d → ◌≡◌ {A = ℕ × Bool} (a, c) (b, d)
    pair a b c d e f = cc

    go : (b : Bool) → l.1 ≡ b → l.0 ≡ y → Among l ((y, false) ∷ (y, true) ∷ both_literals nets)
    go false is same = record { place = 0; at = ap Some (pair y l.0 false l.1 (sym same) (sym is)) }
    go true is same = record { place = 1; at = ap Some (pair y l.0 true l.1 (sym same) (sym is)) }

net_of_both : (nets : List ℕ) (l : Literal) → Among l (both_literals nets) → is_in nets l.0 ≡ true
net_of_both [] l a = absurd (among_none l a)
net_of_both (y ∷ nets) l a = elim (among_cons l (y, false) ((y, true) ∷ both_literals nets) a) [
  | inl same ↦ or_left (nat_eq l.0 y) (is_in nets l.0) (eq-eqb l.0 y (sym (ap (λ (k : Literal). k.0) same)))
  | inr more ↦ elim (among_cons l (y, true) (both_literals nets) more) [
    | inl same ↦ or_left (nat_eq l.0 y) (is_in nets l.0) (eq-eqb l.0 y (sym (ap (λ (k : Literal). k.0) same)))
    | inr rest ↦ or_right (nat_eq l.0 y) (is_in nets l.0) (net_of_both nets l rest)
  ]
]

-- the first literal that passes
found_one : (test : Literal → Bool) (ls : List Literal) (l : Literal) → find test ls ≡ Some l → Among l ls
found_one test [] l is = absurd (none-some l is)
found_one test (k ∷ ls) l is = go (found_one test ls l) (test k) is
  where
    go : (find test ls ≡ Some l → Among l ls) → (b : Bool) → cond b (Some k) (find test ls) ≡ Some l → Among l (k ∷ ls)
    go rest true h = record { place = 0; at = h }
    go rest false h = later l k ls (rest h)

none_passes : (test : Literal → Bool) (ls : List Literal) → find test ls ≡ None → (l : Literal) → Among l ls → test l ≡ false
none_passes test [] none l a = absurd (among_none l a)
none_passes test (k ∷ ls) none l a = go (none_passes test ls) (test k) refl none (among_cons l k ls a)
  where
    go : (find test ls ≡ None → (l : Literal) → Among l ls → test l ≡ false) → (b : Bool) → test k ≡ b → cond b (Some k) (find test ls) ≡ None → (k ≡ l) ⊎ Among l ls → test l ≡ false
    go rest true is h which = absurd (cc)
    go rest false is h (inl same) = ap test (sym same) ∙ is
    go rest false is h (inr more) = rest h l more

-- what is kept of a list
kept_among : {T U : Type 0} (F : T → Option U) (xs : List T) (x : T) (u : U) → Among x xs → F x ≡ Some u → Among u (filter_map F xs)
kept_among F [] x u a is = absurd (among_none x a)
kept_among {T} {U} F (y ∷ xs) x u a is = go (F y) refl (among_cons x y xs a) (λ more. kept_among F xs x u more is)
  where
    go : (o : Option U) → F y ≡ o → (y ≡ x) ⊎ Among x xs → (Among x xs → Among u (filter_map F xs)) → Among u (cons_option o (filter_map F xs))
    go None none (inl same) rest = let no : None ≡ Some u = sym none ∙ (ap F same ∙ is) in absurd (none-some u no)
    go None none (inr more) rest = rest more
    go (Some v) it (inl same) rest = record { place = 0; at = sym it ∙ (ap F same ∙ is) }
    go (Some v) it (inr more) rest = later u v (filter_map F xs) (rest more)

module _ (m : MachineData) (good : IsMachine m) (counts : Option ZeroCounts) (width r : ℕ) where
  -- the nets of its cone are nets
  cone_net : (y : ℕ) → is_in (input_cone m r) y ≡ true → y < length m.circuit.names
  cone_net y among = (used_net m good y (cone_used m good (walk_of m) good.walk.of_cells (inputs_of_register m r) (inputs_used m good r) y among)).below

  -- each literal of its cone is one of its literals
  literal_among : (l : Literal) → is_in (input_cone m r) l.0 ≡ true → Among l (literals_of m counts r)
  literal_among l among =
      let there : is_in (all_nets m) l.0 ≡ true = is_in-range (length m.circuit.names) 0 l.0 (omega arith) (let b = cone_net l.0 among in omega (arith, b)) in
      by_count_among counts (both_literals (in_net_order m (input_cone m r))) l (has_both (in_net_order m (input_cone m r)) l (to_filter (is_in (input_cone m r)) (all_nets m) l.0 there among))

  -- where it takes none and its claims are not too wide, none of them serves
  pub none_serves : chosen m counts width r ≡ None → nat_lt width (hold_width m r) ≡ false → (l : Literal) → is_in (input_cone m r) l.0 ≡ true → serves m r l ≡ false
  none_serves none narrow l among =
      none_passes (serves m r) (literals_of m counts r) (sym (ap (λ b. if b then None else find (serves m r) (literals_of m counts r)) narrow) ∙ none) l (literal_among l among)

  -- what it takes is a literal of a net
  chosen_below : (l : Literal) → chosen m counts width r ≡ Some l → l.0 < length m.circuit.names
  chosen_below l is = go (nat_lt width (hold_width m r)) is
    where
      go : (b : Bool) → (if b then None else find (serves m r) (literals_of m counts r)) ≡ Some l → l.0 < length m.circuit.names
      go true h = absurd (none-some l h)
      go false h =
          let a = among_by_count counts (both_literals (in_net_order m (input_cone m r))) l (found_one (serves m r) (literals_of m counts r) l h) in
          let b = in_range (length m.circuit.names) 0 l.0 (in_filter (is_in (input_cone m r)) (all_nets m) l.0 (net_of_both (in_net_order m (input_cone m r)) l a)).0 in
          omega (arith, b.1)

  -- and it has a stage in the list
  pub record HasStage : Type 0 where
    pub stage : Stage
    pub listed : Among stage (hold_list m counts width)
    pub among : is_in stage.regs r ≡ true

  same_itself : (l : Literal) → same_literal l l ≡ true
  same_itself l = and_from (nat_eq l.0 l.0) (same_bool l.1 l.1) (eq-eqb l.0 l.0 refl) (both l.1)
    where
      both : (b : Bool) → same_bool b b ≡ true
      both true = refl
      both false = refl

  choosing : (l : Literal) → chosen m counts width r ≡ Some l → (rs : List ℕ) → is_in rs r ≡ true → is_in (chosen_regs (map (λ q. (q, chosen m counts width q)) rs) l) r ≡ true
  choosing l is [] inside = absurd (both_ways false refl inside)
  choosing l is (q ∷ rs) inside = go (choosing l is rs) (option_map_or (same_literal l) (chosen m counts width q) false) refl (or_cases (nat_eq r q) (is_in rs r) inside)
    where
      go : (is_in rs r ≡ true → is_in (chosen_regs (map (λ p. (p, chosen m counts width p)) rs) l) r ≡ true) → (b : Bool) → option_map_or (same_literal l) (chosen m counts width q) false ≡ b → (nat_eq r q ≡ true) ⊎ (is_in rs r ≡ true)
          → is_in (map (λ (c : ℕ × Option Literal). c.0) (cond b ((q, chosen m counts width q) ∷ filter (λ (c : ℕ × Option Literal). option_map_or (same_literal l) c.1 false) (map (λ p. (p, chosen m counts width p)) rs)) (filter (λ (c : ℕ × Option Literal). option_map_or (same_literal l) c.1 false) (map (λ p. (p, chosen m counts width p)) rs)))) r ≡ true
      go more true it (inl same) = or_left (nat_eq r q) (is_in (chosen_regs (map (λ p. (p, chosen m counts width p)) rs) l) r) same
      go more true it (inr later') = or_right (nat_eq r q) (is_in (chosen_regs (map (λ p. (p, chosen m counts width p)) rs) l) r) (more later')
      go more false it (inl same) =
          absurd (both_ways (option_map_or (same_literal l) (chosen m counts width q) false) it
          (ap (λ p. option_map_or (same_literal l) (chosen m counts width p) false) (sym (eqb-true r q same)) ∙ (ap (λ o. option_map_or (same_literal l) o false) is ∙ same_itself l)))
      go more false it (inr later') = more later'

  pub has_stage : (l : Literal) → is_in (free_registers m) r ≡ true → chosen m counts width r ≡ Some l → HasStage
  has_stage l free is = go (chosen_regs (choices m counts width) l) refl
    where
      inside : is_in (chosen_regs (choices m counts width) l) r ≡ true
      inside = choosing l is (free_registers m) free

      listed : Among l (both_literals (all_nets m))
      listed = has_both (all_nets m) l (is_in-range (length m.circuit.names) 0 l.0 (omega arith) (let b = chosen_below l is in omega (arith, b)))

      go : (regs : List ℕ) → chosen_regs (choices m counts width) l ≡ regs → HasStage
      go [] none = absurd (both_ways (is_in (chosen_regs (choices m counts width) l) r) (ap (λ rs. is_in rs r) none) inside)
      go (q ∷ regs) some = record {
        stage = hold_stage l (q ∷ regs);
        listed = kept_among (λ k. unless_empty (hold_stage k) (chosen_regs (choices m counts width) k)) (both_literals (all_nets m)) l (hold_stage l (q ∷ regs)) listed (ap (unless_empty (hold_stage l)) some);
        among = sym (ap (λ rs. is_in rs r) some) ∙ inside;
      }

-- a register of the netlist without an enable is looked at
pub free_listed : (m : MachineData) (r : ℕ) → r < m.own_registers → enable_of m r ≡ None → is_in (free_registers m) r ≡ true
free_listed m r below free = to_filter (λ q. is_none (enable_of m q)) (own_registers_of m) r (is_in-range m.own_registers 0 r (omega arith) (omega (arith, below))) (ap is_none free)

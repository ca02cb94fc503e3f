-- The literals of a register are of nets of the cone of its inputs; a register without literals has no inputs.
use Rattle.std.proofs.Common.{◌≡◌, ℕ, zero, suc, ◌*◌, ◌+◌, ◌<◌, ◌≤◌, Bool, true, false, cond, if◌then◌else◌, List, [], ◌∷◌, length}
use Rattle.std.proofs.Common.{take, nat_eq, nat_le, nat_lt, slice_get, Option, Some, None, Result, Ok, Err, refl, sym, ◌∙◌, ap}
use Rattle.std.proofs.Common.{subst, arith}
use Rattle.std.specs.List.{filter, find, list_any}
use Rattle.std.specs.Option.{option_map_or}
use Rattle.std.proofs.lemmas.Bool.{both_ways, eq-eqb, or_left, or_right}
use Rattle.std.proofs.lemmas.Option.{none-some, same_Some}
use Rattle.cg_claim.specs.Question.{hold_question}
use Rattle.cg_claim.specs.Reach.{inputs_of_register}
use Rattle.cg_limit.specs.declared.Limit.TheVariants.{ClaimNodes}
use Rattle.cg_stage_list_laws.proofs.Mapped.{ordered_some}
use Rattle.cg_stage_list_laws.proofs.UsedNets.{inputs_used, used_net}
use Rattle.cg_stage_list_laws.specs.HoldList.{hold_width, is_large, serves, up_to}
use Rattle.cg_stage_list_laws.specs.Literals.{ZeroCounts, both_literals, by_count, zero_count, insert_literal, literals_of}
use Rattle.cg_stage_list_laws.specs.Supports.{all_nets, in_net_order, input_cone}
use Rattle.cg_machine.specs.Added.{own_netlist, own_nets}
use Rattle.cg_machine.specs.Claims.{Literal}
use Rattle.cg_machine.specs.Machine.{IsMachine, MachineData, walk_of}
use Rattle.cg_netlist_cone.proofs.Cones.{cone_has}
use Rattle.cg_netlist.specs.Circuit.{RegisterCell}
use Rattle.cg_net.specs.NetSets.{is_in}
use Rattle.cg_netlist_cone.specs.Cone.{cone_of}
use Rattle.cg_netlist.specs.declared.fault.AddFault.{AddFault}
use Rattle.cg_netlist.specs.declared.fault.AddFault.TheVariants.{Limit as LimitFault}
use Rattle.cg_hold.specs.declared.choice.Choice.{Choice}
use Rattle.cg_hold.specs.declared.choice.Choice.TheVariants.{Wide, Takes}
use Rattle.cg_hold.specs.inner.Choosing.{FitsChoice, IsLiteralOf, choice_by}
use Rattle.cg_netlist.proofs.ByRank.{filter_same}
use Rattle.cg_netlist.proofs.Filtered.{in_filter, range_in, to_filter}
use Rattle.std.specs.Cmp.{both_ways as same_truth}
use Rattle.cg_netlist.proofs.Driven.{in_range}

module _ (m : MachineData) (r : ℕ) where
  -- all are literals of the register
  abbrev pub AllOf : List Literal → Type 0
  AllOf [] = Unit {0}
  AllOf (l ∷ ls) = IsLiteralOf m r l × AllOf ls

  insert_all : (counts : Option ZeroCounts) (l : Literal) (ks : List Literal) → IsLiteralOf m r l → AllOf ks → AllOf (insert_literal counts l ks)
  insert_all counts l [] here all = (here, tt)
  insert_all counts l (k ∷ ks) here all = go (nat_le (zero_count counts k) (zero_count counts l)) (insert_all counts l ks here all.1)
    where
      go : (b : Bool) → AllOf (insert_literal counts l ks) → AllOf (if b then l ∷ k ∷ ks else k ∷ insert_literal counts l ks)
      go true rest = (here, all)
      go false rest = (all.0, rest)

  order_all : (counts : Option ZeroCounts) (ls : List Literal) → AllOf ls → AllOf (by_count counts ls)
  order_all counts [] all = tt
  order_all counts (l ∷ ls) all = insert_all counts l (by_count counts ls) all.0 (order_all counts ls all.1)

  both_all : (nets : List ℕ) → ((y : ℕ) → is_in nets y ≡ true → (is_in (input_cone m r) y ≡ true) × (y < length m.circuit.names)) → AllOf (both_literals nets)
  both_all [] each = tt
  both_all (y ∷ nets) each =
      let here = each y (or_left (nat_eq y y) (is_in nets y) (eq-eqb y y refl)) in
      (here, (here, both_all nets (λ z among. each z (or_right (nat_eq z y) (is_in nets z) among))))

  pub literals_all : (counts : Option ZeroCounts) → AllOf (literals_of m counts r)
  literals_all counts = order_all counts (both_literals (in_net_order m (input_cone m r))) (both_all (in_net_order m (input_cone m r)) (λ y among.
      let p = in_filter (is_in (input_cone m r)) (all_nets m) y among in
      let b = in_range (length m.circuit.names) 0 y p.0 in
      (p.1, omega (arith, b.1))))

  pub literal_at : (ls : List Literal) (k : ℕ) (l : Literal) → AllOf ls → slice_get ls k ≡ Some l → IsLiteralOf m r l
  literal_at [] k l all at = absurd (none-some l at)
  literal_at (j ∷ ls) zero l all at = subst (IsLiteralOf m r) (same_Some j l at) all.0
  literal_at (j ∷ ls) (suc k) l all at = literal_at ls k l all.1 at

  found_of : (test : Literal → Bool) (ls : List Literal) (l : Literal) → AllOf ls → find test ls ≡ Some l → IsLiteralOf m r l
  found_of test [] l all is = absurd (none-some l is)
  found_of test (j ∷ ls) l all is = go (test j) is (found_of test ls l all.1)
    where
      go : (b : Bool) → cond b (Some j) (find test ls) ≡ Some l → (find test ls ≡ Some l → IsLiteralOf m r l) → IsLiteralOf m r l
      go true h rest = subst (IsLiteralOf m r) (same_Some j l h) all.0
      go false h rest = rest h

  -- the parts of a choice
  abbrev parts : Bool → Bool → Option Literal → Result Choice AddFault
  parts w a o = if w then Ok Wide else if a then Err (LimitFault ClaimNodes) else Ok (Takes o)

  -- a literal that is taken has its place
  pub choice_fits : (width : ℕ) (ls : List Literal) (choice : Choice) (places : ℕ) → AllOf ls → places ≡ 2 * length m.circuit.names → choice_by m width r ls ≡ Ok choice → FitsChoice places choice
  choice_fits width ls choice places all is chosen = go (nat_lt width (hold_width m r)) (list_any (λ l. is_large m (hold_question l r)) (up_to (serves m r) ls)) (find (serves m r) ls) (found_of (serves m r) ls) chosen
    where
      fits : (o : Option Literal) → ((l : Literal) → AllOf ls → o ≡ Some l → IsLiteralOf m r l) → FitsChoice places (Takes o)
      fits None found = tt
      fits (Some l) found = let h = (found l all refl).1 in small l.1 h
        where
          small : (b : Bool) → l.0 < length m.circuit.names → 2 * l.0 + (if b then 1 else 0) < places
          small true h = omega (arith, is, h)
          small false h = omega (arith, is, h)

      go : (w a : Bool) (o : Option Literal) → ((l : Literal) → AllOf ls → o ≡ Some l → IsLiteralOf m r l) → parts w a o ≡ Ok choice → FitsChoice places choice
      go true a o found h = let e : Wide ≡ choice = cc in subst (FitsChoice places) e tt
      go false true o found h = absurd (cc)
      go false false o found h = let e : Takes o ≡ choice = cc in subst (FitsChoice places) e (fits o found)

  -- without literals there are no inputs
  inserted_some : (counts : Option ZeroCounts) (l : Literal) (ks : List Literal) → insert_literal counts l ks ≡ [] → ⊥
  inserted_some counts l [] h = cc
  inserted_some counts l (k ∷ ks) h = go (nat_le (zero_count counts k) (zero_count counts l)) h
    where
      go : (b : Bool) → (if b then l ∷ k ∷ ks else k ∷ insert_literal counts l ks) ≡ [] → ⊥
      go true e = cc
      go false e = cc

  pub alone : IsMachine m → (counts : Option ZeroCounts) → literals_of m counts r ≡ [] → inputs_of_register m r ≡ []
  alone good counts none = go (inputs_of_register m r) refl
    where
      some_nets : (nets : List ℕ) (y : ℕ) → is_in nets y ≡ true → by_count counts (both_literals nets) ≡ [] → ⊥
      some_nets [] y among h = both_ways false refl among
      some_nets (x ∷ nets) y among h = inserted_some counts (x, false) (by_count counts ((x, true) ∷ both_literals nets)) h

      go : (xs : List ℕ) → inputs_of_register m r ≡ xs → inputs_of_register m r ≡ []
      go [] is = is
      go (x ∷ xs) is =
          let among : is_in (inputs_of_register m r) x ≡ true = ap (λ l. is_in l x) is ∙ or_left (nat_eq x x) (is_in xs x) (eq-eqb x x refl) in
          let there : is_in (input_cone m r) x ≡ true = cone_has (walk_of m) (inputs_of_register m r) x among in
          absurd (some_nets (in_net_order m (input_cone m r)) x (ordered_some m (input_cone m r) x there (used_net m good x (inputs_used m good r x among)).below) none)

  -- the cone of the inputs of the register's cell is that of the register
  pub in_cone_of : (cell : RegisterCell ℕ ℕ) → slice_get m.circuit.registers r ≡ Some cell → (y : ℕ) → is_in (cone_of (walk_of m) cell.inputs) y ≡ is_in (input_cone m r) y
  in_cone_of cell at y = ap (λ o. is_in (cone_of (walk_of m) (option_map_or (λ (c : RegisterCell ℕ ℕ). c.inputs) o [])) y) (sym at)

  -- the nets of the cone, in net order
  pub nets_are : (cell : RegisterCell ℕ ℕ) → slice_get m.circuit.registers r ≡ Some cell → (found : List ℕ) → ((y : ℕ) → is_in found y ≡ is_in (cone_of (walk_of m) cell.inputs) y) → filter (is_in found) (all_nets m) ≡ in_net_order m (input_cone m r)
  nets_are cell at found same = filter_same (is_in found) (is_in (input_cone m r)) (all_nets m) (λ y among. same y ∙ ap (λ o. is_in (cone_of (walk_of m) (option_map_or (λ (c : RegisterCell ℕ ℕ). c.inputs) o [])) y) (sym at))

-- the netlist has no more nets than the machine, and each is one of the machine
pub own_shorter : (m : MachineData) → length (own_netlist m).names ≤ length m.circuit.names
own_shorter m = short (own_nets m) m.circuit.names
  where
    short : {X : Type 0} (n : ℕ) (xs : List X) → length (take n xs) ≤ length xs
    short zero [] = omega arith
    short zero (x ∷ xs) = omega arith
    short (suc n) [] = omega arith
    short (suc n) (x ∷ xs) = let h = short n xs in omega (arith, h)

pub own_below : (m : MachineData) (y : ℕ) → y < length (own_netlist m).names → y < length m.circuit.names
own_below m y below = let h = own_shorter m in omega (arith, below, h)

-- nets in net order stay so
pub ordered_twice : (m : MachineData) (xs : List ℕ) → in_net_order m xs ≡ in_net_order m (in_net_order m xs)
ordered_twice m xs = filter_same (is_in xs) (is_in (in_net_order m xs)) (all_nets m) (λ x among.
    truth (is_in xs x) (is_in (in_net_order m xs) x) (λ h. to_filter (is_in xs) (all_nets m) x among h) (λ h. (in_filter (is_in xs) (all_nets m) x h).1))
  where
    truth : (x y : Bool) → (x ≡ true → y ≡ true) → (y ≡ true → x ≡ true) → x ≡ y
    truth true y there back = sym (there refl)
    truth false true there back = back refl
    truth false false there back = refl

-- nets in net order are the same nets, where all are nets of the machine
pub ordered_same : (m : MachineData) (nets : List ℕ) → ((y : ℕ) → is_in nets y ≡ true → y < length m.circuit.names) → (y : ℕ) → is_in (in_net_order m nets) y ≡ is_in nets y
ordered_same m nets within y = same_truth (is_in (in_net_order m nets) y) (is_in nets y)
    (λ among. (in_filter (is_in nets) (all_nets m) y among).1)
    (λ among. let e : 0 + y ≡ y = omega arith in to_filter (is_in nets) (all_nets m) y (subst (λ z. is_in (all_nets m) z ≡ true) e (range_in (length m.circuit.names) 0 y (within y among))) among)

pub ordered_within : (m : MachineData) (nets : List ℕ) (y : ℕ) → is_in (in_net_order m nets) y ≡ true → y < length m.circuit.names
ordered_within m nets y among = let b = in_range (length m.circuit.names) 0 y (in_filter (is_in nets) (all_nets m) y among).0 in omega (arith, b.1)

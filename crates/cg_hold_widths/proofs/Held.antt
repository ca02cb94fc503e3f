-- The leaves of the hold claims of a register: the data inputs in the cone of what its next bit asks for, the registers that show
-- their bits there, and the register itself.
use Rattle.std.proofs.Common.{◌≡◌, ℕ, ◌+◌, Bool, true, false, ◌&&◌, ◌||◌, List, [], ◌++◌, length, map, nat_eq}
use Rattle.std.proofs.Common.{refl, ap, ◌∙◌, append-nil}
use Rattle.std.specs.List.{count_by, filter, flat_map}
use Rattle.std.proofs.lemmas.List.{length-append, length-map}
use Rattle.std.proofs.lemmas.List.Elements.{filter-append}
use Rattle.std.proofs.lemmas.List.Sums.{length-filter}
use Rattle.cg_claim.specs.Leaves.{is_reached}
use Rattle.cg_claim.specs.Question.{Before, held_question}
use Rattle.cg_claim.specs.Reach.{after_states, before_nets, feeds, next_asks_own, next_nets, origin_asks, origin_nets, registers_of, sides_ask}
use Rattle.cg_claim.specs.declared.leaf.LeafSource.{LeafSource}
use Rattle.cg_claim.specs.declared.leaf.LeafSource.TheVariants.{Input as InputOf, Register as RegisterOf}
use Rattle.cg_claim.proofs.OneCopy.{IsOneCopy, filter_none, hold_one, leaves_one}
use Rattle.cg_machine.specs.Machine.{MachineData, walk_of}
use Rattle.cg_net.specs.NetSets.{is_in}
use Rattle.cg_netlist.specs.Circuit.{data_inputs}
use Rattle.cg_netlist_cone.specs.Cone.{cone_of}
use Rattle.cg_stage_list_laws.specs.HoldList.{hold_width}
use Rattle.cg_hold_widths.proofs.Counted.{count_map, count_same}

absorbed : (b x : Bool) → ((b && x) || b) ≡ b
absorbed true true = refl
absorbed true false = refl
absorbed false x = refl

or_none : (b : Bool) → (b || false) ≡ b
or_none true = refl
or_none false = refl

module _ (m : MachineData) (r : ℕ) where
  abbrev nets : List ℕ
  nets = cone_of (walk_of m) (next_nets m r)

  one : IsOneCopy m (held_question r)
  one = let one = hold_one m (0, false) r in record { after = one.after; changed = one.changed; states = one.states; moved = one.moved }

  roots_are : ((next_nets m r ++ []) ++ flat_map (origin_nets m (held_question r)) (filter (after_states m (held_question r)) (registers_of m))) ≡ next_nets m r
  roots_are =
      ap (λ rs. (next_nets m r ++ []) ++ flat_map (origin_nets m (held_question r)) rs) (filter_none (after_states m (held_question r)) (registers_of m) one.states)
      ∙ (append-nil (next_nets m r ++ []) ∙ append-nil (next_nets m r))

  nets_are : before_nets m (held_question r) ≡ nets
  nets_are = ap (cone_of (walk_of m)) roots_are

  asks_self : (k : ℕ) → (sides_ask m Before (held_question r).sides k || (after_states m (held_question r) k && origin_asks m (held_question r) k)) ≡ nat_eq k r
  asks_self k = ap (λ b. ((nat_eq k r && next_asks_own m r) || nat_eq k r) || (b && origin_asks m (held_question r) k)) (one.states k) ∙ (or_none ((nat_eq k r && next_asks_own m r) || nat_eq k r) ∙ absorbed (nat_eq k r) (next_asks_own m r))

  of_register : (k : ℕ) → is_reached m (held_question r) Before (RegisterOf k) ≡ (feeds m nets k || nat_eq k r)
  of_register k = ap (λ b. feeds m (before_nets m (held_question r)) k || b) (asks_self k) ∙ ap (λ l. feeds m l k || nat_eq k r) nets_are

  of_input : (y : ℕ) → is_reached m (held_question r) Before (InputOf y) ≡ is_in nets y
  of_input y = ap (λ l. is_in l y) nets_are

  counted : (F : ℕ → LeafSource) (test : ℕ → Bool) (xs : List ℕ) → ((x : ℕ) → is_reached m (held_question r) Before (F x) ≡ test x) → length (filter (is_reached m (held_question r) Before) (map F xs)) ≡ count_by test xs
  counted F test xs same =
      length-filter (is_reached m (held_question r) Before) (map F xs)
      ∙ (count_map (is_reached m (held_question r) Before) F xs ∙ count_same (λ x. is_reached m (held_question r) Before (F x)) test xs same)

  -- how wide they are
  pub width_is : hold_width m r ≡ count_by (is_in nets) (data_inputs m.circuit) + count_by (λ k. feeds m nets k || nat_eq k r) (registers_of m)
  width_is =
      let ins : List LeafSource = map InputOf (data_inputs m.circuit) in
      let regs : List LeafSource = map RegisterOf (registers_of m) in
      let f : LeafSource → Bool = is_reached m (held_question r) Before in
      ap length (leaves_one m (held_question r) one)
      ∙ (length-map (filter f (ins ++ regs)) (λ source. record { copy = Before; source = source })
      ∙ (ap length (filter-append f ins regs)
      ∙ (length-append (filter f ins) (filter f regs)
      ∙ (ap (λ n. n + length (filter f regs)) (counted InputOf (is_in nets) (data_inputs m.circuit) of_input)
      ∙ ap (λ n. count_by (is_in nets) (data_inputs m.circuit) + n) (counted RegisterOf (λ k. feeds m nets k || nat_eq k r) (registers_of m) of_register)))))

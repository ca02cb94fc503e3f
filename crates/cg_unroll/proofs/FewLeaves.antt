-- A claim has few leaves.
use Rattle.std.proofs.Common.{◌≡◌, ℕ, ◌+◌, ◌<◌, ◌≤◌, Bool, true, false, cond, List, [], ◌∷◌, ◌++◌, map, length, nat_eq, arith}
use Rattle.std.specs.List.{IsDistinct, filter}
use Rattle.std.specs.Option.{option_to_list}
use Rattle.std.proofs.lemmas.List.{length-append, length-map}
use Rattle.std.proofs.lemmas.List.FromFn.{length-range_with_len}
use Rattle.std.proofs.lemmas.Map.Steps.{length-le_from_distinct_below}
use Rattle.cg_netlist.specs.Circuit.{cell_nets, data_inputs, drivers, gater_outputs, given_nets, register_nets}
use Rattle.cg_netlist.proofs.Given.{data_given}
use Rattle.cg_net.proofs.Members.{All-member, distinct_left, is_in_left}
use Rattle.cg_machine.specs.Machine.{IsMachine, MachineData}
use Rattle.cg_claim.specs.declared.leaf.LeafSource.{LeafSource}
use Rattle.cg_claim.specs.declared.leaf.LeafSource.TheVariants.{Input as InputOf, Register as RegisterOf}
use Rattle.cg_claim.specs.Leaves.{is_reached, leaves_at, sources, width_of}
use Rattle.cg_claim.specs.Question.{Copy, Before, After, Changed, Question}
use Rattle.cg_claim.specs.Reach.{registers_of}

pub fewer : {X : Type 0} (test : X → Bool) (xs : List X) → length (filter test xs) ≤ length xs
fewer test [] = omega arith
fewer test (x ∷ xs) = go (fewer test xs) (test x)
  where
    go : length (filter test xs) ≤ length xs → (b : Bool) → length (cond b (x ∷ filter test xs) (filter test xs)) ≤ length (x ∷ xs)
    go rest true = omega (arith, rest)
    go rest false = omega (arith, rest)

module _ (m : MachineData) (good : IsMachine m) where
  pub inputs_once : IsDistinct nat_eq (data_inputs m.circuit)
  inputs_once =
      let c = m.circuit in
      let clock : List ℕ = option_to_list c.clock in
      let given = distinct_left (given_nets c) (cell_nets c) good.well_formed.driven.once in
      let gaters = distinct_left (data_inputs c ++ clock ++ gater_outputs c) (register_nets c) given in
      distinct_left (data_inputs c) clock (distinct_left (data_inputs c ++ clock) (gater_outputs c) gaters)

  pub few_inputs : length (data_inputs m.circuit) ≤ length m.circuit.names
  few_inputs =
      let c = m.circuit in
      length-le_from_distinct_below (data_inputs c) (length c.names) inputs_once
      (λ x among. All-member (λ net. net < length c.names) (drivers c) x good.well_formed.driven.nets (is_in_left (given_nets c) (cell_nets c) x (data_given c x among)))

  few_at : (q : Question) (copy : Copy) → length (leaves_at m q copy) ≤ length m.circuit.names + length m.circuit.registers
  few_at q copy =
      let some : List LeafSource = filter (is_reached m q copy) (sources m) in
      let shown : length (leaves_at m q copy) ≡ length some = length-map some (λ source. record { copy = copy; source = source }) in
      let all = length-append (map InputOf (data_inputs m.circuit)) (map RegisterOf (registers_of m)) in
      omega (arith, shown, fewer (is_reached m q copy) (sources m), all, length-map (data_inputs m.circuit) InputOf, length-map (registers_of m) RegisterOf, length-range_with_len 0 (length m.circuit.registers), few_inputs)

  pub few_leaves : (q : Question) → width_of m q ≤ 3342336
  few_leaves q =
      let one = length-append (leaves_at m q Before ++ leaves_at m q After) (leaves_at m q Changed) in
      let two = length-append (leaves_at m q Before) (leaves_at m q After) in
      omega (arith, one, two, few_at q Before, few_at q After, few_at q Changed, good.small, good.few_registers)

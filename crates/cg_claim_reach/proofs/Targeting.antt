-- The outputs and registers that stand among the readers of nets found, and the names of targets.
use Rattle.std.proofs.Common.{◌≡◌, ℕ, ◌+◌, ◌<◌, ◌≤◌, Bool, true, false, ◌||◌, ◌&&◌, cond, if◌then◌else◌, List, [], ◌∷◌}
use Rattle.std.proofs.Common.{◌++◌, length, map, take, nat_eq, nat_lt, slice_get, Option, Some, None, refl, sym, ◌∙◌, ap}
use Rattle.std.proofs.Common.{arith, inl, inr}
use Rattle.std.specs.List.{filter, flat_map, list_any, range_with_len}
use Rattle.std.specs.Option.{option_map_or, option_to_list}
use Rattle.std.proofs.lemmas.Bool.{and_from, both_ways, eqb-true, lt-ltb, ltb-true, or_cases}
use Rattle.std.proofs.lemmas.List.Folds.{list_any-append}
use Rattle.std.proofs.lemmas.Map.Steps.{length-le_from_distinct_below}
use Rattle.std.proofs.lemmas.Option.{slice_get_within}
use Rattle.cg_limit.specs.declared.TheConstants.{MOST_NETS}
use Rattle.cg_net.specs.NetSets.{is_in}
use Rattle.cg_netlist.specs.Circuit.{used_nets}
use Rattle.cg_net.proofs.Members.{All-member, is_in_cases, is_in_left, is_in_right}
use Rattle.cg_netlist.proofs.Used.{output_is_used}
use Rattle.cg_machine.specs.Machine.{IsMachine, MachineData, enable_of}
use Rattle.cg_machine.proofs.Lists.{below_range}
use Rattle.cg_claim.specs.Reach.{inputs_of_register, next_asks_own, next_nets, registers_of}
use Rattle.cg_claim.specs.declared.name.ClaimName.TheVariants.{Output}
use Rattle.cg_claim_reach.specs.Fanout.{readers_at}
use Rattle.cg_claim_reach.specs.inner.Spreading.{AreOutputReaders, AreRegisterReaders, is_next_marked, is_output_marked}
use Rattle.cg_claim_reach.specs.inner.Spreading.{is_register_marked, marked_outputs}
use Rattle.cg_claim_reach.proofs.Filtering.{in_filtered, take_whole}
use Rattle.cg_claim_reach.proofs.Leading.{and_second, any_has}
use Rattle.cg_netlist.proofs.ByRank.{filter_same}
use Rattle.cg_claim.proofs.Reached.{and_first}
use Rattle.std.specs.Cmp.{both_ways as same_truth}

-- an output of a machine is one of its nets, and there are no more outputs than nets
output_within : (m : MachineData) → IsMachine m → (y : ℕ) → is_in m.circuit.outputs y ≡ true → y < length m.circuit.names
output_within m good y among = All-member (λ net. net < length m.circuit.names) (used_nets m.circuit) y good.well_formed.used (output_is_used m.circuit y among)

pub few_outputs : (m : MachineData) → IsMachine m → length m.circuit.outputs ≤ MOST_NETS
few_outputs m good = let few = length-le_from_distinct_below m.circuit.outputs (length m.circuit.names) good.outputs_once (output_within m good) in omega (arith, few, good.small)

-- of several lists only those pass that are wanted, and those that are in one
module _ (test : ℕ → Bool) (lists : ℕ → List ℕ) where
  flat_only : (xs : List ℕ) (k : ℕ) → is_in (flat_map (λ y. filter test (lists y)) xs) k ≡ true → test k ≡ true
  flat_only [] k among = absurd (both_ways false refl among)
  flat_only (x ∷ xs) k among = elim (is_in_cases (filter test (lists x)) (flat_map (λ y. filter test (lists y)) xs) k among) [
    | inl here ↦ and_second (is_in (lists x) k) (test k) (sym (in_filtered test (lists x) k) ∙ here)
    | inr later ↦ flat_only xs k later
  ]

  flat_has : (xs : List ℕ) (y k : ℕ) → is_in xs y ≡ true → is_in (lists y) k ≡ true → test k ≡ true → is_in (flat_map (λ z. filter test (lists z)) xs) k ≡ true
  flat_has [] y k among there is = absurd (both_ways false refl among)
  flat_has (x ∷ xs) y k among there is = elim (or_cases (nat_eq y x) (is_in xs y) among) [
    | inl same ↦ is_in_left (filter test (lists x)) (flat_map (λ z. filter test (lists z)) xs) k
        (in_filtered test (lists x) k ∙ and_from (is_in (lists x) k) (test k) (ap (λ z. is_in (lists z) k) (sym (eqb-true y x same)) ∙ there) is)
    | inr later ↦ is_in_right (filter test (lists x)) (flat_map (λ z. filter test (lists z)) xs) k (flat_has xs y k later there is)
  ]

-- numbers in order
module _ (m : MachineData) (found : List ℕ) (lists : List (List ℕ)) (place : ℕ) (past : length found ≤ place) where
  pub outputs_are : (numbers ordered : List ℕ) → AreOutputReaders m lists → numbers ≡ flat_map (λ y. filter (is_output_marked m (is_in found)) (readers_at lists y)) (take place found)
      → ((n : ℕ) → ((x : ℕ) → is_in numbers x ≡ true → x < n) → ordered ≡ filter (is_in numbers) (range_with_len 0 n))
      → ordered ≡ filter (is_output_marked m (is_in found)) (range_with_len 0 (length m.circuit.outputs))
  outputs_are numbers ordered known is in_order =
      let outputs : List ℕ = m.circuit.outputs in
      in_order (length outputs) (λ x among. within x (only x among))
      ∙ filter_same (is_in numbers) test (range_with_len 0 (length outputs)) (λ x among. same_truth (is_in numbers x) (test x) (only x) (has x))
    where
      test : ℕ → Bool
      test = is_output_marked m (is_in found)

      whole : numbers ≡ flat_map (λ y. filter (is_output_marked m (is_in found)) (readers_at lists y)) found
      whole = is ∙ ap (flat_map (λ y. filter (is_output_marked m (is_in found)) (readers_at lists y))) (take_whole found place past)

      only : (k : ℕ) → is_in numbers k ≡ true → is_output_marked m (is_in found) k ≡ true
      only k among = flat_only (is_output_marked m (is_in found)) (readers_at lists) found k (ap (λ l. is_in l k) (sym whole) ∙ among)

      at_net : (k : ℕ) (o : Option ℕ) → slice_get m.circuit.outputs k ≡ o → option_map_or (is_in found) o false ≡ true → (y : ℕ) × ((slice_get m.circuit.outputs k ≡ Some y) × (is_in found y ≡ true))
      at_net k None at h = absurd (both_ways false refl h)
      at_net k (Some y) at h = (y, (at, h))

      within : (k : ℕ) → is_output_marked m (is_in found) k ≡ true → k < length m.circuit.outputs
      within k h = let y = at_net k (slice_get m.circuit.outputs k) refl h in slice_get_within m.circuit.outputs k y.0 y.1.0

      has : (k : ℕ) → is_output_marked m (is_in found) k ≡ true → is_in numbers k ≡ true
      has k h =
          let y = at_net k (slice_get m.circuit.outputs k) refl h in
          ap (λ l. is_in l k) whole ∙ flat_has (is_output_marked m (is_in found)) (readers_at lists) found y.0 k y.1.1 (known k y.0 y.1.0) h

  pub registers_are : (regs keys numbers ordered : List ℕ) → AreRegisterReaders m lists → ((r : ℕ) → is_in regs r ≡ is_in keys r)
      → numbers ≡ filter (is_register_marked m (is_in found) (is_in keys)) regs ++ flat_map (λ y. filter (is_register_marked m (is_in found) (is_in keys)) (readers_at lists y)) (take place found)
      → ((n : ℕ) → ((x : ℕ) → is_in numbers x ≡ true → x < n) → ordered ≡ filter (is_in numbers) (range_with_len 0 n))
      → ordered ≡ filter (λ r. is_next_marked m (is_in found) (is_in keys r) r) (registers_of m)
  registers_are regs keys numbers ordered known set is in_order =
      in_order (length m.circuit.registers) (λ x among. within x (only x among))
      ∙ filter_same (is_in numbers) (λ r. is_next_marked m (is_in found) (is_in keys r) r) (registers_of m)
      (λ x among. same_truth (is_in numbers x) (is_next_marked m (is_in found) (is_in keys x) x) (λ h. and_second (nat_lt x (length m.circuit.registers)) (is_next_marked m (is_in found) (is_in keys x) x) (only x h))
      (λ h. let below = below_range (length m.circuit.registers) 0 x among in has x (omega (arith, below)) h))
    where
      whole : numbers ≡ filter (is_register_marked m (is_in found) (is_in keys)) regs ++ flat_map (λ y. filter (is_register_marked m (is_in found) (is_in keys)) (readers_at lists y)) found
      whole = is ∙ ap (λ l. filter (is_register_marked m (is_in found) (is_in keys)) regs ++ flat_map (λ y. filter (is_register_marked m (is_in found) (is_in keys)) (readers_at lists y)) l) (take_whole found place past)

      only : (k : ℕ) → is_in numbers k ≡ true → is_register_marked m (is_in found) (is_in keys) k ≡ true
      only k among =
          elim (is_in_cases (filter (is_register_marked m (is_in found) (is_in keys)) regs) (flat_map (λ y. filter (is_register_marked m (is_in found) (is_in keys)) (readers_at lists y)) found) k (ap (λ l. is_in l k) (sym whole) ∙ among)) [
            | inl own ↦ and_second (is_in regs k) (is_register_marked m (is_in found) (is_in keys) k) (sym (in_filtered (is_register_marked m (is_in found) (is_in keys)) regs k) ∙ own)
            | inr read ↦ flat_only (is_register_marked m (is_in found) (is_in keys)) (readers_at lists) found k read
          ]

      within : (k : ℕ) → is_register_marked m (is_in found) (is_in keys) k ≡ true → k < length m.circuit.registers
      within k h = ltb-true k (length m.circuit.registers) (and_first (nat_lt k (length m.circuit.registers)) (is_next_marked m (is_in found) (is_in keys k) k) h)

      has : (k : ℕ) → k < length m.circuit.registers → is_next_marked m (is_in found) (is_in keys k) k ≡ true → is_in numbers k ≡ true
      has k below h = ap (λ l. is_in l k) whole ∙ elim (or_cases (is_in keys k && next_asks_own m k) (list_any (is_in found) (inputs_of_register m k) || list_any (is_in found) (option_to_list (enable_of m k))) h) [
        | inl own ↦ is_in_left (filter (is_register_marked m (is_in found) (is_in keys)) regs) (flat_map (λ y. filter (is_register_marked m (is_in found) (is_in keys)) (readers_at lists y)) found) k
            (in_filtered (is_register_marked m (is_in found) (is_in keys)) regs k ∙ and_from (is_in regs k) (is_register_marked m (is_in found) (is_in keys) k) (set k ∙ and_first (is_in keys k) (next_asks_own m k) own) marked)
        | inr net ↦
            let y = any_has (is_in found) (next_nets m k) (list_any-append (is_in found) (inputs_of_register m k) (option_to_list (enable_of m k)) ∙ net) in
            is_in_right (filter (is_register_marked m (is_in found) (is_in keys)) regs) (flat_map (λ z. filter (is_register_marked m (is_in found) (is_in keys)) (readers_at lists z)) found) k
            (flat_has (is_register_marked m (is_in found) (is_in keys)) (readers_at lists) found y.0 k y.1.1 (known k y.0 below y.1.0) marked)
      ]
        where
          marked : is_register_marked m (is_in found) (is_in keys) k ≡ true
          marked = and_from (nat_lt k (length m.circuit.registers)) (is_next_marked m (is_in found) (is_in keys k) k) (lt-ltb k (length m.circuit.registers) below) h

-- the outputs with a mark by their names
pub outputs_mapped : (m : MachineData) (marked : ℕ → Bool) → map Output (filter (is_output_marked m marked) (range_with_len 0 (length m.circuit.outputs))) ≡ marked_outputs marked 0 m.circuit.outputs
outputs_mapped m marked = go [] m.circuit.outputs 0 refl refl
  where
    last : (before : List ℕ) (y : ℕ) (after : List ℕ) → slice_get (before ++ y ∷ after) (length before) ≡ Some y
    last [] y after = refl
    last (x ∷ before) y after = last before y after

    more : (before : List ℕ) (y : ℕ) → length before + 1 ≡ length (before ++ y ∷ [])
    more [] y = refl
    more (x ∷ before) y = let rest = more before y in omega (arith, rest)

    regroup : (before : List ℕ) (y : ℕ) (after : List ℕ) → (before ++ y ∷ []) ++ after ≡ before ++ y ∷ after
    regroup [] y after = refl
    regroup (x ∷ before) y after = ap (λ l. x ∷ l) (regroup before y after)

    go : (before after : List ℕ) (k : ℕ) → k ≡ length before → m.circuit.outputs ≡ before ++ after
        → map Output (filter (is_output_marked m marked) (range_with_len k (length after))) ≡ marked_outputs marked k after
    go before [] k is all = refl
    go before (y ∷ after) k is all =
        ap (λ b. map Output (cond b (k ∷ filter (is_output_marked m marked) (range_with_len (k + 1) (length after))) (filter (is_output_marked m marked) (range_with_len (k + 1) (length after)))))
        (ap (λ o. option_map_or marked o false) (ap (λ l. slice_get l k) all ∙ (ap (slice_get (before ++ y ∷ after)) is ∙ last before y after)))
        ∙ rest (marked y) (go (before ++ y ∷ []) after (k + 1) (ap (λ n. n + 1) is ∙ more before y) (all ∙ sym (regroup before y after)))
      where
        rest : (b : Bool) → map Output (filter (is_output_marked m marked) (range_with_len (k + 1) (length after))) ≡ marked_outputs marked (k + 1) after
            → map Output (cond b (k ∷ filter (is_output_marked m marked) (range_with_len (k + 1) (length after))) (filter (is_output_marked m marked) (range_with_len (k + 1) (length after))))
            ≡ (if b then Output k ∷ marked_outputs marked (k + 1) after else marked_outputs marked (k + 1) after)
        rest true same = ap (λ l. Output k ∷ l) same
        rest false same = same

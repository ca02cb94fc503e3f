-- Where the nets of the machine come from.
use Rattle.std.proofs.Common.{◌≡◌, ℕ, zero, suc, ◌+◌, ◌-◌, ◌<◌, ◌≤◌, List, map, length, replicate, slice_get, Option, None, Some}
use Rattle.std.proofs.Common.{refl, ap, sym, ◌∙◌, inl, inr, arith}
use Rattle.std.specs.Option.{option_map}
use Rattle.std.proofs.lemmas.List.{length-append, length-map, length-replicate}
use Rattle.std.proofs.lemmas.Option.{slice_get-map, slice_get_past}
use Rattle.cg_netlist.specs.Circuit.{Circuit}
use Rattle.cg_netlist.proofs.Values.{element_at}
use Rattle.cg_machine.proofs.Lists.{below_or, get_front}
use Rattle.cg_machine.specs.Machine.{MachineData}
use Rattle.cg_extract.specs.Lifted.{kept_nets, origins}
use Rattle.cg_machine.proofs.Cycles.{get_back}

none_at : (n k : ℕ) → k < n → slice_get (replicate {A = Option ℕ} n None) k ≡ Some None
none_at zero k below = absurd (omega arith)
none_at (suc n) zero below = refl
none_at (suc n) (suc k) below = none_at n k (omega arith)

module _ (c : Circuit) (m : MachineData) (few : length (kept_nets c) ≤ length m.circuit.names) where
  abbrev front : List (Option ℕ)
  front = map (λ net. Some net) (kept_nets c)

  front_long : length front ≡ length (kept_nets c)
  front_long = length-map (kept_nets c) (λ (net : ℕ). Some net)

  pub origin_at : (k : ℕ) → k < length m.circuit.names → slice_get (origins c m) k ≡ Some (slice_get (kept_nets c) k)
  origin_at k below = elim (below_or (length (kept_nets c)) k) [
    | inl kept ↦
        let x = element_at (kept_nets c) k kept in
        get_front front (replicate (length m.circuit.names - length (kept_nets c)) None) k (omega (arith, kept, front_long))
        ∙ (slice_get-map (λ (net : ℕ). Some net) (kept_nets c) k ∙ (ap (option_map (λ (net : ℕ). Some net)) x.1 ∙ ap Some (sym x.1)))
    | inr past ↦
        ap (slice_get (origins c m)) (let e : k ≡ length front + (k - length (kept_nets c)) = omega (arith, past, front_long) in e)
        ∙ (get_back front (replicate (length m.circuit.names - length (kept_nets c)) None) (k - length (kept_nets c))
        ∙ (none_at (length m.circuit.names - length (kept_nets c)) (k - length (kept_nets c)) (omega (arith, past, below, few))
        ∙ ap Some (sym (slice_get_past (kept_nets c) k past))))
  ]

  pub origins_long : length (origins c m) ≡ length m.circuit.names
  origins_long =
      let a = length-append front (replicate {A = Option ℕ} (length m.circuit.names - length (kept_nets c)) None) in
      let b = length-replicate {A = Option ℕ} (length m.circuit.names - length (kept_nets c)) None in
      omega (arith, a, b, front_long, few)

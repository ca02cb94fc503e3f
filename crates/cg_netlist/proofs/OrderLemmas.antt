-- What net order tells: each part drives nets of its own, so that there are no more parts than nets.
use Rattle.std.proofs.Common.{◌≡◌, ℕ, zero, suc, ◌+◌, ◌≤◌, not, refl, List, ◌++◌, length, ap, arith, length-append}
use Rattle.std.specs.List.{filter, range_with_len}
use Rattle.std.specs.Option.{option_to_list}
use Rattle.std.proofs.lemmas.List.{length-map}
use Rattle.cg_netlist.specs.Circuit.{Circuit, cell_nets, gater_outputs, register_nets}
use Rattle.cg_net.specs.NetSets.{is_in}
use Rattle.cg_netlist.specs.WellFormed.{IsInNetOrder}

-- numbers from a on are as many as asked for
pub length-range_with_len : (n a : ℕ) → length (range_with_len a n) ≡ n
length-range_with_len zero a = refl
length-range_with_len (suc n) a = ap suc (length-range_with_len n (a + 1))

module _ (c : Circuit) (order : IsInNetOrder c) where
  -- the nets are the outputs of the parts, and the inputs and the clock
  count : length (c.inputs ++ filter (λ net. not (is_in c.inputs net)) (option_to_list c.clock)) + length c.cells + length c.gaters + length (register_nets c) ≡ length c.names
  count =
      let front : List ℕ = c.inputs ++ filter (λ net. not (is_in c.inputs net)) (option_to_list c.clock) in
      omega (
        arith,
        length-append (front ++ cell_nets c ++ gater_outputs c) (register_nets c),
        length-append (front ++ cell_nets c) (gater_outputs c),
        length-append front (cell_nets c),
        length-map c.cells (λ cell. cell.output),
        length-map c.gaters (λ gater. gater.output),
        ap length order,
        length-range_with_len (length c.names) 0,
      )

  pub cells_within : length c.cells ≤ length c.names
  cells_within = omega (arith, count)

  pub gaters_within : length c.gaters ≤ length c.names
  gaters_within = omega (arith, count)

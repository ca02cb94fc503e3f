-- Registers that take the bit of one net and show it at one net.
use Rattle.std.specs.Prelude.{◌≡◌, ◌<◌, ℕ, Bool, true, false, List, [], ◌∷◌, length, slice_get, Some, Option}
use Rattle.std.specs.List.{All}
use Rattle.cg_net.specs.NetSets.{is_in}
use Rattle.cg_netlist.specs.Circuit.{RegisterCell}
use Rattle.cg_netlist.specs.History.{next_value}
use Rattle.cg_netlist.specs.Moment.{bit, values_at}
use Rattle.cg_edge.specs.declared.wire.Wire.{Wire}

-- a register takes the bit of one of its inputs, and shows its own at one net
pub record IsWire (r : RegisterCell ℕ ℕ) (wire : Wire) : Type 0 where
  pub among : is_in r.inputs wire.input ≡ true
  pub takes : (nets : List Bool) (own : Bool) → All (λ net. net < length nets) r.inputs →
      next_value r.kind (values_at nets r.inputs) own ≡ bit nets wire.input
  pub shows : r.outputs ≡ (wire.output, false) ∷ []

-- the first registers, of which those stand as wires that are some
pub record AreWires (rs : List (RegisterCell ℕ ℕ)) (n : ℕ) (wires : List (Option Wire)) : Type 0 where
  pub long : length wires ≡ n
  pub wired : (k : ℕ) (r : RegisterCell ℕ ℕ) (wire : Wire) → slice_get rs k ≡ Some r → slice_get wires k ≡ Some (Some wire) → IsWire r wire

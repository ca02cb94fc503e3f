-- The nets at which registers can show in the same cycle.
use Rattle.std.specs.Prelude.{◌≡◌, ℕ, ◌+◌, Bool, true, false, ◌&&◌, ◌||◌, if◌then◌else◌, List, [], ◌∷◌, length, nat_eq, nat_lt}
use Rattle.std.specs.Prelude.{slice_get, take, Some, ◌<◌}
use Rattle.std.specs.List.{list_any}
use Rattle.std.specs.Option.{option_map_or, option_to_list}
use Rattle.cg_netlist.specs.Circuit.{LogicCell, shown_nets}
use Rattle.cg_net.specs.NetSets.{is_in, with_net}
use Rattle.cg_machine.specs.Machine.{MachineData, enable_of, walk_of}
use Rattle.cg_claim.specs.Reach.{inputs_of_register, next_asks_own, next_nets}
use Rattle.cg_claim.specs.declared.name.ClaimName.{ClaimName}
use Rattle.cg_claim.specs.declared.name.ClaimName.TheVariants.{Output}
use Rattle.cg_claim_reach.specs.Fanout.{readers_at}

-- whether a register, one of these registers shows its bit at a net
abbrev pub shows : MachineData → ℕ → ℕ → Bool
shows m y r = option_map_or (λ cell. is_in (shown_nets cell) y) (slice_get m.circuit.registers r) false

abbrev pub is_shown : MachineData → List ℕ → ℕ → Bool
is_shown m G y = list_any (shows m y) G

-- with marked inputs of a cell its output is marked
abbrev pub with_cell : LogicCell ℕ → (ℕ → Bool) → ℕ → Bool
with_cell cell marked y = marked y || (nat_eq y cell.output && list_any marked cell.inputs)

-- and so from cell to cell, in walk order
abbrev pub spread : List (LogicCell ℕ) → (ℕ → Bool) → ℕ → Bool
spread [] marked y = marked y
spread (cell ∷ cells) marked y = spread cells (with_cell cell marked) y

-- the names of the outputs with a mark, counted from k
abbrev pub marked_outputs : (ℕ → Bool) → ℕ → List ℕ → List ClaimName
marked_outputs marked k [] = []
marked_outputs marked k (y ∷ ys) =
    if marked y then Output k ∷ marked_outputs marked (k + 1) ys else marked_outputs marked (k + 1) ys

-- whether the next bit of a register asks for a marked net, or, where the register is inside, for its own bit
abbrev pub is_next_marked : MachineData → (ℕ → Bool) → Bool → ℕ → Bool
is_next_marked m marked inside r =
    (inside && next_asks_own m r) || (list_any marked (inputs_of_register m r) || list_any marked (option_to_list (enable_of m r)))

-- whether a register of the machine is such a one
abbrev pub is_register_marked : MachineData → (ℕ → Bool) → (ℕ → Bool) → ℕ → Bool
is_register_marked m marked inside r = nat_lt r (length m.circuit.registers) && is_next_marked m marked (inside r) r

-- whether an output stands at a marked net
abbrev pub is_output_marked : MachineData → (ℕ → Bool) → ℕ → Bool
is_output_marked m marked k = option_map_or marked (slice_get m.circuit.outputs k) false

-- among the readers of each net are all cells, outputs, registers of the machine that read it
abbrev pub AreCellReaders : MachineData → List (List ℕ) → Type 0
AreCellReaders m lists = (k : ℕ) (cell : LogicCell ℕ) (y : ℕ) → slice_get m.circuit.cells k ≡ Some cell →
    is_in cell.inputs y ≡ true → is_in (readers_at lists y) k ≡ true

abbrev pub AreOutputReaders : MachineData → List (List ℕ) → Type 0
AreOutputReaders m lists = (k y : ℕ) → slice_get m.circuit.outputs k ≡ Some y → is_in (readers_at lists y) k ≡ true

abbrev pub AreRegisterReaders : MachineData → List (List ℕ) → Type 0
AreRegisterReaders m lists = (r y : ℕ) → r < length m.circuit.registers → is_in (next_nets m r) y ≡ true →
    is_in (readers_at lists y) r ≡ true

-- nets found, and where an input of a cell is among them its output
abbrev pub led_on : LogicCell ℕ → List ℕ → List ℕ
led_on cell found = if list_any (is_in found) cell.inputs then with_net found cell.output else found

-- the same by the cell of a number, where there is one, and by several, one after the other
abbrev pub led_by : MachineData → List ℕ → ℕ → List ℕ
led_by m found k = option_map_or (λ cell. led_on cell found) (slice_get m.circuit.cells k) found

abbrev pub led_by_all : MachineData → List ℕ → List ℕ → List ℕ
led_by_all m found [] = found
led_by_all m found (k ∷ ks) = led_by_all m (led_by m found k) ks

-- a search among the nets at which registers G can show: it has found those that show their bits and no other than these
-- nets, and what the readers of the first `next` nets lead to
pub record IsSpreading (m : MachineData) (G : List ℕ) (next : ℕ) (found : List ℕ) : Type 0 where
  pub starts : (y : ℕ) → is_shown m G y ≡ true → is_in found y ≡ true
  pub only : (y : ℕ) → is_in found y ≡ true → spread (walk_of m) (is_shown m G) y ≡ true
  pub closed : (k : ℕ) (cell : LogicCell ℕ) (x : ℕ) → slice_get m.circuit.cells k ≡ Some cell → is_in (take next found) x ≡ true →
      is_in cell.inputs x ≡ true → is_in found cell.output ≡ true

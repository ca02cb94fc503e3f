-- What a simulator keeps between ticks, and what each part of a tick does to the bits of the nets.
use Rattle.std.specs.Prelude.{◌≡◌, ◌≢◌, ℕ, ◌<◌, ◌≤◌, ◌⊎◌, Bool, true, false, ◌&&◌, List, [], length, slice_get, slice_index_or}
use Rattle.std.specs.Prelude.{Option, None, Some, if◌then◌else◌}
use Rattle.cg_netlist.specs.Circuit.{Circuit, GatingCell, LogicCell}
use Rattle.cg_net.specs.NetSets.{is_in}
use Rattle.cg_netlist.specs.History.{Moment}
use Rattle.cg_netlist.specs.Moment.{bit, function_value, values_at}
use Rattle.cg_netlist.specs.Nets.{walk_order}

-- the bits of nets after a part of a tick are those of before but at these nets
pub record SameBut (touched : List ℕ) (old new : List Bool) : Type 0 where
  pub long : length new ≡ length old
  pub same : (x : ℕ) → is_in touched x ≡ false → slice_get new x ≡ slice_get old x

-- the gating cells in an order in which each stands behind the one that drives its clock pin
pub record IsChain (c : Circuit) (chain : List ℕ) : Type 0 where
  pub within : (j k : ℕ) → slice_get chain j ≡ Some k → k < length c.gaters
  pub placed : (k : ℕ) → k < length c.gaters → (j : ℕ) × (slice_get chain j ≡ Some k)
  pub ordered : (i j k l : ℕ) (a b : GatingCell ℕ) → i ≤ j → slice_get chain i ≡ Some k → slice_get chain j ≡ Some l →
      slice_get c.gaters k ≡ Some a → slice_get c.gaters l ≡ Some b → a.clock ≢ b.output

-- the gating cells at the first places of the chain show the AND of their latch and their clock pin
abbrev pub AreDriven : Circuit → List ℕ → List Bool → List Bool → ℕ → Type 0
AreDriven c chain latches nets n = (j k : ℕ) (a : GatingCell ℕ) → j < n → slice_get chain j ≡ Some k →
    slice_get c.gaters k ≡ Some a → bit nets a.output ≡ (slice_index_or latches k false && bit nets a.clock)

-- the clock shows this bit, and each gating cell the AND of its latch and its clock pin
pub record ShowClocks (c : Circuit) (clock : Bool) (latches nets : List Bool) : Type 0 where
  pub on_clock : (net : ℕ) → c.clock ≡ Some net → bit nets net ≡ clock
  pub on_gaters : (k : ℕ) (a : GatingCell ℕ) → slice_get c.gaters k ≡ Some a →
      bit nets a.output ≡ (slice_index_or latches k false && bit nets a.clock)

-- the logic cells in walk order
abbrev pub walk_of : Circuit → List (LogicCell ℕ)
walk_of c = values_at c.cells (walk_order c.cells)

-- the places in walk order, of those below n, at which a cell reads a net
abbrev pub readers_at : List (List ℕ) → ℕ → List ℕ
readers_at readers x = slice_index_or readers x []

pub record AreReaders (nets n : ℕ) (walk : List (LogicCell ℕ)) (readers : List (List ℕ)) : Type 0 where
  pub long : length readers ≡ nets
  pub whole : (p x : ℕ) (cell : LogicCell ℕ) → p < n → slice_get walk p ≡ Some cell → is_in cell.inputs x ≡ true →
      is_in (readers_at readers x) p ≡ true
  pub within : (x p : ℕ) → is_in (readers_at readers x) p ≡ true → p < n

-- the place was added to the readers of these nets
pub record IsAdded (inputs : List ℕ) (place : ℕ) (old new : List (List ℕ)) : Type 0 where
  pub long : length new ≡ length old
  pub kept : (x p : ℕ) → is_in (readers_at old x) p ≡ true → is_in (readers_at new x) p ≡ true
  pub put : (x : ℕ) → is_in inputs x ≡ true → is_in (readers_at new x) place ≡ true
  pub only : (x p : ℕ) → is_in (readers_at new x) p ≡ true → (is_in (readers_at old x) p ≡ true) ⊎ (p ≡ place)

-- a logic cell's output is its function of its inputs
abbrev pub Holds : LogicCell ℕ → List Bool → Type 0
Holds cell nets = slice_get nets cell.output ≡ Some (function_value cell.function (values_at nets cell.inputs))

-- each cell holds, or is marked to be looked at
abbrev pub AreMarked : List (LogicCell ℕ) → List Bool → List Bool → Type 0
AreMarked walk marks nets = (p : ℕ) (cell : LogicCell ℕ) → slice_get walk p ≡ Some cell →
    (slice_get marks p ≡ Some true) ⊎ Holds cell nets

-- the same where the places below n were looked at
abbrev pub AreSettled : List (LogicCell ℕ) → ℕ → List Bool → List Bool → Type 0
AreSettled walk n marks nets = (p : ℕ) (cell : LogicCell ℕ) → slice_get walk p ≡ Some cell →
    ((n ≤ p) × (slice_get marks p ≡ Some true)) ⊎ Holds cell nets

-- what was marked is marked still
pub record MarksMore (old new : List Bool) : Type 0 where
  pub long : length new ≡ length old
  pub kept : (p : ℕ) → slice_get old p ≡ Some true → slice_get new p ≡ Some true

-- a net got a bit, and its readers are marked where that is another than it had
pub record IsPut (readers : List (List ℕ)) (net : ℕ) (b : Bool) (old new marks_old marks_new : List Bool) : Type 0 where
  pub more : MarksMore marks_old marks_new
  pub told : (new ≡ old) ⊎ ((p : ℕ) → is_in (readers_at readers net) p ≡ true → slice_get marks_new p ≡ Some true)

-- the present moment of these bits, where there was a tick
abbrev pub present_of : Bool → List Bool → List Bool → List Bool → Option Moment
present_of ticked nets state latches = if ticked then Some (record { nets = nets; state = state; latches = latches }) else None

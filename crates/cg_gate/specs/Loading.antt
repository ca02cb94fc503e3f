-- When a history loads all registers.
use Rattle.std.specs.Prelude.{◌≡◌, ℕ, ◌+◌, Bool, true, false, List, slice_get, Some}
use Rattle.cg_netlist.specs.Circuit.{Circuit, RegisterCell}
use Rattle.cg_netlist.specs.History.{Moment, Tick, rises}

-- at each rise of the clock, a moment after this bit was 1, each register rises
abbrev pub LoadsWhere : Circuit → List Tick → List Bool → List Moment → Type 0
LoadsWhere c wave bits history = (k : ℕ) (low high : Tick) (before now : Moment) → slice_get wave k ≡ Some low →
    slice_get wave (k + 1) ≡ Some high → low.clock ≡ false → high.clock ≡ true
    → slice_get bits k ≡ Some true → slice_get history k ≡ Some before → slice_get history (k + 1) ≡ Some now
    → (r : ℕ) (register : RegisterCell ℕ ℕ) → slice_get c.registers r ≡ Some register → rises before.nets now.nets register ≡ true

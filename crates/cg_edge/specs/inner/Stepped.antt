-- Registers that are moved one after another, each whose clock net rose.
use Rattle.std.specs.Prelude.{◌≡◌, ◌<◌, ◌≤◌, ℕ, Bool, true, false, List, length, map, replicate, slice_get, Some}
use Rattle.cg_netlist.specs.Circuit.{Circuit, RegisterCell, register_nets, shown_nets}
use Rattle.cg_netlist.specs.History.{next_bit, rises}
use Rattle.cg_netlist.specs.Moment.{shown_bits, values_at, zip_with}
use Rattle.cg_edge.specs.inner.Keeping.{SameBut}

-- a list is written place by place: those below n have what is wanted there, and the others what they had
pub record IsWritten (n : ℕ) (old wanted new : List Bool) : Type 0 where
  pub long : length new ≡ length wanted
  pub done : (k : ℕ) → k < n → slice_get new k ≡ slice_get wanted k
  pub left : (k : ℕ) → n ≤ k → slice_get new k ≡ slice_get old k

-- each register shows its bit at its output nets
abbrev pub ShowBits : List (RegisterCell ℕ ℕ) → List Bool → List Bool → Type 0
ShowBits rs state nets = (k : ℕ) (r : RegisterCell ℕ ℕ) (b : Bool) → slice_get rs k ≡ Some r → slice_get state k ≡ Some b →
    values_at nets (shown_nets r) ≡ shown_bits r b

-- the registers below n moved from a state to the next one, as the bits of nets went from `before` to `now`: it is told of each
-- whether it rose, and all show their bits
pub record AreStepped (c : Circuit) (before now was : List Bool) (n : ℕ) (nets state rose : List Bool) : Type 0 where
  pub count : length was ≡ length c.registers
  pub moved : IsWritten n was (zip_with (next_bit before now) c.registers was) state
  pub told : IsWritten n (replicate (length c.registers) false) (map (rises before now) c.registers) rose
  pub same : SameBut (register_nets c) now nets
  pub shown : ShowBits c.registers state nets

-- the registers from one number up to another rise
abbrev pub AllRise : Circuit → List Bool → List Bool → ℕ → ℕ → Type 0
AllRise c before now first end = (k : ℕ) (r : RegisterCell ℕ ℕ) → first ≤ k → k < end → slice_get c.registers k ≡ Some r →
    rises before now r ≡ true

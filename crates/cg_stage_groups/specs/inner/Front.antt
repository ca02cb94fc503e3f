-- What a walk back from some nets has found before it has found their whole cone.
use Rattle.std.specs.Prelude.{◌≡◌, ℕ, true, List}
use Rattle.cg_netlist_cone.specs.Cone.{IsInCone}
use Rattle.cg_machine.specs.Machine.{MachineData}
use Rattle.cg_net.specs.NetSets.{is_in}
use Rattle.cg_stage_groups.specs.inner.Reaching.{AreOwn}

-- all nets of one list are in another
abbrev pub AreAmong : List ℕ → List ℕ → Type 0
AreAmong nets found = (y : ℕ) → is_in nets y ≡ true → is_in found y ≡ true

-- only nets of the netlist and of the roots' cone were found, and what is looked at next is among them
pub record IsFront (m : MachineData) (roots found ahead : List ℕ) : Type 0 where
  pub own : AreOwn m found
  pub only : (y : ℕ) → is_in found y ≡ true → IsInCone m.circuit.cells roots y
  pub ahead_found : AreAmong ahead found

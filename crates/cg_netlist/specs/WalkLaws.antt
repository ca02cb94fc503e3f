-- What is true of walk order, and of the bits that a walk leaves.
use Rattle.std.specs.Prelude.{◌≡◌, ◌≢◌, ℕ, Bool, true, false, List, length, slice_get, Some}
use Rattle.cg_netlist.specs.Chains.{chain, gater_order}
use Rattle.cg_netlist.specs.Circuit.{Circuit, LogicCell, data_inputs, given_nets}
use Rattle.cg_net.specs.NetSets.{is_in}
use Rattle.cg_netlist.specs.Moment.{Settles, values_at}
use Rattle.cg_netlist.specs.Nets.{IsWalk, nets_of, put_cells, walked}
use Rattle.cg_netlist.specs.WellFormed.{IsWellFormed}

-- walk order has all logic cells, each behind those that drive its inputs
abbrev pub WalkOrderIsWalk : Type 0
WalkOrderIsWalk = (c : Circuit) → IsWellFormed c → IsWalk c.cells (walked c.cells)

-- the order of gating cells has all of them, each behind the one that drives its clock pin
abbrev pub GaterOrderIsWalk : Type 0
GaterOrderIsWalk = (c : Circuit) → IsWellFormed c → IsWalk (chain c.gaters) (values_at (chain c.gaters) (gater_order c.gaters))

-- a bit for each data input, each register and each gating cell
pub record AreGiven (c : Circuit) (inputs state gates : List Bool) : Type 0 where
  pub inputs_long : length inputs ≡ length (data_inputs c)
  pub state_long : length state ≡ length c.registers
  pub gates_long : length gates ≡ length c.gaters

-- the bits of all nets, as a function, settle
abbrev pub NetsSettle : Type 0
NetsSettle = (c : Circuit) (walk : List (LogicCell ℕ)) (clock : Bool) (inputs state gates : List Bool) → IsWellFormed c →
    IsWalk c.cells walk → AreGiven c inputs state gates
    → Settles c clock inputs state gates (nets_of c walk clock inputs state gates)

-- and no others do
abbrev pub NetsAreAll : Type 0
NetsAreAll = (c : Circuit) (walk : List (LogicCell ℕ)) (clock : Bool) (inputs state gates nets : List Bool) → IsWellFormed c →
    IsWalk c.cells walk → Settles c clock inputs state gates nets
    → nets_of c walk clock inputs state gates ≡ nets

-- putting the cells over a table that shows the given nets of a moment leaves that moment, whatever else stood there
abbrev pub WalkLeavesMoment : Type 0
WalkLeavesMoment = (c : Circuit) (walk : List (LogicCell ℕ)) (clock : Bool) (inputs state gates nets table : List Bool) →
    IsWellFormed c → IsWalk c.cells walk → Settles c clock inputs state gates nets
    → length table ≡ length c.names → ((net : ℕ) → is_in (given_nets c) net ≡ true → slice_get table net ≡ slice_get nets net) →
    put_cells walk table ≡ nets

-- nets other than the clock do not depend on its bit, but through gating cells and registers
abbrev pub ClockIsApart : Type 0
ClockIsApart = (c : Circuit) (walk : List (LogicCell ℕ)) (inputs state gates : List Bool) → IsWellFormed c → IsWalk c.cells walk →
    AreGiven c inputs state gates → (net : ℕ) → c.clock ≢ Some net
    → slice_get (nets_of c walk true inputs state gates) net ≡ slice_get (nets_of c walk false inputs state gates) net

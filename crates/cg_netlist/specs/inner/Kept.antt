-- What is kept beside the parts of a netlist.
use Rattle.std.specs.Prelude.{◌≡◌, ℕ, List, length, slice_get, Some}
use Rattle.cg_netlist.specs.Circuit.{Circuit, data_inputs}
use Rattle.cg_netlist.specs.Drivers.{AreDrivers}
use Rattle.cg_netlist.specs.Netlist.{IsNetlist, widest_of}
use Rattle.cg_netlist.specs.Nets.{walk_order}
use Rattle.cg_netlist.specs.declared.driver.Driver.{Driver}

-- an order has a place for each of n numbers, and these are their places
pub record ArePlaces (order : List ℕ) (n : ℕ) (places : List ℕ) : Type 0 where
  pub long : length places ≡ n
  pub tells : (k place : ℕ) → slice_get places k ≡ Some place → slice_get order place ≡ Some k

-- a netlist, and what is kept beside it: the data inputs, the greatest number of inputs, walk order, the place of each
-- logic cell in it, and what drives each net
pub record IsKept (c : Circuit) (kept : List ℕ) (greatest : ℕ) (walk places : List ℕ) (table : List Driver) : Type 0 where
  pub netlist : IsNetlist c
  pub inputs : kept ≡ data_inputs c
  pub widest : greatest ≡ widest_of c.cells
  pub order : walk ≡ walk_order c.cells
  pub placed : ArePlaces walk (length c.cells) places
  pub drivers : AreDrivers c table

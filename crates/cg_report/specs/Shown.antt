-- What a watcher is shown of a history.
use Rattle.std.specs.Prelude.{◌≡◌, Bool, List, length}
use Rattle.cg_netlist.specs.Circuit.{Circuit}

-- one moment as it is shown: the clock's bit, a bit for each net, and for each register whether it rose
pub record Shown : Type 0 where
  pub clock : Bool
  pub nets : List Bool
  pub rose : List Bool

-- the moment is one of the netlist: it has a bit for each net and for each register
pub record IsShown (c : Circuit) (now : Shown) : Type 0 where
  pub nets : length now.nets ≡ length c.names
  pub rose : length now.rose ≡ length c.registers

-- a moment may be shown where the watcher stands for moments of a netlist of which this is one
pub record MayShow (stands : Circuit → List Shown → Type 0) (now : Shown) : Type 0 where
  pub circuit : Circuit
  pub before : List Shown
  pub stands_for : stands circuit before
  pub shown : IsShown circuit now

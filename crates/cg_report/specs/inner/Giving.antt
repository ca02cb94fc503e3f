-- A watcher is given the moment at which a simulator is.
use Rattle.std.specs.Prelude.{◌≡◌, Bool, List, [], ◌∷◌, ◌++◌, Some, IsSome}
use Rattle.cg_netlist.specs.Circuit.{Circuit}
use Rattle.cg_netlist.specs.History.{Moment}
use Rattle.cg_edge.specs.Simulated.{Simulated}
use Rattle.cg_report.specs.Shown.{Shown}

-- there is a present moment, and the watcher stands for moments of the netlist
pub record MayGive (stands : Circuit → List Shown → Type 0) (simulated : Simulated) : Type 0 where
  pub present : IsSome simulated.present
  pub moments : List Shown
  pub stands_for : stands simulated.circuit moments

-- whatever the watcher stood for, it stands for the present moment more, with this bit of the clock
abbrev pub Given : (Circuit → List Shown → Type 0) → (Circuit → List Shown → Type 0) → Simulated → Bool → Type 0
Given old_stands new_stands simulated clock = (now : Moment) → simulated.present ≡ Some now → (before : List Shown) →
    old_stands simulated.circuit before
    → new_stands simulated.circuit (before ++ record { clock = clock; nets = now.nets; rose = simulated.rose } ∷ [])
